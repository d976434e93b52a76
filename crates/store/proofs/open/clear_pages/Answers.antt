use Rattle.std.proofs.Common.{◌≡◌, cond, ◌∙◌, arith}
use Rattle.std.proofs.lemmas.Result.{err_from_is_err_and}
use Rattle.store.proofs.Sweeps.{bool_le, bool_number, later_clears, later_until}
use Rattle.store.proofs.open.clear_pages.Goals as goal

pub returns-in_err-clear_page : goal.returns-in_err-clear_page
returns-in_err-clear_page g c =
    let p = err_from_is_err_and c.from_residual.result c.from_residual.ensures.1 in
    rw (p.1, p.2)
    (later_until g.M.Medium.meaning c.args.first.counter c.args.first.pages c.loop-q.q c.args.medium.now c.loop-q.medium c.clear_page.new.medium c.loop-q.cleared
    c.in_err-clear_page.field-0.0 (omega arith) c.loop-q-test.true c.loop-q.invariant.0 c.in_err-clear_page.ensures)

pub loop-q-preserved : goal.loop-q-preserved
loop-q-preserved g c =
    let t = c.in_ok-clear_page.field-0 in
    let is : c.from.result ≡ cond t 1 0 = c.from.ensures ∙ bool_number t in (
      later_clears g.M.Medium.meaning c.args.first.counter c.loop-q.q c.args.medium.now c.loop-q.medium c.clear_page.new.medium c.loop-q.cleared c.from.result t (omega arith)
          c.loop-q.invariant.0 c.in_ok-clear_page.ensures is,
      omega (arith, c.loop-q.invariant.1, bool_le t),
    )
