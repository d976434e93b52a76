use Rattle.std.proofs.Common.{length, Ok, Err, subst, inl, inr}
use Rattle.std.proofs.lemmas.Result.{err_from_is_err_and}
use Rattle.store.specs.Nexts.{Sweeps}
use Rattle.store.proofs.NextWays.{next_by}
use Rattle.store.proofs.LookWays.{readable_at}
use Rattle.store.proofs.store.Store.next.Goals as goal

pub returns-in_err-first : goal.returns-in_err-first
returns-in_err-first g c =
    let p = err_from_is_err_and c.from_residual.result c.from_residual.ensures.1 in
    let whole = c.in-Some.ensures.cases in
    rw (p.1, p.2) (inl (readable_at c.args.self.now.state (length c.args.work.now) (Err c.in_err-first.field-0.0) whole.long c.in_err-first.ensures, whole.same))

pub returns-in_err-nearest : goal.returns-in_err-nearest
returns-in_err-nearest g c =
    let p = err_from_is_err_and c.from_residual-in_err-nearest.result c.from_residual-in_err-nearest.ensures.1 in
    let whole = c.in-Some.ensures.cases in
    let ready = readable_at c.args.self.now.state (length c.args.work.now) (Ok c.in_ok-first.first) whole.long c.in_ok-first.ensures in
    rw (p.1, p.2)
    (inr (c.in_ok-first.first, ready, inl (subst (λ w. Sweeps (g.M.Medium.meaning c.args.self.now.medium) c.in_ok-first.first c.args.least w c.nearest.new.work (Err c.in_err-nearest.field-0.0)) whole.same c.in_err-nearest.ensures)))

pub returns : goal.returns
returns g c =
    let whole = c.in-Some.ensures.cases in
    let ready = readable_at c.args.self.now.state (length c.args.work.now) (Ok c.in_ok-first.first) whole.long c.in_ok-first.ensures in
    next_by (g.M.Medium.meaning c.args.self.now.medium) c.args.self.now.state c.args.least c.args.work.now c.nearest.new.work c.in_ok-first.first ready
    c.in_ok-nearest.field-0 c.ok_or.result c.in_ok-nearest.ensures c.ok_or.ensures.value
