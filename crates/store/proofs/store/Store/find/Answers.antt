use Rattle.std.proofs.Common.{length, Ok, Err, subst, inl}
use Rattle.std.proofs.lemmas.Result.{err_from_is_err_and}
use Rattle.store.specs.Looks.{Looks}
use Rattle.store.proofs.LookWays.{readable_at}
use Rattle.store.proofs.store.Store.find.Goals as goal

pub returns-in_err-first : goal.returns-in_err-first
returns-in_err-first g c =
    let p = err_from_is_err_and c.from_residual.result c.from_residual.ensures.1 in
    let whole = c.in-Some.ensures.cases in
    rw (p.1, p.2) (inl (readable_at c.args.self.now.state (length c.args.work.now) (Err c.in_err-first.field-0.0) whole.long c.in_err-first.ensures, whole.same))

pub returns-in_err-place : goal.returns-in_err-place
returns-in_err-place g c =
    let p = err_from_is_err_and c.from_residual-in_err-place.result c.from_residual-in_err-place.ensures.1 in
    rw (p.1, p.2)
    (subst (λ w. Looks (g.M.Medium.meaning c.args.self.now.medium) c.args.self.now.state c.args.key w c.seek.new.page (Err c.in_err-place.field-0.0)) c.in-Some.ensures.cases.same
    c.in_err-place.ensures)

pub returns : goal.returns
returns g c = (
  subst (λ w. Looks (g.M.Medium.meaning c.args.self.now.medium) c.args.self.now.state c.args.key w c.seek.new.page (Ok c.in_ok-place.place)) c.in-Some.ensures.cases.same c.in_ok-place.ensures,
  (c.in_ok-first.first, c.in_ok-first.ensures.1, c.page_of.ensures),
)
