use Rattle.std.proofs.Common.{get_or, Err, Result, sym, ap, ◌∙◌, subst, rules}
use Rattle.std.proofs.lemmas.Result.{err_from_is_err_and}
use Rattle.medium.specs.declared.fault.MediumFault.{MediumFault}
use Rattle.layer.specs.Below.{Lowers}
use Rattle.layer.specs.Holds.{images}
use Rattle.layer.proofs.Lowering.{stuck_at, went_down, went_past}
use Rattle.layer.proofs.holding.Holding.lower.Goals as goal

pub returns-in_err-write-clause-lowers : goal.returns-in_err-write-clause-lowers
returns-in_err-write-clause-lowers g c =
    let m = g.M.Medium.meaning in
    let h = c.index-deref-i.result in
    let hs = images c.args.self.now in
    let a = c.args.self.now.medium in
    let b = c.write.new.self in
    let s = stuck_at m h a b _ (search rules) c.requires.runs c.in_err-write.ensures in
    let p = err_from_is_err_and c.from_residual.result c.from_residual.ensures.1 in
    subst (λ (r : Result (Unit {0}) MediumFault). Lowers m hs c.args.i a b r) (sym (p.1 ∙ ap Err p.2))
    (h, c.index-deref-i.is ∙ ap (λ l. get_or l c.args.i h) c.deref.ensures.0, s.0, s.1)

pub returns-in_ok-write-clause-lowers : goal.returns-in_ok-write-clause-lowers
returns-in_ok-write-clause-lowers g c =
    let h = c.index-deref-i.result in (
      h,
      c.index-deref-i.is ∙ ap (λ l. get_or l c.args.i h) c.deref.ensures.0,
      went_down g.M.Medium.meaning h c.args.self.now.medium c.write.new.self (search rules) c.in_ok-write.ensures,
    )

pub returns-else-held-pages-clause-lowers : goal.returns-else-held-pages-clause-lowers
returns-else-held-pages-clause-lowers g c =
    let h = c.index-deref-i.result in
    (h, c.index-deref-i.is ∙ ap (λ l. get_or l c.args.i h) c.deref.ensures.0, went_past g.M.Medium.meaning h c.args.self.now.medium (search rules))
