use Rattle.std.proofs.Common.{ℕ, refl, subst, inr}
use Rattle.std.proofs.lemmas.Result.{err_from_is_err_and}
use Rattle.store.specs.Opening.{Clears, ClearsUntil}
use Rattle.store.proofs.store.Store.abandon.Goals as goal

pub returns-in_err-clear_each : goal.returns-in_err-clear_each
returns-in_err-clear_each g c =
    let p = err_from_is_err_and c.from_residual-in_err-clear_each.result c.from_residual-in_err-clear_each.ensures.1 in
    rw (p.1, p.2)
    (record {
      abandons = inr (
        c.in_ok-first.first,
        c.in_ok-first.ensures.0,
        c.in_ok-first.ensures.1,
        subst (λ qs. ClearsUntil g.M.Medium.meaning c.in_ok-first.first.counter qs c.args.self.now.medium c.clear_each.new.medium c.in_err-clear_each.field-0.0) c.pages.ensures c.in_err-clear_each.ensures,
      );
      edit = refl;
    })

pub returns : goal.returns
returns g c =
    record {
      abandons = (
        c.in_ok-first.first,
        c.in_ok-first.ensures.0,
        refl,
        subst (λ qs. (n : ℕ) × Clears g.M.Medium.meaning c.in_ok-first.first.counter qs c.args.self.now.medium c.clear_each.new.medium n) c.pages.ensures c.in_ok-clear_each.ensures,
      );
      edit = refl;
    }
