use Rattle.std.proofs.Common.{refl, inr}
use Rattle.std.proofs.lemmas.Result.{err_from_is_err_and}
use Rattle.store.proofs.store.Store.save.Goals as goal

pub returns-in_err-commit : goal.returns-in_err-commit
returns-in_err-commit g c =
    let p = err_from_is_err_and c.from_residual-in_err-commit.result c.from_residual-in_err-commit.ensures.1 in
    rw (p.1, p.2) (record { saves = inr ((c.in_ok-first.first, c.in_ok-first.ensures.0), c.in_err-commit.ensures, c.in_ok-first.ensures.1); edit = refl })

pub returns : goal.returns
returns g c =
    record { saves = ((c.in_ok-first.first, c.in_ok-first.ensures.0, (_, refl, refl, refl)), c.in_ok-commit.ensures, refl, refl); edit = refl }
