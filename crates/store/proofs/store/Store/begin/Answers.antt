use Rattle.std.proofs.Common.{refl, arith}
use Rattle.store.proofs.store.Store.begin.Goals as goal

pub returns-then-first : goal.returns-then-first
returns-then-first g c = record { begins = ((c.in-Open.first, c.in-Open.is, omega arith), refl, refl); medium = refl }

pub returns : goal.returns
returns g c =
    record { begins = (c.in-Open.first, c.in-Open.is, omega arith, refl, refl, c.reset.ensures.0, c.reset.ensures.1); medium = refl }
