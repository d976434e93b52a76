use Rattle.std.proofs.Common.{ℕ, take}
use Rattle.store.specs.Opening.{Clears}
use Rattle.store.proofs.ends.clear_each.Given as goal

abbrev pub invariant-loop-page : goal.invariant-loop-page
invariant-loop-page g l = (n : ℕ) × Clears g.M.Medium.meaning l.counter (take l.page-index l.pages) l.initial.medium l.medium n
