use Rattle.std.proofs.Common.{ℕ, ◌<◌, ◌++◌}
use Rattle.draft.specs.Places.{Room}
use Rattle.draft.proofs.place.place.Given as goal

-- no place above `at` has room
abbrev pub invariant-loop-at : goal.invariant-loop-at
invariant-loop-at l = (q : ℕ) → l.at < q → Room (l.saved ++ l.slots) l.n q → ⊥
