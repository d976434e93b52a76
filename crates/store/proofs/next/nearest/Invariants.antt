use Rattle.std.proofs.Common.{◌≡◌, ℕ, ◌-◌, ◌<◌, ◌≤◌, cond, eqb}
use Rattle.store.specs.Access.{Grants}
use Rattle.store.specs.Nexts.{Least}
use Rattle.store.proofs.NextWays.{Passed}
use Rattle.store.proofs.next.nearest.Given as goal

abbrev pub invariant-loop-q : goal.invariant-loop-q
invariant-loop-q g l =
    ((j : ℕ) → 1 ≤ j → j < l.q → Grants (g.M.Medium.meaning l.medium) j)
    × (l.work ≡ cond (eqb l.q 1) l.initial.work ((g.M.Medium.meaning l.medium).shown (l.q - 1)))
    × Least (Passed (g.M.Medium.meaning l.medium) l.first l.least l.q) l.best
