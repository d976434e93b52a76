use Rattle.std.proofs.Common.{◌≤◌}
use Rattle.store.specs.Opening.{Clears, later_pages}
use Rattle.store.proofs.open.clear_pages.Given as goal

abbrev pub invariant-loop-q : goal.invariant-loop-q
invariant-loop-q g l =
    Clears g.M.Medium.meaning l.first.counter (later_pages l.q) l.initial.medium l.medium l.cleared × (l.cleared ≤ l.q)
