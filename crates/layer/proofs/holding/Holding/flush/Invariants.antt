use Rattle.std.proofs.Common.{◌≡◌, false, List, drop}
use Rattle.layer.specs.Below.{Flushes, Halts}
use Rattle.layer.specs.Holds.{images}
use Rattle.layer.specs.declared.held.Held.{Held}
use Rattle.layer.proofs.holding.Holding.flush.Given as goal

-- the medium runs, all are held still, and what goes on from image i on has gone on so from the start
abbrev pub invariant-loop-i : goal.invariant-loop-i
invariant-loop-i g l =
    ((g.M.Medium.meaning l.self.medium).stopped ≡ false) × (images l.self ≡ images l.initial.self)
    × ((y : g.row.M.Denot) → Flushes g.M.Medium.meaning (drop l.i (images l.initial.self)) l.self.medium y
    → Flushes g.M.Medium.meaning (images l.initial.self) l.initial.self.medium y)
    × ((gs : List Held) (y : g.row.M.Denot) → Halts g.M.Medium.meaning (drop l.i (images l.initial.self)) l.self.medium gs y
    → Halts g.M.Medium.meaning (images l.initial.self) l.initial.self.medium gs y)
