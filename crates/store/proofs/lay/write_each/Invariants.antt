use Rattle.std.specs.List.{range_with_len}
use Rattle.store.specs.Lays.{Writes}
use Rattle.store.proofs.lay.write_each.Given as goal

abbrev pub invariant-loop-q : goal.invariant-loop-q
invariant-loop-q g l = Writes g.M.Medium.meaning l.image (range_with_len 0 l.q) l.initial.medium l.medium
