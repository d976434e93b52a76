use Rattle.std.proofs.Common.{length}
use Rattle.layer.proofs.held.drop_all.Given as goal

abbrev pub decreases-loop : goal.decreases-loop
decreases-loop g l = length l.held.items
