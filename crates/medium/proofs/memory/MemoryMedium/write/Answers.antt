use Rattle.std.proofs.Common.{rules}
use Rattle.medium.proofs.Writes.{wrote_flat}
use Rattle.medium.proofs.memory.MemoryMedium.write.Goals as goal

pub returns-clause-rule : goal.returns-clause-rule
returns-clause-rule c = let g = c.in_ok-admit.ensures.0 in search (rules, wrote_flat)
