use Rattle.std.proofs.Common.{rules}
use Rattle.octets.proofs.Clamped.{part_within}
use Rattle.octets.proofs.part.Goals as goal

pub returns : goal.returns
returns c = search (rules, part_within)
