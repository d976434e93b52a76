use Rattle.std.proofs.Common.{rules}
use Rattle.medium.proofs.Cutting.{settled_leaves}
use Rattle.medium.proofs.laws.write_settled.Goals as goal

pub returns : goal.returns
returns g c = search (rules, settled_leaves)
