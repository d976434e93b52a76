use Rattle.std.proofs.Common.{rules}
use Rattle.medium.proofs.Cutting.{cut_flat}
use Rattle.medium.proofs.cut.TrialCut.cut.Goals as goal

pub returns : goal.returns
returns c = search (rules, cut_flat)
