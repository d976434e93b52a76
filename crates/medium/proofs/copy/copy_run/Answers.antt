use Rattle.std.proofs.Common.{rules}
use Rattle.medium.proofs.Writes.{read_is}
use Rattle.medium.proofs.copy.copy_run.Goals as goal

pub returns : goal.returns
returns c = search (rules, read_is)
