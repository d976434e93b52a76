use Rattle.guard.proofs.Cleared.{clears}
use Rattle.guard.proofs.clears.Goals as goal

pub returns : goal.returns
returns c = clears
