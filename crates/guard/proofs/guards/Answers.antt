use Rattle.guard.proofs.Nearby.{guards}
use Rattle.guard.proofs.guards.Goals as goal

pub returns : goal.returns
returns c = guards
