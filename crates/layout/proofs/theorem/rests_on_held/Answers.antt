use Rattle.layout.proofs.RestsOnHeld.{rests_on_held}
use Rattle.layout.proofs.theorem.rests_on_held.Goals as goal

pub returns : goal.returns
returns c = rests_on_held
