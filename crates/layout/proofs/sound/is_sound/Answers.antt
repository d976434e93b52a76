use Rattle.layout.proofs.RestsOnHeld.{rests_on_held}
use Rattle.layout.proofs.sound.is_sound.Goals as goal

pub returns-in-Some-clause-rests : goal.returns-in-Some-clause-rests
returns-in-Some-clause-rests c = rests_on_held

pub returns-in-None-clause-rests : goal.returns-in-None-clause-rests
returns-in-None-clause-rests c = rests_on_held

pub returns-else-numbers_sound-clause-rests : goal.returns-else-numbers_sound-clause-rests
returns-else-numbers_sound-clause-rests c = rests_on_held
