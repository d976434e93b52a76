-- Faults as text, over the characters' codes.
use Rattle.std.specs.Prelude.{ℕ, List, codes}
use Rattle.medium.specs.declared.fault.MediumFault.{MediumFault}
use Rattle.medium.specs.declared.fault.MediumFault.TheVariants.{BadRun, Stopped}

-- why a medium refuses, in a word or two
abbrev pub fault_text : MediumFault → List ℕ
fault_text BadRun = codes "bad run"
fault_text Stopped = codes "stopped"
