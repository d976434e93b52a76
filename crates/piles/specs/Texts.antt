-- Answers as text, over the characters' codes.
use Rattle.std.specs.Prelude.{ℕ, List, Ok, Err, codes, Result}
use Rattle.medium.specs.declared.fault.MediumFault.{MediumFault}
use Rattle.medium.specs.Texts.{fault_text}

-- `ok`, or why the medium refused
abbrev pub said_text : Result (Unit {0}) MediumFault → List ℕ
said_text (Ok _) = codes "ok"
said_text (Err fault) = fault_text fault
