-- What reading a word or a line comes to.
use Rattle.std.specs.Prelude.{Ok, Err, Result}
use Rattle.script.specs.declared.fault.Fault.{Fault}
use Rattle.script.specs.declared.fault.Fault.TheVariants.{Bad, Memory}

-- what holds of an answer, and what holds where the grammar is not met; want of memory says nothing
abbrev pub Read : {X : Type 0} → Result X Fault → (X → Type 0) → Type 0 → Type 0
Read (Ok x) P Q = P x
Read (Err Bad) P Q = Q
Read (Err (Memory error)) P Q = Unit {0}
