-- A family of forms under the numbers of its kinds.
use Rattle.std.specs.Prelude.{ℕ, List, Result}
use Rattle.form.specs.declared.by_number.ByNumber.{ByNumber}
use Rattle.form.specs.declared.form.BadByte.{BadByte}
use Rattle.form.specs.Wraps.{wrapped, reads_numbered}

-- a value of the family, to go by its kind's number
abbrev pub by_number : {A : Type 0} → A → ByNumber A
by_number v = record { 0 = v }

-- the kind of a value: the number of the kind that it has in its family
abbrev pub by_number_kind : {A K : Type 0} → (A → K) → (K → ℕ) → ByNumber A → ℕ
by_number_kind kind number v = number (kind v.0)

-- the bytes of a value: those that it has in its family
abbrev pub by_number_bytes : {A : Type 0} → (A → List ℕ) → ByNumber A → List ℕ
by_number_bytes bytes v = bytes v.0

-- the value that bytes stand for under a number, or their first bad byte: what the family says under the kind with that number
abbrev pub by_number_reads : {A K : Type 0} → (ℕ → Result K BadByte) → (K → List ℕ → Result A BadByte) → ℕ → List ℕ → Result (ByNumber A) BadByte
by_number_reads numbered reads n b = wrapped by_number (reads_numbered numbered reads n b)
