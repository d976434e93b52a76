-- Readings of a form as those of a larger family.
use Rattle.std.specs.Prelude.{ℕ, List, Ok, Err, Result}
use Rattle.form.specs.declared.form.BadByte.{BadByte}

-- a reading whose value is put into a larger type; a refused one is kept
abbrev pub wrapped : {A B : Type 0} → (A → B) → Result A BadByte → Result B BadByte
wrapped f (Ok x) = Ok (f x)
wrapped f (Err e) = Err e

-- a reading under a kind that was found, or the bad byte where none was
abbrev pub reads_as_found : {A K : Type 0} → (K → List ℕ → Result A BadByte) → Result K BadByte → List ℕ → Result A BadByte
reads_as_found reads (Ok k) b = reads k b
reads_as_found reads (Err e) b = Err e

-- the value that bytes stand for under the kind with a number, or their first bad byte
abbrev pub reads_numbered : {A K : Type 0} → (ℕ → Result K BadByte) → (K → List ℕ → Result A BadByte) → ℕ → List ℕ → Result A BadByte
reads_numbered numbered reads n b = reads_as_found reads (numbered n) b
