-- Bytes as a medium that shows them, and of which a cut can leave nothing else.
use Rattle.std.specs.Prelude.{◌≡◌, ℕ, ◌*◌, Bool, List, drop, refl}
use Rattle.std.proofs.Common.{arith, length-drop}
use Rattle.std.proofs.lemmas.List.{length-take-le}
use Rattle.octets.specs.Files.{file_of, page_at, word}
use Rattle.medium.specs.Meaning.{Meaning, Sized, Shows}

-- the medium of these bytes, stopped or not
abbrev pub flat : Bool → List ℕ → Meaning
flat stopped bytes = record {
  pages = (file_of bytes).count;
  stopped = stopped;
  shown = page_at bytes;
  possible = λ p k w. w ≡ word (page_at bytes p) k;
}

-- every page of it has 1,024 bytes
pub flat_sized : (stopped : Bool) (bytes : List ℕ) → Sized (flat stopped bytes)
flat_sized stopped bytes = record {
  full = λ p h. length-take-le 1024 (drop (p * 1024) bytes) (omega (arith, length-drop (p * 1024) bytes));
}

-- what it shows is what may be left of it
pub flat_shows : (stopped : Bool) (bytes : List ℕ) → Shows (flat stopped bytes)
flat_shows stopped bytes = record { shown_possible = λ runs p k l h. refl }
