-- The word that a header begins with.
use Rattle.std.proofs.Common.{◌≡◌, ℕ, ◌+◌, ◌*◌, ◌/◌, ◌<◌, ◌≤◌, ◌⊎◌, List, refl, inl, inr, arith}
use Rattle.std.proofs.lemmas.Bool.{cases_lt}
use Rattle.octets.specs.Files.{word}
use Rattle.octets.specs.Numbers.{big}
use Rattle.layout.specs.declared.header.Side.{Side}
use Rattle.layout.specs.declared.header.Side.TheVariants.{A, B}
use Rattle.layout.specs.Pages.{number_of, start}
use Rattle.layout.specs.Held.{InHeader}

-- a header begins with a word, its number
pub start_word : (s : Side) → 4 * (start s / 4) ≡ start s
start_word A = refl
start_word B = refl

pub start_few : (s : Side) → start s / 4 < 256
start_few A = omega arith
start_few B = omega arith

pub number_word : (page : List ℕ) (s : Side) → big (word page (start s / 4)) ≡ number_of page s
unfolding number_of
number_word page A = refl
number_word page B = refl

-- a byte that is not in a header lies before its number or behind it
pub outside : (s : Side) (k : ℕ) → (InHeader s k → ⊥) → (k < start s) ⊎ (start s + 4 ≤ k)
outside s k never = elim (cases_lt k (start s)) [
  | inl l ↦ inl l
  | inr l ↦ elim (cases_lt k (start s + 4)) [ inl m ↦ absurd (never (l, omega arith)) | inr m ↦ inr m ]
]
