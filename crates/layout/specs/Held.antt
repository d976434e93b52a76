-- The bytes that a page's records rest on.
use Rattle.std.specs.Prelude.{◌≡◌, ℕ, ◌+◌, ◌<◌, ◌≤◌, ◌⊎◌, List, length, MatchOption, slice_index}
use Rattle.layout.specs.declared.header.Side.{Side}
use Rattle.layout.specs.declared.header.Side.TheVariants.{A, B}
use Rattle.layout.specs.declared.header.Slot.{Slot}
use Rattle.layout.specs.Pages.{start, number_of, slot_of, valid, records}
use Rattle.layout.specs.Sound.{Sound}

-- byte k lies in a header: its number, its count, two zero bytes and 24 slots
abbrev pub InHeader : Side → ℕ → Type 0
InHeader s k = (start s ≤ k) × (k < start s + 104)

-- byte k lies in a slot's record
abbrev pub Covers : Slot → ℕ → Type 0
Covers s k = (s.offset ≤ k) × (k < s.offset + s.length)

-- byte k is held: it lies in the valid header or in a record of it
abbrev pub Held : ℕ → List ℕ → ℕ → Type 0
Held counter page k =
    MatchOption (valid counter page) ⊥ (λ h. InHeader h.side k ⊎ ((j : ℕ) × (j < h.count) × Covers (slot_of page h.side j) k))

-- two pages agree in both edit numbers and in every byte that the first holds
pub record Agree (counter : ℕ) (a b : List ℕ) : Type 0 where
  pub long_a : length a ≡ 1024
  pub long_b : length b ≡ 1024
  pub number_a : number_of b A ≡ number_of a A
  pub number_b : number_of b B ≡ number_of a B
  pub held : (k : ℕ) → Held counter a k → slice_index b k ≡ slice_index a k

-- pages that agree so are sound together, and then have the same records:
-- nothing rests on any other byte of a page
abbrev pub RestsOnHeld : Type 0
RestsOnHeld = (counter pages q : ℕ) (a b : List ℕ) → Agree counter a b
    → (Sound counter pages q a → Sound counter pages q b × (records counter b ≡ records counter a))
    × (Sound counter pages q b → Sound counter pages q a)
