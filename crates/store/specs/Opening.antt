-- Checking and clearing the pages of a file on a medium.
use Rattle.std.specs.Prelude.{◌≡◌, ℕ, ◌+◌, ◌-◌, ◌<◌, ◌≤◌, Bool, cond, List, [], ◌∷◌, length, take, Ok, Err, Result, slice_index}
use Rattle.std.specs.List.{range_with_len}
use Rattle.medium.specs.Meaning.{Meaning}
use Rattle.layout.specs.declared.first.FirstPage.{FirstPage}
use Rattle.layout.specs.Sound.{Sound}
use Rattle.store.specs.declared.refusal.Refusal.{Refusal}
use Rattle.store.specs.declared.refusal.Refusal.TheVariants.{Unsound}
use Rattle.store.specs.Clearing.{ClearsPage}

-- the pages after the first, in order
abbrev pub later_pages : ℕ → List ℕ
later_pages pages = range_with_len 1 (pages - 1)

-- page q is shown sound
abbrev pub SoundOn : Meaning → FirstPage → ℕ → Type 0
SoundOn m first q = Sound first.counter first.pages q (m.shown q)

-- the pages after the first are read one by one: all sound, or the lowest that is not; the work page has the last one read
abbrev pub ChecksPages : Meaning → FirstPage → List ℕ → Result (Unit {0}) Refusal → Type 0
ChecksPages m first work (Ok _) = ((q : ℕ) → 1 ≤ q → q < first.pages → SoundOn m first q) × (work ≡ m.shown (first.pages - 1))
ChecksPages m first work (Err e) =
    (q : ℕ) × (e ≡ Unsound q) × (1 ≤ q) × (q < first.pages) × (SoundOn m first q → ⊥)
    × ((j : ℕ) → 1 ≤ j → j < q → SoundOn m first j) × (work ≡ m.shown q)

-- pages are cleared one after the other, n numbers in all
abbrev pub Clears : {M : Type 0} → (M → Meaning) → ℕ → List ℕ → M → M → ℕ → Type 0
Clears meaning counter [] a b n = (b ≡ a) × (n ≡ 0)
Clears {M} meaning counter (q ∷ qs) a b n =
    (x : M) × (t : Bool) × (k : ℕ) × ClearsPage meaning counter q a x (Ok t) × Clears meaning counter qs x b k × (n ≡ cond t 1 0 + k)

-- of these pages some are cleared, and then one is refused
abbrev pub ClearsUntil : {M : Type 0} → (M → Meaning) → ℕ → List ℕ → M → M → Refusal → Type 0
ClearsUntil {M} meaning counter qs a b e =
    (i : ℕ) × (i < length qs) × ((x : M) × ((n : ℕ) × Clears meaning counter (take i qs) a x n) × ClearsPage meaning counter (slice_index qs i) x b (Err e))
