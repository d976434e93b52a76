-- Clearing the number of a change that was never saved.
use Rattle.std.specs.Prelude.{◌≡◌, ℕ, ◌<◌, ◌⊎◌, List, [], ◌∷◌, length, Some, None, Option}
use Rattle.octets.specs.Files.{word}
use Rattle.octets.specs.Parts.{patched}
use Rattle.layout.specs.declared.header.Side.{Side}
use Rattle.layout.specs.Pages.{records, start}
use Rattle.layout.specs.Sound.{Sound}
use Rattle.draft.specs.Drafts.{begun_side}
use Rattle.guard.specs.Guard.{Base}

-- a number of zero
abbrev pub zeros : List ℕ
zeros = 0 ∷ 0 ∷ 0 ∷ 0 ∷ []

-- a page with the number on a side, if one is given, put to zero
abbrev pub cleared_on : List ℕ → Option Side → List ℕ
cleared_on page None = page
cleared_on page (Some s) = patched page (start s) zeros

-- a page with the number that is one more than the counter, if there is one, put to zero
abbrev pub cleared : ℕ → List ℕ → List ℕ
cleared counter page = cleared_on page (begun_side counter page)

-- a content of word k that clearing may leave: as it was, or as cleared
abbrev pub Clearing : ℕ → List ℕ → ℕ → List ℕ → Type 0
Clearing counter page k w = (w ≡ word page k) ⊎ (w ≡ word (cleared counter page) k)

-- clearing a sound page keeps its records, whatever of it has come down: a page of such words is sound and reads alike,
-- and the cleared page is one at which an edit can begin
abbrev pub Clears : Type 0
Clears = (counter pages q : ℕ) (page : List ℕ) → length page ≡ 1024 → Sound counter pages q page
    → ((f : List ℕ) → length f ≡ 1024 → ((k : ℕ) → k < 256 → Clearing counter page k (word f k))
    → Sound counter pages q f × (records counter f ≡ records counter page))
    × Base counter pages q (cleared counter page)
