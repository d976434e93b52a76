-- What an open edit may leave of a page, word by word, and that it reads as last saved.
use Rattle.std.specs.Prelude.{◌≡◌, ℕ, ◌+◌, ◌*◌, ◌/◌, ◌<◌, ◌≤◌, ◌⊎◌, List, length, slice_index}
use Rattle.octets.specs.Files.{word}
use Rattle.octets.specs.Numbers.{big}
use Rattle.layout.specs.declared.header.Side.{Side}
use Rattle.layout.specs.declared.header.Side.TheVariants.{A, B}
use Rattle.layout.specs.Held.{Held}
use Rattle.layout.specs.Pages.{number_of, records, start}
use Rattle.layout.specs.Sound.{Sound}
use Rattle.draft.specs.Drafts.{target}

-- the other header of a page
abbrev pub other : Side → Side
other A = B
other B = A

-- a page as it stands when an edit begins: sound, and with no number above the counter
pub record Base (counter pages q : ℕ) (base : List ℕ) : Type 0 where
  pub long : length base ≡ 1024
  pub sound : Sound counter pages q base
  pub low_a : number_of base A ≤ counter
  pub low_b : number_of base B ≤ counter

-- a number that the header being written over may show: its old one, one more than the counter, or none
abbrev pub MayNumber : ℕ → List ℕ → ℕ → Type 0
MayNumber counter base n = (n ≡ number_of base (target counter base)) ⊎ ((n ≡ counter + 1) ⊎ (n ≡ 0))

-- a content of word k that keeps what was saved: every byte that the base holds, the number of the header that is not
-- written over, and for the other header's number one that it may show
pub record Allowed (counter : ℕ) (base : List ℕ) (k : ℕ) (w : List ℕ) : Type 0 where
  pub long : length w ≡ 4
  pub held : (j : ℕ) → j < 4 → Held counter base (4 * k + j) → slice_index w j ≡ slice_index base (4 * k + j)
  pub kept : 4 * k ≡ start (other (target counter base)) → w ≡ word base k
  pub number : 4 * k ≡ start (target counter base) → MayNumber counter base (big w)

-- the same of a whole page
pub record Near (counter : ℕ) (base page : List ℕ) : Type 0 where
  pub long : length page ≡ 1024
  pub held : (k : ℕ) → Held counter base k → slice_index page k ≡ slice_index base k
  pub kept : word page (start (other (target counter base)) / 4) ≡ word base (start (other (target counter base)) / 4)
  pub number : MayNumber counter base (number_of page (target counter base))

-- a page made of allowed words, chosen word by word, is sound and has the saved records
abbrev pub Guards : Type 0
Guards = (counter pages q : ℕ) (base page : List ℕ) → Base counter pages q base → length page ≡ 1024
    → ((k : ℕ) → k < 256 → Allowed counter base k (word page k))
    → Sound counter pages q page × (records counter page ≡ records counter base)
