-- How a store stands to its book, at every moment of a use.
use Rattle.std.specs.Prelude.{◌≡◌, ℕ, ◌+◌, ◌^◌, ◌<◌, ◌≤◌, false, ◌⊎◌, List, [], ◌∷◌, length, None}
use Rattle.std.specs.List.{AllByRecursion}
use Rattle.octets.specs.Files.{File, word}
use Rattle.medium.specs.Cuts.{CutFile, shown_file}
use Rattle.medium.specs.Meaning.{Meaning, Settles}
use Rattle.layout.specs.declared.first.FirstPage.{FirstPage}
use Rattle.layout.specs.Pages.{page_of, records}
use Rattle.layout.specs.Sound.{FirstSound, SoundFile, counter_of, pages_of}
use Rattle.draft.specs.Drafts.{begun_side, draft_records}
use Rattle.guard.specs.Changes.{Drafted, value_in}
use Rattle.guard.specs.Guard.{Allowed, Base}
use Rattle.store.specs.declared.state.State.{State}
use Rattle.store.specs.declared.state.State.TheVariants.{Shut, Open, Editing}
use Rattle.book.specs.Books.{Book, Faithful, Says, Values}

-- page q is one after the first, of a file of so many
abbrev pub Later : ℕ → ℕ → Type 0
Later pages q = (1 ≤ q) × (q < pages)

-- every content that a cut may leave of a word of page q is one of these
abbrev pub Within : Meaning → ℕ → (ℕ → List ℕ → Type 0) → Type 0
Within m q Of = (k : ℕ) → k < 256 → (w : List ℕ) → m.possible q k w → Of k w

-- what is saved rests on the base, the pages as they stood when the file was last opened or saved: of the first page a cut
-- leaves nothing else, and of the others only words that keep what the base has saved
pub record Rests (m : Meaning) (first : FirstPage) (base : ℕ → List ℕ) (saved : Values) : Type 0 where
  pub long : length (base 0) ≡ 1024
  pub sound : FirstSound m.pages (base 0)
  pub pages : pages_of (base 0) ≡ first.pages
  pub counter : counter_of (base 0) ≡ first.counter
  pub zero : Within m 0 (λ k w. w ≡ word (base 0) k)
  pub bases : (q : ℕ) → Later first.pages q → Base first.counter first.pages q (base q)
  pub words : (q : ℕ) → Later first.pages q → Within m q (Allowed first.counter (base q))
  pub said : (key : ℕ) → value_in (records first.counter (base (page_of first.pages key))) key ≡ saved key

-- what is shown while the medium runs: the first page as in the base, the others as an edit may have changed them
pub record Stands (m : Meaning) (first : FirstPage) (base : ℕ → List ℕ) : Type 0 where
  pub zero : m.shown 0 ≡ base 0
  pub drafted : (q : ℕ) → Later first.pages q → Drafted first.counter first.pages q (base q) (m.shown q)

-- page q is among some pages
abbrev pub Has : ℕ → List ℕ → Type 0
Has q [] = ⊥
Has q (p ∷ ps) = (q ≡ p) ⊎ Has q ps

-- no change is shown, but on the pages named
abbrev pub CleanBut : Meaning → FirstPage → List ℕ → Type 0
CleanBut m first touched = (q : ℕ) → Later first.pages q → (begun_side first.counter (m.shown q) ≡ None) ⊎ Has q touched

-- the drafts shown are the book's
abbrev pub Drafts : Meaning → FirstPage → Values → Type 0
Drafts m first draft = (key : ℕ) → value_in (draft_records first.counter (m.shown (page_of first.pages key))) key ≡ draft key

-- a sound file at rest, which says what is saved
pub record Found (m : Meaning) (saved : Values) : Type 0 where
  pub only : Settles m
  pub sound : SoundFile (shown_file m)
  pub says : Says (shown_file m) saved

-- every file that a cut may leave is one that the book allows
abbrev pub Safe : Meaning → Book → Type 0
Safe m b = (f : File) → CutFile m f → Faithful b f

-- shut: safe, and while the medium runs the file is still as it was found. Opened: what is saved rests, and while the medium
-- runs no change is shown. In an edit: what is saved rests, and while the medium runs the changes shown are on the pages
-- touched, and are the book's draft.
abbrev pub Keeps : Meaning → State → List ℕ → Book → Type 0
Keeps m Shut touched b = Safe m b × (m.stopped ≡ false → Found m b.saved)
Keeps m (Open first) touched b =
    (base : ℕ → List ℕ) × Rests m first base b.saved × (m.stopped ≡ false → Stands m first base × CleanBut m first [])
Keeps m (Editing first) touched b =
    (base : ℕ → List ℕ) × Rests m first base b.saved × (first.counter + 1 < 2 ^ 32) × AllByRecursion (Later first.pages) touched
    × (m.stopped ≡ false → Stands m first base × CleanBut m first touched × Drafts m first b.draft)
