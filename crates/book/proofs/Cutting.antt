-- What a cut leaves of a store that keeps to its book.
use Rattle.std.proofs.Common.{◌≡◌, ℕ, ◌<◌, List, ap, ◌∙◌, inl, refl, arith}
use Rattle.octets.specs.Files.{File}
use Rattle.octets.proofs.Words.{words_same}
use Rattle.medium.specs.Cuts.{CutFile}
use Rattle.medium.specs.Meaning.{Meaning, Sized}
use Rattle.medium.proofs.Cutting.{settled_leaves}
use Rattle.layout.specs.declared.first.FirstPage.{FirstPage}
use Rattle.layout.specs.Pages.{page_of, records}
use Rattle.layout.specs.Sound.{FirstSound, Sound, SoundFile, counter_of, pages_of}
use Rattle.guard.specs.Changes.{value_in}
use Rattle.guard.proofs.Nearby.{guards}
use Rattle.store.specs.declared.state.State.{State}
use Rattle.store.specs.declared.state.State.TheVariants.{Shut, Open, Editing}
use Rattle.book.specs.Books.{opening, Book, Says, Values}
use Rattle.book.specs.Keeps.{Keeps, Found, Later, Rests, Safe}
use Rattle.book.proofs.Ranges.{key_later}

-- a file is sound and says these values if its first page tells so many pages and this counter, and each later page is sound
-- and reads as a page that says them
pub file_says : (f : File) (pages counter : ℕ) (base : ℕ → List ℕ) (v : Values) → FirstSound f.count (f.page 0)
    → pages_of (f.page 0) ≡ pages → counter_of (f.page 0) ≡ counter
    → ((q : ℕ) → Later pages q → Sound counter pages q (f.page q) × (records counter (f.page q) ≡ records counter (base q)))
    → ((key : ℕ) → value_in (records counter (base (page_of pages key))) key ≡ v key)
    → SoundFile f × Says f v
file_says f pages counter base v first p c each said = (
  record { first = first; pages = rw (c, p) (λ q l h. (each q (l, h)).0) },
  λ key. rw (c, p, (each (page_of pages key) (key_later pages key (omega (arith, p, first.least)))).1) (said key),
)

-- what is saved and rests is what every cut leaves
pub rests_says : (m : Meaning) (first : FirstPage) (base : ℕ → List ℕ) (v : Values) → Rests m first base v
    → (f : File) → CutFile m f → SoundFile f × Says f v
rests_says m first base v r f c =
    let zero : f.page 0 ≡ base 0 =
    words_same 256 (f.page 0) (base 0) (c.sized 0 (omega (arith, r.sound.least, r.sound.there))) r.long
    (λ k h. r.zero k h _ (c.possible 0 k (omega (arith, r.sound.least, r.sound.there)) h)) in
    let within : (q : ℕ) → Later first.pages q → q < m.pages = λ q l. omega (arith, l.1, r.pages, r.sound.there) in
    file_says f first.pages first.counter base v
    (rw (zero, c.count) r.sound)
    (ap pages_of zero ∙ r.pages) (ap counter_of zero ∙ r.counter)
    (λ q l. guards first.counter first.pages q (base q) (f.page q) (r.bases q l) (c.sized q (within q l))
    (λ k h. r.words q l k h _ (c.possible q k (within q l) h)))
    r.said

pub rests_safe : (m : Meaning) (first : FirstPage) (base : ℕ → List ℕ) (k : Book) → Rests m first base k.saved → Safe m k
rests_safe m first base k r f c = let s = rests_says m first base k.saved r f c in (s.0, inl s.1)

-- so is a file at rest
pub found_safe : (m : Meaning) → Sized m → (v : Values) → Found m v → (f : File) → CutFile m f → SoundFile f × Says f v
found_safe m sized v found f c =
    let same = settled_leaves m sized found.only f c in
    let first = found.sound.first in
    let zero : f.page 0 ≡ m.shown 0 = same 0 (omega (arith, first.least, first.there)) in
    file_says f (pages_of (m.shown 0)) (counter_of (m.shown 0)) m.shown v
    (rw (zero, c.count) first)
    (ap pages_of zero) (ap counter_of zero)
    (λ q l. rw (same q (omega (arith, l.1, first.there))) (found.sound.pages q l.0 l.1, refl))
    found.says

pub starts : {M : Type 0} (meaning : M → Meaning) → ((x : M) → Sized (meaning x)) → (a : M) (v : Values) (touched : List ℕ)
    → Found (meaning a) v → Keeps (meaning a) Shut touched (opening v)
starts meaning sized a v touched found =
    (λ f c. let s = found_safe (meaning a) (sized a) v found f c in (s.0, inl s.1), λ _. found)

pub survives : {M : Type 0} (meaning : M → Meaning) → ((x : M) → Sized (meaning x)) → (a : M) (s : State) (touched : List ℕ) (k : Book)
    → Keeps (meaning a) s touched k → Safe (meaning a) k
survives meaning sized a Shut touched k keeps = keeps.0
survives meaning sized a (Open first) touched k keeps = rests_safe (meaning a) first keeps.0 k keeps.1
survives meaning sized a (Editing first) touched k keeps = rests_safe (meaning a) first keeps.0 k keeps.1
