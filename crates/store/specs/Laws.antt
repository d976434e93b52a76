-- What opening and laying say of the file that is shown.
use Rattle.std.specs.Prelude.{◌≡◌, ℕ, ◌<◌, ◌≤◌, [], Ok, Err, Result}
use Rattle.medium.specs.Cuts.{shown_file}
use Rattle.medium.specs.Meaning.{Meaning, Settles}
use Rattle.layout.specs.Pages.{records}
use Rattle.layout.specs.Sound.{SoundFile, counter_of, pages_of}
use Rattle.store.specs.declared.refusal.Refusal.{Refusal}
use Rattle.store.specs.declared.refusal.Refusal.TheVariants.{WorkPage, PageCount, NotAShowFile, Unsound, Medium, NotOpen, EditOpen, NoEdit, LastCounter, TooLong, TooMany, KeyInDraft, NoSuchKey, DraftFull, NoPlace}
use Rattle.store.specs.declared.state.Opened.{Opened}
use Rattle.store.specs.Lays.{first_image, zero_page}

-- what is opened is sound, and what is refused with 2, 3 or 4 is not: so a sound file opens or is refused with 1, 5 or 7, and
-- one that is not sound never opens
abbrev pub OpensSound : Meaning → Result Opened Refusal → Type 0
OpensSound m (Ok o) = SoundFile (shown_file m)
OpensSound m (Err PageCount) = SoundFile (shown_file m) → ⊥
OpensSound m (Err NotAShowFile) = SoundFile (shown_file m) → ⊥
OpensSound m (Err (Unsound q)) = SoundFile (shown_file m) → ⊥
OpensSound m (Err WorkPage) = Unit {0}
OpensSound m (Err EditOpen) = Unit {0}
OpensSound m (Err (Medium step q f)) = Unit {0}
OpensSound m (Err NotOpen) = ⊥
OpensSound m (Err NoEdit) = ⊥
OpensSound m (Err LastCounter) = ⊥
OpensSound m (Err TooLong) = ⊥
OpensSound m (Err TooMany) = ⊥
OpensSound m (Err KeyInDraft) = ⊥
OpensSound m (Err NoSuchKey) = ⊥
OpensSound m (Err DraftFull) = ⊥
OpensSound m (Err NoPlace) = ⊥

-- from m to n an empty file of so many pages was laid: it is sound, its counter is 0, no page has records, and a cut leaves
-- nothing else; pages after it are as before
pub record Laid (m n : Meaning) (pages : ℕ) : Type 0 where
  pub sound : SoundFile (shown_file n)
  pub tells : (pages_of (n.shown 0) ≡ pages) × (counter_of (n.shown 0) ≡ 0)
  pub bare : (q : ℕ) → 1 ≤ q → q < pages → records 0 (n.shown q) ≡ []
  pub only : Settles n
  pub first : n.shown 0 ≡ first_image pages
  pub zeros : (q : ℕ) → 1 ≤ q → q < pages → n.shown q ≡ zero_page
  pub others : (q : ℕ) → pages ≤ q → n.shown q ≡ m.shown q
