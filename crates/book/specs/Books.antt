-- The book of a use: what its calls and their answers say is saved.
use Rattle.std.specs.Prelude.{◌≡◌, ℕ, Bool, true, false, cond, ◌⊎◌, List, Ok, Err, Option, Result, ◌==◌}
use Rattle.octets.specs.Files.{File}
use Rattle.layout.specs.Pages.{page_of, records}
use Rattle.layout.specs.Sound.{SoundFile, counter_of, pages_of}
use Rattle.guard.specs.Changes.{value_in}
use Rattle.store.specs.declared.refusal.Refusal.{Refusal}
use Rattle.store.specs.declared.refusal.Refusal.TheVariants.{WorkPage, PageCount, NotAShowFile, Unsound, Medium, NotOpen, EditOpen, NoEdit, LastCounter, TooLong, TooMany, KeyInDraft, NoSuchKey, DraftFull, NoPlace}

-- the value of each key that has one
abbrev pub Values : Type 0
Values = ℕ → Option (List ℕ)

-- what is saved, what the open edit would save, and whether a save was refused by the medium: then a cut may leave either
pub record Book : Type 0 where
  pub saved : Values
  pub draft : Values
  pub either : Bool

-- the values with another one, or none, for a key
abbrev pub with : Values → ℕ → Option (List ℕ) → Values
with v key value = λ k. cond (k == key) value (v k)

-- the book of a file as it is found
abbrev pub opening : Values → Book
opening v = record { saved = v; draft = v; either = false }

-- begin copies what is saved to the draft
abbrev pub begun : {T : Type 0} → Book → Result T Refusal → Book
begun b (Ok _) = record { saved = b.saved; draft = b.saved; either = b.either }
begun b (Err e) = b

-- a put or change enters the key's value in the draft, a remove takes it out
abbrev pub edited : Book → ℕ → Option (List ℕ) → Result (Unit {0}) Refusal → Book
edited b key value (Ok _) = record { saved = b.saved; draft = with b.draft key value; either = b.either }
edited b key value (Err e) = b

-- the book once the medium has refused a save
abbrev pub doubted : Book → Refusal → Book
doubted b (Medium step page fault) = record { saved = b.saved; draft = b.draft; either = true }
doubted b WorkPage = b
doubted b PageCount = b
doubted b NotAShowFile = b
doubted b (Unsound page) = b
doubted b NotOpen = b
doubted b EditOpen = b
doubted b NoEdit = b
doubted b LastCounter = b
doubted b TooLong = b
doubted b TooMany = b
doubted b KeyInDraft = b
doubted b NoSuchKey = b
doubted b DraftFull = b
doubted b NoPlace = b

-- save copies the draft to what is saved
abbrev pub saved_by : {T : Type 0} → Book → Result T Refusal → Book
saved_by b (Ok _) = record { saved = b.draft; draft = b.draft; either = b.either }
saved_by b (Err e) = doubted b e

-- what a file says by the reading rule: the value of a key, on the key's page, under the file's counter
abbrev pub said_by : File → Values
said_by f key = value_in (records (counter_of (f.page 0)) (f.page (page_of (pages_of (f.page 0)) key))) key

abbrev pub Says : File → Values → Type 0
Says f v = (key : ℕ) → said_by f key ≡ v key

-- a file that a cut may leave: it is sound, and says what is saved; after a refused save, that or the draft, one choice for all keys
abbrev pub Faithful : Book → File → Type 0
Faithful b f = SoundFile f × (Says f b.saved ⊎ ((b.either ≡ true) × Says f b.draft))
