-- Worked cases of the format, each as a statement about the definitions that the code's contracts cite.
use Rattle.std.specs.Prelude.{◌≡◌, ℕ, ◌+◌, List, [], ◌∷◌, replicate, Some, None, Ok, Option, Result}
use Rattle.std.specs.List.{AllByRecursion}
use Rattle.form.specs.declared.cue.Cue.{Cue}
use Rattle.form.specs.declared.still.Still.{Still}
use Rattle.form.specs.Cues.{cue_values, cue_bytes, cue_reads}
use Rattle.form.specs.Stills.{still_values, still_bytes, still_reads}
use Rattle.layout.specs.declared.header.Side.{Side}
use Rattle.layout.specs.declared.header.Side.TheVariants.{A, B}
use Rattle.layout.specs.Pages.{header_of, number_of, page_of, pending_on, records, valid}
use Rattle.layout.specs.Sound.{Sound}
use Rattle.layout.specs.Walks.{keyed}
use Rattle.draft.specs.declared.refusal.PageRefusal.{PageRefusal}
use Rattle.draft.specs.Images.{ChangedPage, PutPage, slot_at}

-- a case; a and b are the edit numbers of headers A and B
pub data Case : Type 0 where
  -- the header on this side is valid
  valid_header : (a b counter : ℕ) → Side → Case
  -- the page has no records
  no_records : (a b counter : ℕ) → Case
  -- the number on this side, and it alone, is to be cleared
  cleared : (a b counter : ℕ) → Side → Case
  -- the page is not sound, whatever else it holds: under this counter, or under any
  refused : (a b : ℕ) → Option ℕ → Case
  -- the key is on this page of a file of so many
  key_page : (pages key page : ℕ) → Case
  -- the cue of these fields, start, projector, level, fade, has these bytes, and they read as it
  cue_case : (fields : List (Option ℕ)) → List ℕ → Case
  -- likewise the still of slide, projector, width, hold
  still_case : (fields : List (Option ℕ)) → List ℕ → Case

-- a page with these edit numbers
abbrev pub Numbers : ℕ → ℕ → List ℕ → Type 0
Numbers a b page = (number_of page A ≡ a) × (number_of page B ≡ b)

-- what a case states
abbrev pub Holds : Case → Type 0
Holds (valid_header a b counter s) = (page : List ℕ) → Numbers a b page → valid counter page ≡ Some (header_of page s)
Holds (no_records a b counter) = (page : List ℕ) → Numbers a b page → records counter page ≡ []
Holds (cleared a b counter s) = (page : List ℕ) → Numbers a b page → (number_of page s ≡ counter + 1) × (pending_on counter page ≡ 1)
Holds (refused a b (Some counter)) = (page : List ℕ) → Numbers a b page → (pages q : ℕ) → Sound counter pages q page → ⊥
Holds (refused a b None) = (page : List ℕ) → Numbers a b page → (counter pages q : ℕ) → Sound counter pages q page → ⊥
Holds (key_page pages key page) = page_of pages key ≡ page
Holds (cue_case fields bytes) = (c : Cue) × (cue_values c ≡ fields) × (cue_bytes c ≡ bytes) × (cue_reads bytes ≡ Ok c)
Holds (still_case fields bytes) = (s : Still) × (still_values s ≡ fields) × (still_bytes s ≡ bytes) × (still_reads bytes ≡ Ok s)

-- the worked cases
abbrev pub table : List Case
table =
    valid_header 3 2 3 A
    ∷ valid_header 3 4 3 A
    ∷ cleared 3 4 3 B
    ∷ no_records 1 0 0
    ∷ cleared 1 0 0 A
    ∷ refused 5 0 (Some 3)
    ∷ refused 2 2 None
    ∷ key_page 4096 4095 1
    ∷ cue_case (Some 600 ∷ None ∷ Some 80 ∷ None ∷ []) (0x45 ∷ 0x00 ∷ 0x00 ∷ 0x02 ∷ 0x58 ∷ 0x50 ∷ [])
    ∷ still_case (Some 12 ∷ None ∷ None ∷ Some 45 ∷ []) (0x89 ∷ 0x00 ∷ 0x0c ∷ 0x00 ∷ 0x2d ∷ [])
    ∷ []

-- each case of the table holds
abbrev pub EveryCase : Type 0
EveryCase = AllByRecursion Holds table

-- a change of a worked page: the key, its value, and the offset at which the record is put
pub data Change : Type 0 where
  put : (key : ℕ) → List ℕ → (offset : ℕ) → Change
  replace : (key : ℕ) → List ℕ → (offset : ℕ) → Change

-- the key is on page 1, the change is accepted, and once it is saved the record is at the offset
pub record Lands (pages counter : ℕ) (new : List ℕ) (key : ℕ) (value : List ℕ) (offset : ℕ) (r : Result (Unit {0}) PageRefusal) : Type 0 where
  pub here : page_of pages key ≡ 1
  pub accepted : r ≡ Ok tt
  pub lies : keyed key (records (counter + 1) new) ≡ Some (record { key = key; slot = slot_at offset value; value = value })

-- changes of a page, each saved before the next
abbrev pub Lie : ℕ → ℕ → List ℕ → List Change → Type 0
Lie pages counter page [] = Unit {0}
Lie pages counter page (put key value offset ∷ cs) =
    (new : List ℕ) (r : Result (Unit {0}) PageRefusal) → PutPage counter page new key value r
    → Lands pages counter new key value offset r × Lie pages (counter + 1) new cs
Lie pages counter page (replace key value offset ∷ cs) =
    (new : List ℕ) (r : Result (Unit {0}) PageRefusal) → ChangedPage counter page new key value r
    → Lands pages counter new key value offset r × Lie pages (counter + 1) new cs

-- a row of changes, each in an edit of its own, to a fresh file of so many pages, where page 1 is all zeros
pub record Row : Type 0 where
  pub pages : ℕ
  pub changes : List Change

-- each record lies where the row says
abbrev pub Lies : Row → Type 0
Lies r = Lie r.pages 0 (replicate 1024 0) r.changes

-- the worked rows
abbrev pub rows : List Row
rows =
    record {
      pages = 2;
      changes =
          put 7 (0x41 ∷ 0x42 ∷ []) 1018 ∷ put 3 [] 1014 ∷ replace 7 (0x43 ∷ 0x44 ∷ 0x45 ∷ []) 1007
          ∷ put 9 (0x46 ∷ 0x47 ∷ []) 1018 ∷ [];
    }
    ∷ []

-- each row lies so
abbrev pub EveryRow : Type 0
EveryRow = AllByRecursion Lies rows
