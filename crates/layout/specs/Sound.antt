-- When a page, and a file, is sound.
use Rattle.std.specs.Prelude.{◌≡◌, ℕ, ◌+◌, ◌<◌, ◌≤◌, ◌⊎◌, List, length, slice_index_or}
use Rattle.octets.specs.Files.{File}
use Rattle.octets.specs.Numbers.{big}
use Rattle.octets.specs.Parts.{part}
use Rattle.layout.specs.declared.header.Side.TheVariants.{A, B}
use Rattle.layout.specs.declared.header.Slot.{Slot}
use Rattle.layout.specs.Pages.{number_of, saved_slots, key_of, page_of}

-- slot k of some slots
abbrev pub at : List Slot → ℕ → Slot
at ss k = slice_index_or ss k (record { offset = 0; length = 0 })

-- a slot lies in the content, bytes 208 to 1,023, and has a key and a value of at most 200 bytes
abbrev pub Inside : Slot → Type 0
Inside s = (208 ≤ s.offset) × (s.offset + s.length ≤ 1024) × (4 ≤ s.length) × (s.length ≤ 204)

-- two slots share no byte
abbrev pub Apart : Slot → Slot → Type 0
Apart s t = (s.offset + s.length ≤ t.offset) ⊎ (t.offset + t.length ≤ s.offset)

-- a slot that page q of so many may save: it lies in the content, and its key belongs to this page
abbrev pub Own : ℕ → ℕ → List ℕ → Slot → Type 0
Own pages q page s = Inside s × (page_of pages (key_of page s) ≡ q)

-- two slots in the order of a header: they share no byte, and the first has the lesser key
abbrev pub Before : List ℕ → Slot → Slot → Type 0
Before page s t = Apart s t × (key_of page s < key_of page t)

-- the slots of a header that may count: at most 24, each the page's own, each before all that follow it
pub record Fits (pages q : ℕ) (page : List ℕ) (ss : List Slot) : Type 0 where
  pub few : length ss ≤ 24
  pub own : (k : ℕ) → k < length ss → Own pages q page (at ss k)
  pub ordered : (j k : ℕ) → j < k → k < length ss → Before page (at ss j) (at ss k)

-- the two edit numbers: neither passes the counter by more than one, and they differ unless both are 0
pub record Numbered (counter : ℕ) (page : List ℕ) : Type 0 where
  pub low_a : number_of page A ≤ counter + 1
  pub low_b : number_of page B ≤ counter + 1
  pub differ : number_of page A ≡ number_of page B → number_of page A ≡ 0

-- page q of so many is sound under a counter
pub record Sound (counter pages q : ℕ) (page : List ℕ) : Type 0 where
  pub numbered : Numbered counter page
  pub fits : Fits pages q page (saved_slots counter page)

-- the form number, in the first four bytes of the first page
abbrev pub form_of : List ℕ → ℕ
form_of page = big (part page 0 4)

-- how many pages the file has, in the next four bytes
abbrev pub pages_of : List ℕ → ℕ
pages_of page = big (part page 4 4)

-- the counter, in the four after those
abbrev pub counter_of : List ℕ → ℕ
counter_of page = big (part page 8 4)

-- a first page that is read, on a medium of so many pages: form 1, and 2 to 4,096 pages, all of them there
pub record FirstSound (count : ℕ) (page : List ℕ) : Type 0 where
  pub form : form_of page ≡ 1
  pub least : 2 ≤ pages_of page
  pub most : pages_of page ≤ 4096
  pub there : pages_of page ≤ count

-- a file is sound if its first page is read and every other page is sound
pub record SoundFile (f : File) : Type 0 where
  pub first : FirstSound f.count (f.page 0)
  pub pages : (q : ℕ) → 1 ≤ q → q < pages_of (f.page 0) → Sound (counter_of (f.page 0)) (pages_of (f.page 0)) q (f.page q)
