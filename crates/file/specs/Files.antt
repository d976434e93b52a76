-- A file of bytes as pages, and what reading all of it gives.
use Rattle.std.specs.Prelude.{◌≡◌, ℕ, ◌-◌, ◌<◌, ◌≤◌, List, map, Some, None, Ok, Err, sum_by, Option, Result}
use Rattle.std.specs.List.{range_with_len, flat_map}
use Rattle.octets.specs.Files.{file_of}
use Rattle.file.specs.declared.files.ShowFile.{ShowFile}
use Rattle.file.specs.declared.refusal.FileRefusal.{FileRefusal}
use Rattle.file.specs.declared.refusal.FileRefusal.TheVariants.{TooFewPages, NotAShowFile, UnsoundPage}
use Rattle.layout.specs.Pages.{Entry, pending_on, records}
use Rattle.layout.specs.Sound.{FirstSound, Sound, SoundFile, pages_of, counter_of}

-- the pages after the first, in order
abbrev pub later_pages : ℕ → List ℕ
later_pages pages = range_with_len 1 (pages - 1)

-- the records of page q, each with the page's number
abbrev pub page_records : List ℕ → ℕ → ℕ → List (ℕ × Entry)
page_records bytes counter q = map (λ e. (q, e)) (records counter ((file_of bytes).page q))

-- all records of a file: pages in order, and in a page by slot, which on a sound page is by key
abbrev pub file_records : List ℕ → ℕ → ℕ → List (ℕ × Entry)
file_records bytes counter pages = flat_map (page_records bytes counter) (later_pages pages)

-- how many edit numbers of a file's pages are one more than the counter
abbrev pub pending_in : List ℕ → ℕ → ℕ → ℕ
pending_in bytes counter pages = sum_by (λ q. pending_on counter ((file_of bytes).page q)) (later_pages pages)

-- the lowest page after the first that is not sound; none if all are
abbrev pub Lowest : List ℕ → ℕ → ℕ → Option ℕ → Type 0
Lowest bytes counter pages None = (q : ℕ) → 1 ≤ q → q < pages → Sound counter pages q ((file_of bytes).page q)
Lowest bytes counter pages (Some q) =
    (1 ≤ q) × (q < pages) × (Sound counter pages q ((file_of bytes).page q) → ⊥)
    × ((j : ℕ) → 1 ≤ j → j < q → Sound counter pages j ((file_of bytes).page j))

-- what checking a file answers: its bytes and what its first page tells, if it is sound; else what is wrong, of unsound pages the lowest
abbrev pub Opens : List ℕ → Result ShowFile FileRefusal → Type 0
Opens bytes (Ok f) =
    SoundFile (file_of bytes) × (f.bytes.now ≡ bytes) × (f.first.pages ≡ pages_of ((file_of bytes).page 0))
    × (f.first.counter ≡ counter_of ((file_of bytes).page 0))
Opens bytes (Err TooFewPages) = (file_of bytes).count < 2
Opens bytes (Err NotAShowFile) = (2 ≤ (file_of bytes).count) × (FirstSound (file_of bytes).count ((file_of bytes).page 0) → ⊥)
Opens bytes (Err (UnsoundPage q)) =
    (2 ≤ (file_of bytes).count) × FirstSound (file_of bytes).count ((file_of bytes).page 0)
    × Lowest bytes (counter_of ((file_of bytes).page 0)) (pages_of ((file_of bytes).page 0)) (Some q)
