-- Files of pages.
use Rattle.std.specs.Prelude.{ℕ, ◌*◌, ◌/◌, List, length}
use Rattle.octets.specs.Parts.{part}

-- some pages, counted from 0
pub record File : Type 0 where
  pub count : ℕ
  pub page : ℕ → List ℕ

-- page q of a run of bytes
abbrev pub page_at : List ℕ → ℕ → List ℕ
page_at bytes q = part bytes (q * 1024) 1024

-- bytes as pages; what is left over is no page
abbrev pub file_of : List ℕ → File
file_of bytes = record { count = length bytes / 1024; page = page_at bytes }

-- word k of a page: four bytes, from a multiple of four on
abbrev pub word : List ℕ → ℕ → List ℕ
word page k = part page (4 * k) 4
