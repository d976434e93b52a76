-- What a cut leaves of a medium.
use Rattle.std.specs.Prelude.{◌≡◌, ℕ, ◌<◌, false, length}
use Rattle.octets.specs.Files.{File, word}
use Rattle.medium.specs.Meaning.{Meaning, Settles}

-- what a medium shows, as a file
abbrev pub shown_file : Meaning → File
shown_file m = record { count = m.pages; page = m.shown }

-- a file that a cut may leave: as many pages, and each word one of its possible contents, chosen word by word
pub record CutFile (m : Meaning) (f : File) : Type 0 where
  pub count : f.count ≡ m.pages
  pub sized : (p : ℕ) → p < m.pages → length (f.page p) ≡ 1024
  pub possible : (p k : ℕ) → p < m.pages → k < 256 → m.possible p k (word (f.page p) k)

-- a medium that a cut may leave: it runs, shows such a file, and nothing else is possible on it
pub record CutMedium (m n : Meaning) : Type 0 where
  pub runs : n.stopped ≡ false
  pub left : CutFile m (shown_file n)
  pub only : Settles n

-- every cut leaves exactly what is shown
abbrev pub LeavesShown : Meaning → Type 0
LeavesShown m = (f : File) → CutFile m f → (p : ℕ) → p < m.pages → f.page p ≡ m.shown p
