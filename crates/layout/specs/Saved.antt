-- The saved records of a file.
use Rattle.std.specs.Prelude.{ℕ, Option}
use Rattle.octets.specs.Files.{File}
use Rattle.layout.specs.Pages.{Entry, page_of, records}
use Rattle.layout.specs.Sound.{pages_of, counter_of}
use Rattle.layout.specs.Walks.{keyed}

-- the saved record of a key: it is on the page of the key, or there is none
abbrev pub saved : File → ℕ → Option Entry
saved f key = keyed key (records (counter_of (f.page 0)) (f.page (page_of (pages_of (f.page 0)) key)))
