-- What a walk over a whole file stands for.
use Rattle.std.specs.Prelude.{ℕ, ◌+◌, ◌-◌, List, ◌++◌, map}
use Rattle.std.specs.List.{range_with_len, flat_map}
use Rattle.file.specs.declared.listing.Listing.{Listing}
use Rattle.layout.specs.declared.record.Record.{Record}
use Rattle.layout.specs.Pages.{Entry}
use Rattle.file.specs.Files.{page_records}
use Rattle.layout.specs.Walks.{seen, rest}

-- a record that is handed out with its page
abbrev pub listed : ℕ × Record → ℕ × Entry
listed x = (x.0, seen x.1)

-- the records that a walk has yet to hand out
abbrev pub left : Listing → List (ℕ × Entry)
left l =
    map (λ e. (l.page, e)) (rest l.records)
    ++ flat_map (page_records l.file.bytes.now l.file.first.counter) (range_with_len (l.page + 1) (l.file.first.pages - (l.page + 1)))
