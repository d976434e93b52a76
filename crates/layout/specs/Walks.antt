-- What the code's records and walks stand for.
use Rattle.std.specs.Prelude.{ℕ, ◌-◌, ◌<◌, List, map, Option, ◌==◌}
use Rattle.std.specs.List.{find, range_with_len}
use Rattle.layout.specs.declared.record.Record.{Record}
use Rattle.layout.specs.declared.walk.Records.{Records}
use Rattle.layout.specs.declared.header.Header.{Header}
use Rattle.layout.specs.Sound.{Own, Before}
use Rattle.layout.specs.Pages.{Entry, entry_of, slot_of}

-- a record that is handed out, as an entry
abbrev pub seen : Record → Entry
seen r = record { key = r.key; slot = r.slot; value = r.value.now }

-- the records that a walk has yet to hand out
abbrev pub rest : Records → List Entry
rest w = map (entry_of w.page.now) (map (slot_of w.page.now w.header.side) (range_with_len w.next (w.header.count - w.next)))

-- the first entry with a key
abbrev pub keyed : ℕ → List Entry → Option Entry
keyed key es = find (λ e. e.key == key) es

-- what a page's slot k must keep: it is the page's own, and every slot before it comes before it
abbrev pub SlotFits : ℕ → ℕ → List ℕ → Header → ℕ → Type 0
SlotFits pages q page h k =
    Own pages q page (slot_of page h.side k) × ((j : ℕ) → j < k → Before page (slot_of page h.side j) (slot_of page h.side k))
