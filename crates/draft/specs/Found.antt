-- A key among the slots of a draft.
use Rattle.std.specs.Prelude.{◌≡◌, ℕ, ◌<◌, List, map, length, Some, None, Option, ◌≢◌}
use Rattle.std.specs.List.{remove}
use Rattle.layout.specs.declared.header.Slot.{Slot}
use Rattle.layout.specs.Pages.{entry_of}
use Rattle.layout.specs.Walks.{keyed}
use Rattle.draft.specs.Drafts.{taken_out}

-- the index of the first slot that holds a key; none if no slot does: the proofs of put, change and remove cite it
abbrev pub Found : List ℕ → ℕ → List Slot → Option ℕ → Type 0
Found page key ss None = keyed key (map (entry_of page) ss) ≡ None
Found page key ss (Some i) =
    (i < length ss) × (keyed key (map (entry_of page) ss) ≢ None) × (taken_out page key ss ≡ remove ss i)
