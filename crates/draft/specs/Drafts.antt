-- The draft of a page: the records it will have once the open edit is saved.
use Rattle.std.specs.Prelude.{ℕ, ◌+◌, cond, List, [], ◌∷◌, map, take, Some, None, Option, ◌==◌, nat_lt}
use Rattle.layout.specs.declared.header.Side.{Side}
use Rattle.layout.specs.declared.header.Side.TheVariants.{A, B}
use Rattle.layout.specs.declared.header.Slot.{Slot}
use Rattle.layout.specs.Pages.{Entry, entry_of, header_of, key_of, number_of, saved_slots, slots, valid_side}

-- the header that a change is written over: the one that is not valid, header A if neither is
abbrev pub target_by : Option Side → Side
target_by None = A
target_by (Some A) = B
target_by (Some B) = A

-- the header of a page that a change is written over
abbrev pub target : ℕ → List ℕ → Side
target counter page = target_by (valid_side counter page)

-- the header that was begun under this counter: the one numbered one more
abbrev pub begun_side : ℕ → List ℕ → Option Side
begun_side counter page =
    cond (number_of page A == counter + 1) (Some A) (cond (number_of page B == counter + 1) (Some B) None)

-- the slots of the draft: those of the header that was begun, else those that are saved; a header has room for 24
abbrev pub slots_on : ℕ → List ℕ → Option Side → List Slot
slots_on counter page None = saved_slots counter page
slots_on counter page (Some s) = slots page (header_of page s)

-- the slots of the draft, never more than 24
abbrev pub draft_slots : ℕ → List ℕ → List Slot
draft_slots counter page = take 24 (slots_on counter page (begun_side counter page))

-- the records of the draft
abbrev pub draft_records : ℕ → List ℕ → List Entry
draft_records counter page = map (entry_of page) (draft_slots counter page)

-- slots without the first that holds a key
abbrev pub taken_out : List ℕ → ℕ → List Slot → List Slot
taken_out page key [] = []
taken_out page key (s ∷ ss) = cond (key_of page s == key) ss (s ∷ taken_out page key ss)

-- slots with one more, for a key: behind those of lesser keys
abbrev pub put_in : List ℕ → ℕ → Slot → List Slot → List Slot
put_in page key new [] = new ∷ []
put_in page key new (s ∷ ss) = cond (nat_lt (key_of page s) key) (s ∷ put_in page key new ss) (new ∷ s ∷ ss)
