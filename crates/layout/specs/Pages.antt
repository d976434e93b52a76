-- The layout of a page and the rule by which its records are read.
use Rattle.std.specs.Prelude.{ℕ, ◌+◌, ◌-◌, ◌*◌, ◌%◌, cond, List, [], map, drop, Some, None, Option, ◌==◌, nat_le, nat_lt}
use Rattle.std.specs.List.{range_with_len}
use Rattle.std.specs.Option.{option_map}
use Rattle.octets.specs.Numbers.{big}
use Rattle.octets.specs.Parts.{part}
use Rattle.layout.specs.declared.header.Side.{Side}
use Rattle.layout.specs.declared.header.Side.TheVariants.{A, B}
use Rattle.layout.specs.declared.header.Slot.{Slot}
use Rattle.layout.specs.declared.header.Header.{Header}

-- the byte at which a header begins
abbrev pub start : Side → ℕ
start A = 0
start B = 104

-- a header's edit number, in its first four bytes
unfoldable pub number_of : List ℕ → Side → ℕ
number_of page s = big (part page (start s) 4)

-- how many records it has, in the next two
unfoldable pub count_of : List ℕ → Side → ℕ
count_of page s = big (part page (start s + 4) 2)

-- two zero bytes follow, then the slots, four bytes each: where a record begins
unfoldable pub offset_of : List ℕ → Side → ℕ → ℕ
offset_of page s k = big (part page (start s + 8 + 4 * k) 2)

-- and how long it is
unfoldable pub length_of : List ℕ → Side → ℕ → ℕ
length_of page s k = big (part page (start s + 8 + 4 * k + 2) 2)

-- slot k of the header on a side
abbrev pub slot_of : List ℕ → Side → ℕ → Slot
slot_of page s k = record { offset = offset_of page s k; length = length_of page s k }

-- the header on a side, as it is read
abbrev pub header_of : List ℕ → Side → Header
header_of page s = record { side = s; number = number_of page s; count = count_of page s }

-- the slots of a header's records: the first of its slots, as many as it has records
abbrev pub slots : List ℕ → Header → List Slot
slots page h = map (slot_of page h.side) (range_with_len 0 h.count)

-- an edit number counts if it is from 1 to the counter; any other ranks as 0
abbrev pub rank : ℕ → ℕ → ℕ
rank counter n = cond (nat_le n counter) n 0

-- of the numbers of headers A and B, the side of the one that counts and is the greater
abbrev pub side_of : ℕ → ℕ → ℕ → Option Side
side_of counter a b = cond (nat_lt (rank counter b) (rank counter a)) (Some A) (cond (nat_lt (rank counter a) (rank counter b)) (Some B) None)

-- the side of the valid header; none if no number counts, or both are the same
abbrev pub valid_side : ℕ → List ℕ → Option Side
valid_side counter page = side_of counter (number_of page A) (number_of page B)

-- the valid header
abbrev pub valid : ℕ → List ℕ → Option Header
valid counter page = option_map (header_of page) (valid_side counter page)

-- the slots of the page's records: none if no header is valid
abbrev pub slots_by : List ℕ → Option Header → List Slot
slots_by page None = []
slots_by page (Some h) = slots page h

-- the slots of the records that were last saved: those of the valid header
abbrev pub saved_slots : ℕ → List ℕ → List Slot
saved_slots counter page = slots_by page (valid counter page)

-- a record: its key in four bytes, then its value
unfoldable pub key_of : List ℕ → Slot → ℕ
key_of page s = big (part (part page s.offset s.length) 0 4)

-- the bytes of a record after its key
unfoldable pub value_of : List ℕ → Slot → List ℕ
value_of page s = drop 4 (part page s.offset s.length)

-- a record as it is read: its key, where it lies, and its value
pub record Entry : Type 0 where
  pub key : ℕ
  pub slot : Slot
  pub value : List ℕ

-- the record that a slot stands for
abbrev pub entry_of : List ℕ → Slot → Entry
entry_of page s = record { key = key_of page s; slot = s; value = value_of page s }

-- the records of a page
abbrev pub records : ℕ → List ℕ → List Entry
records counter page = map (entry_of page) (saved_slots counter page)

-- the page of a key in a file of so many pages
abbrev pub page_of : ℕ → ℕ → ℕ
page_of pages key = 1 + key % (pages - 1)

-- how many of a page's edit numbers are one more than the counter: an opening clears these
abbrev pub pending_on : ℕ → List ℕ → ℕ
pending_on counter page = cond (number_of page A == counter + 1) 1 0 + cond (number_of page B == counter + 1) 1 0
