-- The page images that a put, a change and a remove write.
use Rattle.std.specs.Prelude.{◌≡◌, ℕ, ◌+◌, ◌-◌, ◌*◌, ◌<◌, ◌≤◌, List, ◌∷◌, ◌++◌, length, take, replicate, Some, None, Ok, Err, Result, ◌≢◌}
use Rattle.std.specs.List.{flat_map}
use Rattle.octets.specs.Numbers.{spell}
use Rattle.octets.specs.Parts.{patched}
use Rattle.layout.specs.declared.header.Side.{Side}
use Rattle.layout.specs.declared.header.Slot.{Slot}
use Rattle.layout.specs.Pages.{saved_slots, start}
use Rattle.layout.specs.Walks.{keyed}
use Rattle.draft.specs.declared.refusal.PageRefusal.{PageRefusal}
use Rattle.draft.specs.declared.refusal.PageRefusal.TheVariants.{KeyInDraft, NoSuchKey, DraftFull, NoPlace}
use Rattle.draft.specs.Drafts.{draft_records, draft_slots, put_in, taken_out, target}
use Rattle.draft.specs.Places.{Highest}

-- a slot as four bytes
abbrev pub slot_bytes : Slot → List ℕ
slot_bytes s = spell 2 s.offset ++ spell 2 s.length

-- a header: its number, how many records it has, two zero bytes, their slots, and zeros in the slots that are not used
abbrev pub header_bytes : ℕ → List Slot → List ℕ
header_bytes number ss =
    spell 4 number ++ (spell 2 (length ss) ++ (0 ∷ 0 ∷ (flat_map slot_bytes ss ++ replicate (96 - 4 * length ss) 0)))

-- a page with another header on one side
abbrev pub with_header : List ℕ → Side → ℕ → List Slot → List ℕ
with_header page s number ss = patched page (start s) (header_bytes number ss)

-- a record's bytes: its key and its value
abbrev pub record_bytes : ℕ → List ℕ → List ℕ
record_bytes key value = spell 4 key ++ value

-- the slot of a record at an offset
abbrev pub slot_at : ℕ → List ℕ → Slot
slot_at p value = record { offset = p; length = 4 + length value }

-- the slots that a record must not touch: the saved ones and those of the draft as it then is
abbrev pub busy : ℕ → List ℕ → List Slot → List Slot
busy counter page ss = take 24 (saved_slots counter page) ++ ss

-- a page with a record put at an offset, and the draft slots `ss` with its own beside them
abbrev pub placed : ℕ → List ℕ → ℕ → List ℕ → List Slot → ℕ → List ℕ
placed counter page key value ss p =
    with_header (patched page p (record_bytes key value)) (target counter page) (counter + 1) (put_in page key (slot_at p value) ss)

-- a put: the key is not in the draft, the draft has room for a slot, and there is a place; else the page stays
abbrev pub PutPage : ℕ → List ℕ → List ℕ → ℕ → List ℕ → Result (Unit {0}) PageRefusal → Type 0
PutPage counter page new key value (Ok _) =
    (keyed key (draft_records counter page) ≡ None) × (length (draft_slots counter page) < 24)
    × ((p : ℕ) × Highest (busy counter page (draft_slots counter page)) (4 + length value) (Some p) × (new ≡ placed counter page key value (draft_slots counter page) p))
PutPage counter page new key value (Err KeyInDraft) = (keyed key (draft_records counter page) ≢ None) × (new ≡ page)
PutPage counter page new key value (Err DraftFull) =
    (keyed key (draft_records counter page) ≡ None) × (24 ≤ length (draft_slots counter page)) × (new ≡ page)
PutPage counter page new key value (Err NoPlace) =
    (keyed key (draft_records counter page) ≡ None) × (length (draft_slots counter page) < 24)
    × Highest (busy counter page (draft_slots counter page)) (4 + length value) None × (new ≡ page)
PutPage counter page new key value (Err NoSuchKey) = ⊥

-- a change: the key is in the draft; its slot is taken out first, and there is a place then; else the page stays
abbrev pub ChangedPage : ℕ → List ℕ → List ℕ → ℕ → List ℕ → Result (Unit {0}) PageRefusal → Type 0
ChangedPage counter page new key value (Ok _) =
    (keyed key (draft_records counter page) ≢ None)
    × ((p : ℕ) × Highest (busy counter page (taken_out page key (draft_slots counter page))) (4 + length value) (Some p)
    × (new ≡ placed counter page key value (taken_out page key (draft_slots counter page)) p))
ChangedPage counter page new key value (Err NoSuchKey) = (keyed key (draft_records counter page) ≡ None) × (new ≡ page)
ChangedPage counter page new key value (Err NoPlace) =
    (keyed key (draft_records counter page) ≢ None)
    × Highest (busy counter page (taken_out page key (draft_slots counter page))) (4 + length value) None × (new ≡ page)
ChangedPage counter page new key value (Err KeyInDraft) = ⊥
ChangedPage counter page new key value (Err DraftFull) = ⊥

-- a remove: the key is in the draft, and its slot is taken out; else the page stays
abbrev pub RemovedPage : ℕ → List ℕ → List ℕ → ℕ → Result (Unit {0}) PageRefusal → Type 0
RemovedPage counter page new key (Ok _) =
    (keyed key (draft_records counter page) ≢ None)
    × (new ≡ with_header page (target counter page) (counter + 1) (taken_out page key (draft_slots counter page)))
RemovedPage counter page new key (Err NoSuchKey) = (keyed key (draft_records counter page) ≡ None) × (new ≡ page)
RemovedPage counter page new key (Err KeyInDraft) = ⊥
RemovedPage counter page new key (Err DraftFull) = ⊥
RemovedPage counter page new key (Err NoPlace) = ⊥
