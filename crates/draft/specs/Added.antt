-- A record added beside the slots of a draft that has room for one more.
use Rattle.std.specs.Prelude.{◌≡◌, ℕ, ◌+◌, List, length, Some, None, Ok, Err, Result}
use Rattle.layout.specs.declared.header.Slot.{Slot}
use Rattle.draft.specs.declared.refusal.PageRefusal.{PageRefusal}
use Rattle.draft.specs.declared.refusal.PageRefusal.TheVariants.{KeyInDraft, NoSuchKey, DraftFull, NoPlace}
use Rattle.draft.specs.Images.{busy, placed}
use Rattle.draft.specs.Places.{Highest}

-- the record is at the highest place beside the busy slots, and its slot is put in; if there is no place, the page stays
abbrev pub Added : ℕ → List ℕ → List ℕ → ℕ → List ℕ → List Slot → Result (Unit {0}) PageRefusal → Type 0
Added counter page new key value ss (Ok _) =
    (p : ℕ) × Highest (busy counter page ss) (4 + length value) (Some p) × (new ≡ placed counter page key value ss p)
Added counter page new key value ss (Err NoPlace) = Highest (busy counter page ss) (4 + length value) None × (new ≡ page)
Added counter page new key value ss (Err KeyInDraft) = ⊥
Added counter page new key value ss (Err NoSuchKey) = ⊥
Added counter page new key value ss (Err DraftFull) = ⊥
