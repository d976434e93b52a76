-- The page that a change leaves.
use Rattle.std.proofs.Common.{◌≡◌, ℕ, ◌+◌, ◌<◌, List, ◌++◌, length, take, None, Ok, Err, Option, Result, sym, ap, ◌∙◌}
use Rattle.std.specs.List.{remove}
use Rattle.octets.specs.Parts.{patched}
use Rattle.layout.specs.declared.header.Side.{Side}
use Rattle.layout.specs.declared.header.Slot.{Slot}
use Rattle.layout.specs.declared.header.Header.{Header}
use Rattle.layout.specs.Pages.{slots_by, valid}
use Rattle.layout.specs.Walks.{keyed}
use Rattle.draft.specs.declared.refusal.PageRefusal.{PageRefusal}
use Rattle.draft.specs.declared.refusal.PageRefusal.TheVariants.{KeyInDraft, NoSuchKey, DraftFull, NoPlace}
use Rattle.draft.specs.Added.{Added}
use Rattle.draft.specs.Drafts.{draft_records, draft_slots, put_in, taken_out, target}
use Rattle.draft.specs.Images.{ChangedPage, PutPage, busy, placed, record_bytes, slot_at, with_header}

-- what a removal leaves of the draft's slots
pub taken_is : (page : List ℕ) (key i : ℕ) (ds ss ts : List Slot) → ss ≡ ds → ts ≡ remove ss i → taken_out page key ds ≡ remove ds i → ts ≡ taken_out page key ds
taken_is page key i ds ss ts e p q = p ∙ ap (λ xs. remove xs i) e ∙ sym q

module _ (counter : ℕ) (page new : List ℕ) (key : ℕ) (value : List ℕ) where
  -- the slots that a record must not touch
  pub busy_is : (ys bs xs ss : List Slot) (h : Option Header) → ys ≡ xs → xs ≡ take 24 (slots_by page h) → h ≡ valid counter page → bs ≡ ss
      → ys ++ bs ≡ busy counter page ss
  busy_is ys bs xs ss h p q e r =
      ap (λ x. x ++ bs) (p ∙ q ∙ ap (λ o. take 24 (slots_by page o)) e) ∙ ap (λ y. take 24 (slots_by page (valid counter page)) ++ y) r

  -- a record and then a header with its slot
  pub placed_is : (mid : List ℕ) (side : Side) (ss ts : List Slot) (p : ℕ) → mid ≡ patched page p (record_bytes key value) → side ≡ target counter page
      → ts ≡ put_in page key (slot_at p value) ss → new ≡ with_header mid side (counter + 1) ts → new ≡ placed counter page key value ss p
  placed_is mid side ss ts p e f g h =
      h ∙ ap (λ x. with_header x side (counter + 1) ts) e ∙ ap (λ s. with_header (patched page p (record_bytes key value)) s (counter + 1) ts) f
      ∙ ap (with_header (patched page p (record_bytes key value)) (target counter page) (counter + 1)) g

  pub put_from_added : (r : Result (Unit {0}) PageRefusal) → keyed key (draft_records counter page) ≡ None → length (draft_slots counter page) < 24
      → Added counter page new key value (draft_slots counter page) r → PutPage counter page new key value r
  put_from_added (Ok x) none few a = (none, few, a)
  put_from_added (Err NoPlace) none few a = (none, few, a.0, a.1)
  put_from_added (Err KeyInDraft) none few a = absurd a
  put_from_added (Err NoSuchKey) none few a = absurd a
  put_from_added (Err DraftFull) none few a = absurd a

  pub change_from_added : (r : Result (Unit {0}) PageRefusal) → (keyed key (draft_records counter page) ≡ None → ⊥)
      → Added counter page new key value (taken_out page key (draft_slots counter page)) r → ChangedPage counter page new key value r
  change_from_added (Ok x) some a = (some, a)
  change_from_added (Err NoPlace) some a = (some, a.0, a.1)
  change_from_added (Err KeyInDraft) some a = absurd a
  change_from_added (Err NoSuchKey) some a = absurd a
  change_from_added (Err DraftFull) some a = absurd a
