-- Where the records of changes to a fresh page lie.
use Rattle.std.proofs.Common.{◌≡◌, ℕ, ◌+◌, ◌^◌, ◌<◌, ◌≤◌, List, [], ◌∷◌, ◌++◌, map, length, take, Some, None, Ok, Err, Result, sym, refl, ap, ◌∙◌, subst, inl, inr, arith}
use Rattle.std.proofs.lemmas.List.{take_all}
use Rattle.std.proofs.lemmas.Bool.{cases_lt}
use Rattle.layout.specs.declared.header.Slot.{Slot}
use Rattle.layout.specs.Pages.{Entry, entry_of, page_of, records, saved_slots}
use Rattle.layout.specs.Walks.{keyed}
use Rattle.draft.specs.declared.refusal.PageRefusal.{PageRefusal}
use Rattle.draft.specs.declared.refusal.PageRefusal.TheVariants.{KeyInDraft, NoSuchKey, DraftFull, NoPlace}
use Rattle.draft.specs.Drafts.{draft_records, draft_slots, taken_out}
use Rattle.draft.specs.Images.{busy, ChangedPage, PutPage, slot_at}
use Rattle.draft.specs.Places.{Highest}
use Rattle.guard.specs.Guard.{Base}
use Rattle.guard.specs.Changes.{Drafted}
use Rattle.guard.proofs.Changed.{puts, puts_records, replaces, replaces_records}
use Rattle.guard.proofs.Rising.{entries_in, entries_out, map_taken_out}
use Rattle.guard.proofs.Stages.{begins, saves}

-- a page of a file of two at which an edit can begin, and its records
pub record Stands (counter : ℕ) (page : List ℕ) (es : List Entry) : Type 0 where
  pub base : Base counter 2 1 page
  pub holds : records counter page ≡ es

abbrev pub slots_in : List Entry → List Slot
slots_in es = map (λ e. e.slot) es

-- the entry of a record at an offset
abbrev pub entry : ℕ → List ℕ → ℕ → Entry
entry key value p = record { key = key; slot = slot_at p value; value = value }

slots_of : (page : List ℕ) (ss : List Slot) → slots_in (map (entry_of page) ss) ≡ ss
slots_of page [] = refl
slots_of page (s ∷ ss) = ap (λ ts. s ∷ ts) (slots_of page ss)

-- a place that has room, and none above it, is the highest
place_is : (ss : List Slot) (n p q : ℕ) → Highest ss n (Some p) → Highest ss n (Some q) → p ≡ q
place_is ss n p q hp hq = elim (cases_lt p q) [
  | inl l ↦ absurd (hp.1 q l hq.0)
  | inr m ↦ elim (cases_lt q p) [ inl l ↦ absurd (hq.1 p l hp.0) | inr o ↦ omega arith ]
]

-- the slots that a put and a change must not touch, by the entries
module _ (counter : ℕ) (page : List ℕ) (es : List Entry) (s : Stands counter page es) where
  drafted : Drafted counter 2 1 page page
  drafted = (begins counter 2 1 page s.base).0

  draft_is : draft_records counter page ≡ es
  draft_is = (begins counter 2 1 page s.base).1 ∙ s.holds

  saved_slots_lem : take 24 (saved_slots counter page) ≡ slots_in es
  saved_slots_lem =
      take_all 24 (saved_slots counter page) s.base.sound.fits.few
      ∙ sym (slots_of page (saved_slots counter page)) ∙ ap slots_in s.holds

  draft_slots_lem : draft_slots counter page ≡ slots_in es
  draft_slots_lem = sym (slots_of page (draft_slots counter page)) ∙ ap slots_in draft_is

  busy_put : busy counter page (draft_slots counter page) ≡ slots_in es ++ slots_in es
  busy_put = λ i. saved_slots_lem i ++ draft_slots_lem i

  out_slots : (key : ℕ) → taken_out page key (draft_slots counter page) ≡ slots_in (entries_out key es)
  out_slots key =
      sym (slots_of page (taken_out page key (draft_slots counter page)))
      ∙ ap slots_in (map_taken_out page key (draft_slots counter page)) ∙ ap (λ x. slots_in (entries_out key x)) draft_is

  busy_change : (key : ℕ) → busy counter page (taken_out page key (draft_slots counter page)) ≡ slots_in es ++ slots_in (entries_out key es)
  busy_change key = λ i. saved_slots_lem i ++ out_slots key i

  module _ (small : counter + 1 < 2 ^ 32) (key : ℕ) (value : List ℕ) (p : ℕ) (new : List ℕ) (key-small : key < 2 ^ 32) (short : length value ≤ 200)
      (of-page : page_of 2 key ≡ 1) where
    -- a put that is accepted: the record lies at the highest place
    put_ok : Highest (slots_in es ++ slots_in es) (4 + length value) (Some p) → PutPage counter page new key value (Ok tt)
        → Stands (counter + 1) new (entries_in key (entry key value p) es)
    put_ok high r =
        let c = puts counter 2 1 page page new key value small key-small short of-page drafted r in
        let v = saves counter 2 1 page new c.0 in
        let is : r.2.0 ≡ p =
        place_is (slots_in es ++ slots_in es) (4 + length value) r.2.0 p
        (subst (λ ss. Highest ss (4 + length value) (Some r.2.0)) busy_put r.2.1) high in
        record {
          base = v.0;
          holds = v.1 ∙ puts_records counter 2 1 page page new key value small key-small short of-page drafted r
              ∙ (λ i. entries_in key (record { key = key; slot = slot_at (is i) value; value = value }) (draft_is i));
        }

    pub put_stands : keyed key es ≡ None → length (slots_in es) < 24 → Highest (slots_in es ++ slots_in es) (4 + length value) (Some p)
        → (r : Result (Unit {0}) PageRefusal) → PutPage counter page new key value r
        → (r ≡ Ok tt) × Stands (counter + 1) new (entries_in key (entry key value p) es)
    put_stands absent few high (Ok u) r = (refl, put_ok high r)
    put_stands absent few high (Err KeyInDraft) r = absurd (r.0 (ap (keyed key) draft_is ∙ absent))
    put_stands absent few high (Err DraftFull) r = absurd (omega (arith, r.1, few, ap length draft_slots_lem))
    put_stands absent few high (Err NoPlace) r =
        absurd (subst (λ ss. Highest ss (4 + length value) None) busy_put r.2 p high.0)
    put_stands absent few high (Err NoSuchKey) r = absurd r

    -- a change likewise
    change_ok : Highest (slots_in es ++ slots_in (entries_out key es)) (4 + length value) (Some p) → ChangedPage counter page new key value (Ok tt)
        → Stands (counter + 1) new (entries_in key (entry key value p) (entries_out key es))
    change_ok high r =
        let c = replaces counter 2 1 page page new key value small key-small short of-page drafted r in
        let v = saves counter 2 1 page new c.0 in
        let is : r.1.0 ≡ p =
        place_is (slots_in es ++ slots_in (entries_out key es)) (4 + length value) r.1.0 p
        (subst (λ ss. Highest ss (4 + length value) (Some r.1.0)) (busy_change key) r.1.1) high in
        record {
          base = v.0;
          holds = v.1 ∙ replaces_records counter 2 1 page page new key value small key-small short of-page drafted r
              ∙ (λ i. entries_in key (record { key = key; slot = slot_at (is i) value; value = value }) (entries_out key (draft_is i)));
        }

    pub change_stands : (keyed key es ≡ None → ⊥) → Highest (slots_in es ++ slots_in (entries_out key es)) (4 + length value) (Some p)
        → (r : Result (Unit {0}) PageRefusal) → ChangedPage counter page new key value r
        → (r ≡ Ok tt) × Stands (counter + 1) new (entries_in key (entry key value p) (entries_out key es))
    change_stands there high (Ok u) r = (refl, change_ok high r)
    change_stands there high (Err NoSuchKey) r = absurd (there (sym (ap (keyed key) draft_is) ∙ r.0))
    change_stands there high (Err NoPlace) r =
        absurd (subst (λ ss. Highest ss (4 + length value) None) (busy_change key) r.1 p high.0)
    change_stands there high (Err KeyInDraft) r = absurd r
    change_stands there high (Err DraftFull) r = absurd r
