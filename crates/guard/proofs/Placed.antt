-- A record put beside the slots of a draft: what it does to the draft.
use Rattle.std.proofs.Common.{◌≡◌, ℕ, ◌+◌, ◌^◌, ◌<◌, ◌≤◌, cond, eqb, ◌⊎◌, List, map, length, get_or, take, Some, sym, ap, ◌∙◌, subst, inl, inr, ⊎_elim, arith}
use Rattle.std.specs.Option.{option_map}
use Rattle.std.specs.List.{AllByRecursion}
use Rattle.std.proofs.ByRecursion.{All-from_get_or, All-weaker}
use Rattle.std.proofs.lemmas.List.{take_all}
use Rattle.std.proofs.lemmas.Bool.{cases_eq, cases_lt, cond-false, cond-true, eq-eqb, ne_eqb}
use Rattle.octets.specs.Parts.{patched}
use Rattle.octets.proofs.Agreeing.{map_agrees}
use Rattle.layout.specs.declared.header.Side.{Side}
use Rattle.layout.specs.declared.header.Slot.{Slot}
use Rattle.layout.specs.Pages.{entry_of, key_of, page_of, saved_slots}
use Rattle.layout.specs.Sound.{Apart, at, Fits}
use Rattle.layout.specs.Held.{Held, InHeader}
use Rattle.layout.proofs.HeldBytes.{number_same}
use Rattle.layout.proofs.HeldSide.{fits_keys}
use Rattle.layout.proofs.Alike.{held_place, start_low}
use Rattle.draft.specs.Drafts.{draft_records, put_in, target}
use Rattle.draft.specs.Images.{busy, placed, record_bytes, slot_at, with_header}
use Rattle.draft.specs.Places.{Free, Room}
use Rattle.guard.specs.Guard.{Base, MayNumber, Near, other}
use Rattle.guard.specs.Changes.{Changes, value_in}
use Rattle.guard.proofs.Fitted.{fits_put_in, put_in_same}
use Rattle.guard.proofs.Nearby.{near_slots, near_sound, near_target}
use Rattle.guard.proofs.Rewritten.{near_beside}
use Rattle.guard.proofs.Rising.{Absent, all_two, entries_in, keyed_put_in, keyed_put_in_other, map_put_in}
use Rattle.guard.proofs.Rooms.{free_left, free_right, record_apart, record_beside, record_key, record_long, record_value, room_apart}
use Rattle.guard.proofs.Written.{written_begun, written_drafted, written_records}

-- one thing at a key, another at every other
pub by_key : {X : Type 0} (k key : ℕ) (x y z : X) → (k ≡ key → x ≡ y) → ((k ≡ key → ⊥) → x ≡ z) → x ≡ cond (eqb k key) y z
by_key k key x y z here else' =
    ⊎_elim (λ (e : k ≡ key). here e ∙ sym (cond-true (eqb k key) y z (eq-eqb k key e)))
    (λ (ne : k ≡ key → ⊥). else' ne ∙ sym (cond-false (eqb k key) y z (ne_eqb k key ne))) (cases_eq k key)

-- a record is put where there is room, beside slots that do not have its key
module _ (counter pages q : ℕ) (base page : List ℕ) (key : ℕ) (value : List ℕ) (ss : List Slot) (p : ℕ)
    (small : counter + 1 < 2 ^ 32) (key-small : key < 2 ^ 32) (short : length value ≤ 200) (of-page : page_of pages key ≡ q)
    (b : Base counter pages q base) (near : Near counter base page)
    (f : Fits pages q page ss) (few : length ss < 24) (absent : Absent page key ss) (room : Room (busy counter page ss) (4 + length value) p) where
  abbrev slot : Slot
  slot = slot_at p value

  abbrev mid : List ℕ
  mid = patched page p (record_bytes key value)

  beside : (k : ℕ) → (k < p) ⊎ (p + (4 + length value) ≤ k) → get_or mid k 0 ≡ get_or page k 0
  beside = record_beside page p key value near.long room.1

  mid_long : length mid ≡ 1024
  mid_long = record_long page p key value near.long room.1

  -- the page with the record is near the base
  free_saved : (k : ℕ) → p ≤ k → k < p + (4 + length value) → Free (saved_slots counter base) k
  free_saved k l h =
      subst (λ ts. Free ts k)
      (take_all 24 (saved_slots counter page) (near_sound counter pages q base page b near).fits.few ∙ near_slots counter pages q base page b near)
      (free_left (take 24 (saved_slots counter page)) ss k (room.2 k l h))

  in_header : (s : Side) (k : ℕ) → InHeader s k → get_or mid k 0 ≡ get_or page k 0
  in_header s k i = beside k (inl (omega (arith, start_low s, room.0)))

  in_held : (k : ℕ) → Held counter base k → get_or mid k 0 ≡ get_or page k 0
  in_held k h = elim (held_place counter base k h) [
    | inl (s, v, i) ↦ in_header s k i
    | inr (j, l, c) ↦ elim (cases_lt k p) [
      | inl m ↦ beside k (inl m)
      | inr m ↦ elim (cases_lt k (p + (4 + length value))) [ inl n ↦ absurd (free_saved k m n j l c) | inr n ↦ beside k (inr n) ]
    ]
  ]

  mid_near : Near counter base mid
  mid_near =
      let t : Side = target counter base in
      near_beside counter pages q base page mid b near mid_long in_held (in_header (other t))
      (subst (MayNumber counter base) (sym (number_same page mid t (mid_long ∙ sym near.long) (in_header t))) near.number)

  -- the slots beside the record have their entries
  apart_at : (j : ℕ) → j < length ss → Apart slot (at ss j)
  apart_at j l =
      room_apart ss (4 + length value) p
      (room.0, room.1, λ k m n. free_right (take 24 (saved_slots counter page)) ss k (room.2 k m n)) (omega arith) j l
      (omega (arith, (f.own j l).0.2))

  apart_all : AllByRecursion (Apart slot) ss
  apart_all = All-from_get_or (Apart slot) ss (record { offset = 0; length = 0 }) apart_at

  entry_at : (s : Slot) → Apart slot s → entry_of mid s ≡ entry_of page s
  entry_at = record_apart page p key value near.long room.1

  key_at : (s : Slot) → Apart slot s → key_of mid s ≡ key_of page s
  key_at s a = ap (λ e. e.key) (entry_at s a)

  same_entries : map (entry_of mid) ss ≡ map (entry_of page) ss
  same_entries =
      map_agrees (entry_of mid) (entry_of page) ss (record { offset = 0; length = 0 }) (λ j l. entry_at (at ss j) (apart_at j l))

  new_key : key_of mid slot ≡ key
  new_key = record_key page p key value near.long room.1 key-small

  mid_fits : Fits pages q mid (put_in mid key slot ss)
  mid_fits =
      fits_put_in pages q mid key slot new_key
      ((room.0, room.1, omega arith, omega arith), ap (page_of pages) new_key ∙ of-page) ss few
      (all_two (Apart slot) (λ s. key_of page s ≡ key → ⊥) (λ s. key_of mid s ≡ key → ⊥)
      (λ s a n e. n (sym (key_at s a) ∙ e)) ss apart_all absent)
      apart_all (fits_keys pages q page mid ss (λ j l. key_at (at ss j) (apart_at j l)) f)

  same_page : placed counter page key value ss p ≡ with_header mid (target counter base) (counter + 1) (put_in mid key slot ss)
  same_page =
      let t = near_target counter pages q base page b near in
      let s = put_in_same page mid key slot ss (All-weaker (Apart slot) (λ s. key_of mid s ≡ key_of page s) key_at ss apart_all) in
      λ i. with_header mid (t i) (counter + 1) (sym s i)

  pub placed_changes : ((k : ℕ) → (k ≡ key → ⊥) → value_in (map (entry_of page) ss) k ≡ value_in (draft_records counter page) k)
      → Changes counter pages q base page (placed counter page key value ss p) key (Some value)
  placed_changes others =
      subst (λ n. Changes counter pages q base page n key (Some value)) (sym same_page) (
        written_drafted counter pages q base mid (put_in mid key slot ss) small b mid_near mid_fits,
        written_begun counter pages q base mid (put_in mid key slot ss) small b mid_near mid_fits,
        λ k. ap (λ es. value_in es k) (written_records counter pages q base mid (put_in mid key slot ss) small b mid_near mid_fits)
            ∙ by_key k key (value_in (map (entry_of mid) (put_in mid key slot ss)) k) (Some value) (value_in (draft_records counter page) k)
            (λ e. ap (value_in (map (entry_of mid) (put_in mid key slot ss))) e
            ∙ ap (option_map (λ e. e.value)) (keyed_put_in mid key slot new_key ss)
            ∙ ap Some (record_value page p key value near.long room.1))
            (λ ne. ap (option_map (λ e. e.value)) (keyed_put_in_other mid key slot new_key k ne ss)
            ∙ ap (λ es. value_in es k) same_entries
            ∙ others k ne),
      )

  -- the draft's records: those of the slots beside it, and its own
  pub placed_records : draft_records counter (placed counter page key value ss p)
      ≡ entries_in key (record { key = key; slot = slot; value = value }) (map (entry_of page) ss)
  placed_records =
      let v = record_value page p key value near.long room.1 in
      ap (draft_records counter) same_page
      ∙ written_records counter pages q base mid (put_in mid key slot ss) small b mid_near mid_fits
      ∙ map_put_in mid key slot ss
      ∙ (λ i. entries_in key (record { key = new_key i; slot = slot; value = v i }) (same_entries i))
