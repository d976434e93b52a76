-- Room for a record beside slots, and what putting the record there leaves.
use Rattle.std.proofs.Common.{◌≡◌, ℕ, ◌+◌, ◌^◌, ◌<◌, ◌≤◌, ◌⊎◌, List, ◌++◌, length, get_or, drop, sym, ap, ◌∙◌, subst, inl, inr, arith, length-append}
use Rattle.std.proofs.lemmas.List.{get_or-append-add, get_or_append_left}
use Rattle.std.proofs.lemmas.Bool.{cases_lt}
use Rattle.octets.specs.Numbers.{big}
use Rattle.octets.specs.Parts.{part, patched}
use Rattle.octets.proofs.Numbers.{big_spell}
use Rattle.octets.proofs.Patches.{length_patched, part_patched, patched_beside}
use Rattle.layout.specs.declared.header.Slot.{Slot}
use Rattle.layout.specs.Pages.{entry_of, key_of, value_of}
use Rattle.layout.specs.Sound.{Apart, at}
use Rattle.layout.specs.Held.{Covers}
use Rattle.layout.proofs.HeldBytes.{entry_same}
use Rattle.draft.specs.Places.{Free, Room}
use Rattle.draft.specs.Images.{record_bytes, slot_at}

pub free_left : (ss ts : List Slot) (k : ℕ) → Free (ss ++ ts) k → Free ss k
free_left ss ts k f j l c =
    f j (omega (arith, length-append ss ts)) (subst (λ s. Covers s k) (sym (get_or_append_left ss ts _ j l)) c)

pub free_right : (ss ts : List Slot) (k : ℕ) → Free (ss ++ ts) k → Free ts k
free_right ss ts k f j l c =
    f (length ss + j) (omega (arith, length-append ss ts)) (subst (λ s. Covers s k) (sym (get_or-append-add ss ts j _)) c)

-- a slot that covers some bytes is apart from free bytes
pub room_apart : (ss : List Slot) (n p : ℕ) → Room ss n p → 0 < n → (j : ℕ) → j < length ss → 0 < (at ss j).length
    → Apart (record { offset = p; length = n }) (at ss j)
room_apart ss n p (low, high, free) some j l full = elim (cases_lt p ((at ss j).offset + (at ss j).length)) [
  | inr before ↦ inr before
  | inl m ↦ elim (cases_lt (at ss j).offset (p + n)) [
    | inr after ↦ inl after
    | inl o ↦ elim (cases_lt p (at ss j).offset) [
      | inl first ↦ absurd (free (at ss j).offset (omega arith) o j l (omega arith, omega arith))
      | inr second ↦ absurd (free p (omega arith) (omega arith) j l (second, m))
    ]
  ]
]

module _ (page : List ℕ) (p key : ℕ) (value : List ℕ) (long : length page ≡ 1024) (high : p + (4 + length value) ≤ 1024) where
  length_record : length (record_bytes key value) ≡ 4 + length value
  length_record = omega arith

  fits : p + length (record_bytes key value) ≤ length page
  fits = omega (arith, length_record)

  pub record_long : length (patched page p (record_bytes key value)) ≡ 1024
  record_long = length_patched page (record_bytes key value) p fits ∙ long

  -- every byte outside the record is as before
  pub record_beside : (k : ℕ) → (k < p) ⊎ (p + (4 + length value) ≤ k) → get_or (patched page p (record_bytes key value)) k 0 ≡ get_or page k 0
  record_beside k h =
      patched_beside page (record_bytes key value) p fits k (elim h [ inl l ↦ inl l | inr l ↦ inr (omega (arith, length_record)) ])

  pub record_apart : (s : Slot) → Apart (slot_at p value) s → entry_of (patched page p (record_bytes key value)) s ≡ entry_of page s
  record_apart s a =
      entry_same page (patched page p (record_bytes key value)) s (record_long ∙ sym long)
      (λ k c. record_beside k (elim a [ inl h ↦ inr (omega arith) | inr h ↦ inl (omega arith) ]))

  record_part : part (patched page p (record_bytes key value)) p (4 + length value) ≡ record_bytes key value
  record_part =
      ap (λ n. part (patched page p (record_bytes key value)) p n) (sym length_record) ∙ part_patched page (record_bytes key value) p fits

  -- the record is read back
  pub record_key : key < 2 ^ 32 → key_of (patched page p (record_bytes key value)) (slot_at p value) ≡ key
  unfolding key_of
  record_key small = ap (λ x. big (part x 0 4)) record_part ∙ big_spell 4 key small

  pub record_value : value_of (patched page p (record_bytes key value)) (slot_at p value) ≡ value
  unfolding value_of
  record_value = ap (drop 4) record_part
