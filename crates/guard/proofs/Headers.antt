-- A page with another header reads back what was written, and nothing else of it changes.
use Rattle.std.proofs.Common.{◌≡◌, ℕ, zero, suc, ◌+◌, ◌-◌, ◌*◌, ◌^◌, ◌<◌, ◌≤◌, List, [], ◌∷◌, ◌++◌, map, length, get_or, take, replicate, sym, refl, ap, ◌∙◌, inl, inr, arith, length-append}
use Rattle.std.specs.List.{range_with_len, flat_map}
use Rattle.std.proofs.lemmas.List.FromFn.{fill_by_all}
use Rattle.std.proofs.lemmas.List.{drop-drop, length-replicate}
use Rattle.std.proofs.lemmas.Bool.{cases_lt}
use Rattle.octets.specs.Numbers.{big}
use Rattle.octets.specs.Parts.{part}
use Rattle.octets.proofs.Agreeing.{part_part}
use Rattle.octets.proofs.Numbers.{big_spell}
use Rattle.octets.proofs.Patches.{length_patched, patched_beside}
use Rattle.octets.proofs.Words.{part_inside}
use Rattle.layout.specs.declared.header.Side.{Side}
use Rattle.layout.specs.declared.header.Slot.{Slot}
use Rattle.layout.specs.Pages.{count_of, header_of, length_of, number_of, offset_of, slot_of, slots, start}
use Rattle.layout.specs.Sound.{at}
use Rattle.layout.specs.Held.{InHeader}
use Rattle.layout.proofs.Alike.{start_low}
use Rattle.draft.specs.Images.{header_bytes, slot_bytes, with_header}

length_joined : (ss : List Slot) → length (flat_map slot_bytes ss) ≡ 4 * length ss
length_joined [] = refl
length_joined (s ∷ ss) = let rest = length_joined ss in omega arith

-- slot k of some slots, as bytes
part_slots : (ss : List Slot) (rest : List ℕ) (k : ℕ) → k < length ss → part (flat_map slot_bytes ss ++ rest) (4 * k) 4 ≡ slot_bytes (at ss k)
part_slots [] rest k l = absurd (omega arith)
part_slots (s ∷ ss) rest zero l = refl
part_slots (s ∷ ss) rest (suc k) l =
    let e : 4 * suc k ≡ suc (suc (suc (suc (4 * k)))) = omega arith in
    rw e (part_slots ss rest k (omega arith))

pub length_header : (number : ℕ) (ss : List Slot) → length ss ≤ 24 → length (header_bytes number ss) ≡ 104
length_header number ss few =
    let rest : length (flat_map slot_bytes ss ++ replicate (96 - 4 * length ss) 0) ≡ 96 =
    omega (arith, length-append (flat_map slot_bytes ss) (replicate (96 - 4 * length ss) 0), length_joined ss, length-replicate {A = ℕ} (96 - 4 * length ss) 0) in
    omega arith

module _ (page : List ℕ) (s : Side) (number : ℕ) (ss : List Slot) (long : length page ≡ 1024) (few : length ss ≤ 24) where
  fits : start s + length (header_bytes number ss) ≤ length page
  fits = omega (arith, length_header number ss few, start_low s)

  pub header_long : length (with_header page s number ss) ≡ 1024
  header_long = length_patched page (header_bytes number ss) (start s) fits ∙ long

  -- every byte outside the header is as before
  pub header_beside : (k : ℕ) → (InHeader s k → ⊥) → get_or (with_header page s number ss) k 0 ≡ get_or page k 0
  header_beside k never =
      let l = length_header number ss few in
      patched_beside page (header_bytes number ss) (start s) fits k (elim (cases_lt k (start s)) [
        | inl m ↦ inl m
        | inr m ↦ inr (elim (cases_lt k (start s + 104)) [ inl n ↦ absurd (never (m, n)) | inr n ↦ omega arith ])
      ])

  header_part : (i n : ℕ) → i + n ≤ 104 → part (with_header page s number ss) (start s + i) n ≡ part (header_bytes number ss) i n
  header_part i n h = part_inside page (header_bytes number ss) (start s) i n fits (omega (arith, length_header number ss few))

  pub header_number : number < 2 ^ 32 → number_of (with_header page s number ss) s ≡ number
  unfolding number_of
  header_number h =
      ap (λ i. big (part (with_header page s number ss) i 4)) (omega arith) ∙ ap big (header_part 0 4 (omega arith)) ∙ big_spell 4 number h

  pub header_count : count_of (with_header page s number ss) s ≡ length ss
  unfolding count_of
  header_count = ap big (header_part 4 2 (omega arith)) ∙ big_spell 2 (length ss) (omega arith)

  slot_part : (k i : ℕ) → k < length ss → i + 2 ≤ 4
      → part (with_header page s number ss) (start s + (8 + (4 * k + i))) 2 ≡ part (slot_bytes (at ss k)) i 2
  slot_part k i l h =
      let rest : List ℕ = replicate (96 - 4 * length ss) 0 in
      header_part (8 + (4 * k + i)) 2 (omega arith) ∙ ap (take 2) (sym (drop-drop (4 * k + i) 8 (header_bytes number ss)))
      ∙ sym (part_part (flat_map slot_bytes ss ++ rest) (4 * k) 4 i 2 h) ∙ ap (λ z. part z i 2) (part_slots ss rest k l)

  -- the slots are read back where two bytes suffice for each offset and length
  module _ (small : (k : ℕ) → k < length ss → ((at ss k).offset < 2 ^ 16) × ((at ss k).length < 2 ^ 16)) where
    header_offset : (k : ℕ) → k < length ss → offset_of (with_header page s number ss) s k ≡ (at ss k).offset
    unfolding offset_of
    header_offset k l =
        ap (λ i. big (part (with_header page s number ss) i 2)) (omega arith) ∙ ap big (slot_part k 0 l (omega arith))
        ∙ big_spell 2 (at ss k).offset (small k l).0

    header_length : (k : ℕ) → k < length ss → length_of (with_header page s number ss) s k ≡ (at ss k).length
    unfolding length_of
    header_length k l =
        ap (λ i. big (part (with_header page s number ss) i 2)) (omega arith) ∙ ap big (slot_part k 2 l (omega arith))
        ∙ big_spell 2 (at ss k).length (small k l).1

    pub header_slot : (k : ℕ) → k < length ss → slot_of (with_header page s number ss) s k ≡ at ss k
    header_slot k l =
        let p = header_offset k l in
        let q = header_length k l in
        λ i. record { offset = p i; length = q i }

    pub header_slots : slots (with_header page s number ss) (header_of (with_header page s number ss) s) ≡ ss
    header_slots =
        let new : List ℕ = with_header page s number ss in
        ap (λ n. map (slot_of new s) (range_with_len 0 n)) header_count
        ∙ sym (fill_by_all (slot_of new s) ss (length ss) (record { offset = 0; length = 0 }) refl (λ k l. sym (header_slot k l)))
