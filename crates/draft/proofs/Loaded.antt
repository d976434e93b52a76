-- The slots of a header, taken one by one.
use Rattle.std.proofs.Common.{◌≡◌, ℕ, ◌+◌, ◌<◌, ◌≤◌, min, List, [], ◌∷◌, ◌++◌, map, take, Some, Option, sym, ap, ◌∙◌, ⊎_elim, zero-add, arith}
use Rattle.std.specs.List.{range_with_len}
use Rattle.std.proofs.lemmas.List.FromFn.{length-map-range_with_len, map-range_with_len_more, take-map-range_with_len}
use Rattle.std.proofs.lemmas.List.{take_all}
use Rattle.std.proofs.lemmas.Bool.{cases_lt}
use Rattle.layout.specs.declared.header.Header.{Header}
use Rattle.layout.specs.declared.header.Slot.{Slot}
use Rattle.layout.specs.Pages.{slot_of, slots, slots_by}

module _ (page : List ℕ) (h : Header) where
  -- the first so many slots, and one more
  pub header_more : (old new : List Slot) (s : Slot) (k : ℕ) → old ≡ map (slot_of page h.side) (range_with_len 0 k)
      → s ≡ slot_of page h.side k → new ≡ old ++ s ∷ [] → new ≡ map (slot_of page h.side) (range_with_len 0 (k + 1))
  header_more old new s k p e q =
      q ∙ ap (λ l. l ++ s ∷ []) p ∙ ap (λ t. map (slot_of page h.side) (range_with_len 0 k) ++ t ∷ []) e
      ∙ sym (map-range_with_len_more (slot_of page h.side) 0 k k (zero-add k))

  header_all : (k : ℕ) → k ≡ min h.count 24 → map (slot_of page h.side) (range_with_len 0 k) ≡ take 24 (slots page h)
  header_all k e =
      ⊎_elim (λ (l : h.count < 24).
      let m : k ≡ h.count = omega arith in
      ap (λ n. map (slot_of page h.side) (range_with_len 0 n)) m
      ∙ sym (take_all 24 (slots page h) (omega (arith, length-map-range_with_len (slot_of page h.side) 0 h.count))))
      (λ (l : 24 ≤ h.count).
      let m : k ≡ 24 = omega arith in
      ap (λ n. map (slot_of page h.side) (range_with_len 0 n)) m ∙ sym (take-map-range_with_len (slot_of page h.side) 0 h.count 24 l))
      (cases_lt h.count 24)

  pub header_done : (o : Option Header) (ss : List Slot) (k : ℕ) → o ≡ Some h → k ≡ min h.count 24
      → ss ≡ map (slot_of page h.side) (range_with_len 0 k) → ss ≡ take 24 (slots_by page o)
  header_done o ss k is e p = p ∙ header_all k e ∙ ap (λ x. take 24 (slots_by page x)) (sym is)
