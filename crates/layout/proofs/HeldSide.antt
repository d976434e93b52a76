-- Pages that agree in a header and in its records, whatever the numbers and whichever header is valid.
use Rattle.std.proofs.Common.{◌≡◌, ℕ, ◌<◌, ◌≤◌, ◌⊎◌, List, map, length, get_or, sym, ap, ◌∙◌, subst, inl, inr, zero-add, arith}
use Rattle.std.specs.List.{range_with_len}
use Rattle.std.proofs.lemmas.List.FromFn.{length-range_with_len, get_or-range_with_len}
use Rattle.octets.proofs.Agreeing.{map_agrees}
use Rattle.layout.specs.declared.header.Side.{Side}
use Rattle.layout.specs.declared.header.Slot.{Slot}
use Rattle.layout.specs.Pages.{count_of, slot_of, header_of, slots, key_of, entry_of, page_of}
use Rattle.layout.specs.Sound.{at, Fits}
use Rattle.layout.specs.Held.{InHeader, Covers}
use Rattle.layout.proofs.Fitting.{length_slots, at_slots, few_from}
use Rattle.layout.proofs.HeldBytes.{count_same, header_same, slot_same, key_same, entry_same}

-- byte k lies in a side's header or in one of its records
abbrev pub OnSide : List ℕ → Side → ℕ → Type 0
OnSide page s k = InHeader s k ⊎ ((j : ℕ) × (j < count_of page s) × Covers (slot_of page s j) k)

-- slots fit a page on which they have the same keys
pub fits_keys : (pages q : ℕ) (a b : List ℕ) (ss : List Slot) → ((k : ℕ) → k < length ss → key_of b (at ss k) ≡ key_of a (at ss k)) → Fits pages q a ss → Fits pages q b ss
fits_keys pages q a b ss same f = record {
  few = f.few;
  own = λ k l. let h = f.own k l in (h.0, ap (page_of pages) (same k l) ∙ h.1);
  ordered = λ j k less l. let h = f.ordered j k less l in (h.0, omega (arith, h.1, same j (omega arith), same k l));
}

module _ (a b : List ℕ) (s : Side) (long : length b ≡ length a) (same : (k : ℕ) → OnSide a s k → get_or b k 0 ≡ get_or a k 0) where
  in_header : (k : ℕ) → InHeader s k → get_or b k 0 ≡ get_or a k 0
  in_header k h = same k (inl h)

  pub side_header : header_of b s ≡ header_of a s
  side_header = header_same a b s long in_header

  pub side_count : count_of b s ≡ count_of a s
  side_count = count_same a b s long in_header

  -- in a slot of the side
  in_slot : (j : ℕ) → j < length (slots a (header_of a s)) → (k : ℕ) → Covers (at (slots a (header_of a s)) j) k → get_or b k 0 ≡ get_or a k 0
  in_slot j l k h =
      let within : j < count_of a s = omega (arith, length_slots a (header_of a s)) in
      same k (inr (j, within, subst (λ t. Covers t k) (at_slots a (header_of a s) j within) h))

  pub side_slots : count_of a s ≤ 24 → slots b (header_of b s) ≡ slots a (header_of a s)
  side_slots few =
      ap (slots b) side_header
      ∙ map_agrees (slot_of b s) (slot_of a s) (range_with_len 0 (count_of a s)) 0
      (λ k l. let h : k < count_of a s = omega (arith, length-range_with_len 0 (count_of a s)) in
      let e : get_or (range_with_len 0 (count_of a s)) k 0 ≡ k = get_or-range_with_len 0 (count_of a s) k 0 h ∙ zero-add k in
      slot_same a b s long in_header (get_or (range_with_len 0 (count_of a s)) k 0) (omega arith))

  pub side_entries : count_of a s ≤ 24 → map (entry_of b) (slots b (header_of b s)) ≡ map (entry_of a) (slots a (header_of a s))
  side_entries few =
      ap (map (entry_of b)) (side_slots few)
      ∙ map_agrees (entry_of b) (entry_of a) (slots a (header_of a s)) (record { offset = 0; length = 0 })
      (λ j l. entry_same a b (at (slots a (header_of a s)) j) long (in_slot j l))

  pub side_fits : (pages q : ℕ) → Fits pages q a (slots a (header_of a s)) → Fits pages q b (slots b (header_of b s))
  side_fits pages q f =
      subst (Fits pages q b) (sym (side_slots (few_from pages q a (header_of a s) f)))
      (fits_keys pages q a b (slots a (header_of a s)) (λ j l. key_same a b (at (slots a (header_of a s)) j) long (in_slot j l)) f)

  -- what the one page has on the side, the other has there too
  pub side_back : count_of a s ≤ 24 → (k : ℕ) → OnSide b s k → get_or a k 0 ≡ get_or b k 0
  side_back few k (inl h) = sym (same k (inl h))
  side_back few k (inr (j, l, h)) =
      let within : j < count_of a s = omega (arith, side_count) in
      sym (same k (inr (j, within, subst (λ t. Covers t k) (slot_same a b s long in_header j (omega arith)) h)))
