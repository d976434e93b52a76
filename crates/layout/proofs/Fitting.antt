-- The slots of a header one by one, and all of them fitting their page.
use Rattle.std.proofs.Common.{◌≡◌, ℕ, ◌<◌, ◌≤◌, List, length, sym, subst, zero-add, arith}
use Rattle.std.proofs.lemmas.List.FromFn.{length-map-range_with_len, get_or-map-range_with_len}
use Rattle.layout.specs.declared.header.Header.{Header}
use Rattle.layout.specs.Pages.{slots, slot_of}
use Rattle.layout.specs.Sound.{at, Own, Before, Fits}
use Rattle.layout.specs.Walks.{SlotFits}

pub length_slots : (page : List ℕ) (h : Header) → length (slots page h) ≡ h.count
length_slots page h = length-map-range_with_len (slot_of page h.side) 0 h.count

pub at_slots : (page : List ℕ) (h : Header) (k : ℕ) → k < h.count → at (slots page h) k ≡ slot_of page h.side k
at_slots page h k l = get_or-map-range_with_len (slot_of page h.side) 0 h.count k k _ l (zero-add k)

module _ (pages q : ℕ) (page : List ℕ) (h : Header) where
  pub few_from : Fits pages q page (slots page h) → h.count ≤ 24
  few_from f = omega (arith, length_slots page h, f.few)

  pub slot_from : Fits pages q page (slots page h) → (k : ℕ) → k < h.count → SlotFits pages q page h k
  slot_from f k l =
      let within : k < length (slots page h) = omega (arith, length_slots page h) in (
        subst (Own pages q page) (at_slots page h k l) (f.own k within),
        λ j less. subst (λ s. Before page s (slot_of page h.side k)) (at_slots page h j (omega arith))
            (subst (λ s. Before page (at (slots page h) j) s) (at_slots page h k l) (f.ordered j k less within)),
      )

  pub fits_from : h.count ≤ 24 → ((k : ℕ) → k < h.count → SlotFits pages q page h k) → Fits pages q page (slots page h)
  fits_from few each = record {
    few = omega (arith, length_slots page h);
    own = λ k l. let within : k < h.count = omega (arith, length_slots page h) in
        subst (Own pages q page) (sym (at_slots page h k within)) (each k within).0;
    ordered = λ j k less l. let within : k < h.count = omega (arith, length_slots page h) in
        subst (λ s. Before page s (at (slots page h) k)) (sym (at_slots page h j (omega arith)))
        (subst (λ s. Before page (slot_of page h.side j) s) (sym (at_slots page h k within)) ((each k within).1 j less));
  }
