-- Pages that agree in the bytes that one of them holds, and have the valid header on one side, are read alike.
use Rattle.std.proofs.Common.{◌≡◌, ℕ, ◌<◌, ◌≤◌, ◌⊎◌, List, [], map, length, get_or, Some, Option, sym, ap, ◌∙◌, subst, inl, inr, arith, MatchOption}
use Rattle.layout.specs.declared.header.Side.{Side}
use Rattle.layout.specs.declared.header.Header.{Header}
use Rattle.layout.specs.Pages.{count_of, slot_of, header_of, slots_by, saved_slots, valid, entry_of, records}
use Rattle.layout.specs.Sound.{Fits, Numbered, Sound}
use Rattle.layout.specs.Held.{InHeader, Covers, Held, Agree, RestsOnHeld}
use Rattle.layout.proofs.Fitting.{length_slots}
use Rattle.layout.proofs.Sides.{Both, both_from_numbers}
use Rattle.layout.proofs.HeldSide.{OnSide, side_count, side_entries, side_fits, side_back}

-- byte k is held by a header, or by none
abbrev HeldBy : List ℕ → ℕ → Option Header → Type 0
HeldBy page k o = MatchOption o ⊥ (λ h. InHeader h.side k ⊎ ((j : ℕ) × (j < h.count) × Covers (slot_of page h.side j) k))

module _ (counter : ℕ) (page : List ℕ) (s : Side) (v : valid counter page ≡ Some (header_of page s)) where
  -- what a page holds is what lies on the side of its valid header
  pub held_from : (k : ℕ) → OnSide page s k → Held counter page k
  held_from k h = subst (HeldBy page k) (sym v) h

  pub held_on : (k : ℕ) → Held counter page k → OnSide page s k
  held_on k h = subst (HeldBy page k) v h

  pub saved_count : length (saved_slots counter page) ≡ count_of page s
  saved_count = ap (λ o. length (slots_by page o)) v ∙ length_slots page (header_of page s)

-- the empty list of slots fits any page
pub fits_none : (pages q : ℕ) (page : List ℕ) → Fits pages q page []
fits_none pages q page = record { few = omega arith; own = λ k l. absurd (omega arith); ordered = λ j k less l. absurd (omega arith) }

-- the edit numbers may differ, so long as the valid header is on one side
module _ (counter : ℕ) (a b : List ℕ) (long : length b ≡ length a) (same : (k : ℕ) → Held counter a k → get_or b k 0 ≡ get_or a k 0) where
  pub held_side : (s : Side) → valid counter a ≡ Some (header_of a s) → (k : ℕ) → OnSide a s k → get_or b k 0 ≡ get_or a k 0
  held_side s v k h = same k (held_from counter a s v k h)

  pub held_few : Both counter a b → length (saved_slots counter b) ≡ length (saved_slots counter a)
  held_few (inl (p, q)) = ap (λ o. length (slots_by b o)) q ∙ sym (ap (λ o. length (slots_by a o)) p)
  held_few (inr (s, p, q)) =
      saved_count counter b s q ∙ side_count a b s long (held_side s p) ∙ sym (saved_count counter a s p)

  pub held_records : Both counter a b → length (saved_slots counter a) ≤ 24 → records counter b ≡ records counter a
  held_records (inl (p, q)) few = ap (λ o. map (entry_of b) (slots_by b o)) q ∙ sym (ap (λ o. map (entry_of a) (slots_by a o)) p)
  held_records (inr (s, p, q)) few =
      ap (λ o. map (entry_of b) (slots_by b o)) q
      ∙ side_entries a b s long (held_side s p) (omega (arith, saved_count counter a s p))
      ∙ sym (ap (λ o. map (entry_of a) (slots_by a o)) p)

  pub held_fits : (pages q : ℕ) → Both counter a b → Fits pages q a (saved_slots counter a) → Fits pages q b (saved_slots counter b)
  held_fits pages q (inl (p, r)) f = subst (λ o. Fits pages q b (slots_by b o)) (sym r) (fits_none pages q b)
  held_fits pages q (inr (s, p, r)) f =
      subst (λ o. Fits pages q b (slots_by b o)) (sym r)
      (side_fits a b s long (held_side s p) pages q (subst (λ o. Fits pages q a (slots_by a o)) p f))

  -- then the pages agree in what the other holds too
  pub held_back : Both counter a b → length (saved_slots counter a) ≤ 24 → (k : ℕ) → Held counter b k → get_or a k 0 ≡ get_or b k 0
  held_back (inl (p, q)) few k h = absurd (subst (HeldBy b k) q h)
  held_back (inr (s, p, q)) few k h =
      side_back a b s long (held_side s p) (omega (arith, saved_count counter a s p)) k (held_on counter b s q k h)

pub agree_both : (counter : ℕ) (a b : List ℕ) → Agree counter a b → Both counter a b
agree_both counter a b g = both_from_numbers counter a b g.number_a g.number_b

agree_long : (counter : ℕ) (a b : List ℕ) → Agree counter a b → length b ≡ length a
agree_long counter a b g = omega (arith, g.long_a, g.long_b)

pub agree_sym : (counter : ℕ) (a b : List ℕ) → Agree counter a b → length (saved_slots counter a) ≤ 24 → Agree counter b a
agree_sym counter a b g few = record {
  long_a = g.long_b;
  long_b = g.long_a;
  number_a = sym g.number_a;
  number_b = sym g.number_b;
  held = held_back counter a b (agree_long counter a b g) g.held (agree_both counter a b g) few;
}

agree_numbered : (counter : ℕ) (a b : List ℕ) → Agree counter a b → Numbered counter a → Numbered counter b
agree_numbered counter a b g n = record {
  low_a = omega (arith, g.number_a, n.low_a);
  low_b = omega (arith, g.number_b, n.low_b);
  differ = λ e. g.number_a ∙ n.differ (sym g.number_a ∙ e ∙ g.number_b);
}

pub agree_sound : (counter pages q : ℕ) (a b : List ℕ) → Agree counter a b → Sound counter pages q a → Sound counter pages q b
agree_sound counter pages q a b g h = record {
  numbered = agree_numbered counter a b g h.numbered;
  fits = held_fits counter a b (agree_long counter a b g) g.held pages q (agree_both counter a b g) h.fits;
}

pub rests_on_held : RestsOnHeld
rests_on_held counter pages q a b g =
    let long = agree_long counter a b g in
    let both = agree_both counter a b g in (
      λ h. (agree_sound counter pages q a b g h, held_records counter a b long g.held both h.fits.few),
      λ h. agree_sound counter pages q b a (agree_sym counter a b g (omega (arith, h.fits.few, held_few counter a b long g.held both))) h,
    )
