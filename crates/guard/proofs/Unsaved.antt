-- A page read with a number that was never saved, or without it.
use Rattle.std.proofs.Common.{◌≡◌, ℕ, ◌+◌, ◌<◌, ◌≤◌, ◌⊎◌, List, length, get_or, sym, ap, ◌∙◌, inl, inr, ⊎_elim, arith}
use Rattle.std.proofs.lemmas.Bool.{cases_eq, cases_lt}
use Rattle.layout.specs.declared.header.Side.{Side}
use Rattle.layout.specs.Pages.{number_of, rank, records, start, valid_side}
use Rattle.layout.specs.Sound.{Numbered, Sound}
use Rattle.layout.specs.Held.{Held}
use Rattle.layout.proofs.HeldBytes.{number_same}
use Rattle.layout.proofs.Alike.{alike_records, alike_sound, header_one, held_beside}
use Rattle.guard.specs.Guard.{other}
use Rattle.guard.proofs.Sided.{numbered_differ, numbered_from, numbered_low, other_not, rank_high, rank_low, side_none, side_not, side_other}
use Rattle.guard.proofs.Words.{outside}

-- at most one number of a sound page is above the counter
pub begun_other : (counter pages q : ℕ) (page : List ℕ) → Sound counter pages q page → (s : Side) → number_of page s ≡ counter + 1
    → number_of page (other s) ≤ counter
begun_other counter pages q page sound s begun = ⊎_elim
    (λ (e : number_of page (other s) ≡ counter + 1).
    absurd (omega (arith, numbered_differ counter page sound.numbered s (begun ∙ sym e))))
    (λ (never : number_of page (other s) ≡ counter + 1 → ⊥). omega (arith, numbered_low counter page sound.numbered (other s)))
    (cases_eq (number_of page (other s)) (counter + 1))

-- a page that differs from a sound one at most in an edit number above the counter, and has that number or none, is read alike
module _ (counter pages q : ℕ) (page f : List ℕ) (long : length f ≡ length page) (sound : Sound counter pages q page)
    (s : Side) (begun : number_of page s ≡ counter + 1) (may : (number_of f s ≡ counter + 1) ⊎ (number_of f s ≡ 0))
    (same : (k : ℕ) → (k < start s) ⊎ (start s + 4 ≤ k) → get_or f k 0 ≡ get_or page k 0) where
  pub unsaved_other : number_of f (other s) ≡ number_of page (other s)
  unsaved_other = number_same page f (other s) long (λ k h. same k (outside s k (λ i. other_not s (sym (header_one s (other s) k i h)))))

  may_rank : (n : ℕ) → (n ≡ counter + 1) ⊎ (n ≡ 0) → rank counter n ≡ 0
  may_rank n (inl e) = rank_high counter n (omega arith)
  may_rank n (inr e) = rank_low counter n (omega arith) ∙ e

  unsaved_side : valid_side counter f ≡ valid_side counter page
  unsaved_side =
      let f-s = may_rank (number_of f s) may in
      let page-s = may_rank (number_of page s) (inl begun) in
      let rest : rank counter (number_of f (other s)) ≡ rank counter (number_of page (other s)) = ap (rank counter) unsaved_other in
      ⊎_elim (λ (l : 0 < rank counter (number_of page (other s))).
      side_other counter (number_of f) s (omega arith) ∙ sym (side_other counter (number_of page) s (omega arith)))
      (λ (l : rank counter (number_of page (other s)) ≤ 0).
      side_none counter (number_of f) s (omega arith) ∙ sym (side_none counter (number_of page) s (omega arith)))
      (cases_lt 0 (rank counter (number_of page (other s))))

  unsaved_held : (k : ℕ) → Held counter page k → get_or f k 0 ≡ get_or page k 0
  unsaved_held k h = same k (outside s k
      (held_beside counter pages q page sound s (side_not counter (number_of page) s (may_rank (number_of page s) (inl begun))) k h))

  unsaved_numbered : Numbered counter f
  unsaved_numbered =
      let low = begun_other counter pages q page sound s begun in
      ⊎_elim
      (λ (e : number_of f s ≡ counter + 1). numbered_from counter f s (omega arith) (omega (arith, unsaved_other))
      (λ d. absurd (omega (arith, unsaved_other))))
      (λ (e : number_of f s ≡ 0). numbered_from counter f s (omega arith) (omega (arith, unsaved_other)) (λ d. e))
      may

  pub unsaved_sound : Sound counter pages q f
  unsaved_sound = alike_sound counter pages q page f long unsaved_side unsaved_held sound unsaved_numbered

  pub unsaved_records : records counter f ≡ records counter page
  unsaved_records = alike_records counter pages q page f long unsaved_side unsaved_held sound
