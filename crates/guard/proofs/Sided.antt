-- Which header is valid, which is written over and which was begun, by the two edit numbers.
use Rattle.std.proofs.Common.{◌≡◌, ℕ, ◌+◌, ◌<◌, ◌≤◌, eqb, ltb, leb, ◌⊎◌, List, Some, None, Option, sym, ◌∙◌, subst, inl, inr, ⊎_elim, arith}
use Rattle.std.proofs.lemmas.Bool.{cases_eq, cases_lt, cases_order, cond-false, cond-true, eq-eqb, le-leb, le-ltb, lt-leb, lt-ltb, ne_eqb}
use Rattle.layout.specs.declared.header.Side.{Side}
use Rattle.layout.specs.declared.header.Side.TheVariants.{A, B}
use Rattle.layout.specs.Pages.{number_of, rank, side_of}
use Rattle.layout.specs.Sound.{Numbered}
use Rattle.draft.specs.Drafts.{begun_side, target_by}
use Rattle.guard.specs.Guard.{other}

-- what holds of a side and of the other holds of each
pub each_side : (P : Side → Type 0) (s : Side) → P s → P (other s) → (t : Side) → P t
each_side P A p q A = p
each_side P A p q B = q
each_side P B p q A = q
each_side P B p q B = p

pub other_not : (s : Side) → s ≡ other s → ⊥
other_not A e = let z : ◌≡◌ {A = ℕ} 0 1 = cc in omega arith
other_not B e = let z : ◌≡◌ {A = ℕ} 0 1 = cc in omega arith

-- the valid header is not written over
pub target_not : (o : Option Side) → o ≡ Some (target_by o) → ⊥
target_not None e = let z : ◌≡◌ {A = ℕ} 0 1 = cc in omega arith
target_not (Some A) e = let z : ◌≡◌ {A = ℕ} 0 1 = cc in omega arith
target_not (Some B) e = let z : ◌≡◌ {A = ℕ} 0 1 = cc in omega arith

-- the two edit numbers, side by side
module _ (counter : ℕ) (page : List ℕ) where
  pub numbered_low : Numbered counter page → (s : Side) → number_of page s ≤ counter + 1
  numbered_low n A = n.low_a
  numbered_low n B = n.low_b

  pub numbered_differ : Numbered counter page → (s : Side) → number_of page s ≡ number_of page (other s) → number_of page s ≡ 0
  numbered_differ n A e = n.differ e
  numbered_differ n B e = e ∙ n.differ (sym e)

  pub numbered_from : (s : Side) → number_of page s ≤ counter + 1 → number_of page (other s) ≤ counter + 1
      → (number_of page s ≡ number_of page (other s) → number_of page s ≡ 0) → Numbered counter page
  numbered_from A l m d = record { low_a = l; low_b = m; differ = d }
  numbered_from B l m d = record { low_a = m; low_b = l; differ = λ e. e ∙ d (sym e) }

-- a number that counts ranks as itself, and one above the counter as 0
pub rank_low : (counter n : ℕ) → n ≤ counter → rank counter n ≡ n
rank_low counter n h = cond-true (leb n counter) n 0 (le-leb n counter h)

pub rank_high : (counter n : ℕ) → counter < n → rank counter n ≡ 0
rank_high counter n h = cond-false (leb n counter) n 0 (lt-leb n counter h)

-- the numbers of two sides
module _ (counter : ℕ) (n : Side → ℕ) where
  pub side_first : (s : Side) → rank counter (n (other s)) < rank counter (n s) → side_of counter (n A) (n B) ≡ Some s
  side_first A h = cond-true (ltb (rank counter (n B)) (rank counter (n A))) (Some A) _ (lt-ltb _ _ h)
  side_first B h =
      cond-false (ltb (rank counter (n B)) (rank counter (n A))) (Some A) _ (le-ltb _ _ (omega arith))
      ∙ cond-true (ltb (rank counter (n A)) (rank counter (n B))) (Some B) None (lt-ltb _ _ h)

  pub side_other : (s : Side) → rank counter (n s) < rank counter (n (other s)) → side_of counter (n A) (n B) ≡ Some (other s)
  side_other A h = side_first B h
  side_other B h = side_first A h

  none_at : rank counter (n A) ≡ rank counter (n B) → side_of counter (n A) (n B) ≡ None
  none_at e =
      cond-false (ltb (rank counter (n B)) (rank counter (n A))) (Some A) _ (le-ltb _ _ (omega arith))
      ∙ cond-false (ltb (rank counter (n A)) (rank counter (n B))) (Some B) None (le-ltb _ _ (omega arith))

  pub side_none : (s : Side) → rank counter (n s) ≡ rank counter (n (other s)) → side_of counter (n A) (n B) ≡ None
  side_none A e = none_at e
  side_none B e = none_at (sym e)

  -- the number of the header that is written over does not rank above the other
  pub target_least :
      rank counter (n (target_by (side_of counter (n A) (n B)))) ≤ rank counter (n (other (target_by (side_of counter (n A) (n B)))))
  target_least =
      let P : Option Side → Type 0 = λ o. rank counter (n (target_by o)) ≤ rank counter (n (other (target_by o))) in
      ⊎_elim (λ (e : rank counter (n A) ≡ rank counter (n B)). subst P (sym (none_at e)) (omega arith))
      (⊎_elim (λ (l : rank counter (n A) < rank counter (n B)). subst P (sym (side_first B l)) (omega arith))
      (λ (l : rank counter (n B) < rank counter (n A)). subst P (sym (side_first A l)) (omega arith)))
      (cases_order (rank counter (n A)) (rank counter (n B)))

  -- a header whose number does not rank is not valid
  pub side_not : (s : Side) → rank counter (n s) ≡ 0 → side_of counter (n A) (n B) ≡ Some s → ⊥
  side_not s e is = ⊎_elim
      (λ (l : rank counter (n s) < rank counter (n (other s))). let is' = side_other s l in let e' : s ≡ other s = cc in other_not s e')
      (λ (l : rank counter (n (other s)) ≤ rank counter (n s)). let none = side_none s (omega arith) in let z : ◌≡◌ {A = ℕ} 0 1 = cc in omega arith)
      (cases_lt (rank counter (n s)) (rank counter (n (other s))))

-- the header that was begun has the number after the counter, and no other header has it
module _ (counter : ℕ) (page : List ℕ) where
  pub begun_some : (s : Side) → number_of page s ≡ counter + 1 → (number_of page (other s) ≡ counter + 1 → ⊥) → begun_side counter page ≡ Some s
  begun_some A e never = cond-true (eqb (number_of page A) (counter + 1)) (Some A) _ (eq-eqb _ _ e)
  begun_some B e never =
      cond-false (eqb (number_of page A) (counter + 1)) (Some A) _ (ne_eqb _ _ never)
      ∙ cond-true (eqb (number_of page B) (counter + 1)) (Some B) None (eq-eqb _ _ e)

  pub begun_none : ((s : Side) → number_of page s ≡ counter + 1 → ⊥) → begun_side counter page ≡ None
  begun_none never =
      cond-false (eqb (number_of page A) (counter + 1)) (Some A) _ (ne_eqb _ _ (never A))
      ∙ cond-false (eqb (number_of page B) (counter + 1)) (Some B) None (ne_eqb _ _ (never B))

  begun_cases : ((s : Side) × (number_of page s ≡ counter + 1) × (begun_side counter page ≡ Some s))
      ⊎ (((s : Side) → number_of page s ≡ counter + 1 → ⊥) × (begun_side counter page ≡ None))
  begun_cases = elim (cases_eq (number_of page A) (counter + 1)) [
    | inl e ↦ inl (A, e, cond-true (eqb (number_of page A) (counter + 1)) (Some A) _ (eq-eqb _ _ e))
    | inr never ↦ elim (cases_eq (number_of page B) (counter + 1)) [
      | inl e ↦ inl (B, e, begun_some B e never)
      | inr none ↦ let each = each_side (λ s. number_of page s ≡ counter + 1 → ⊥) A never none in inr (each, begun_none each)
    ]
  ]

  pub begun_number : (s : Side) → begun_side counter page ≡ Some s → number_of page s ≡ counter + 1
  begun_number s e = elim begun_cases [
    | inl (t, n, is) ↦ let same : t ≡ s = cc in subst (λ v. number_of page v ≡ counter + 1) same n
    | inr (never, is) ↦ let z : ◌≡◌ {A = ℕ} 0 1 = cc in absurd (omega arith)
  ]

  pub begun_not : begun_side counter page ≡ None → (s : Side) → number_of page s ≡ counter + 1 → ⊥
  begun_not e = elim begun_cases [
    | inl (t, n, is) ↦ let z : ◌≡◌ {A = ℕ} 0 1 = cc in absurd (omega arith)
    | inr (never, is) ↦ never
  ]
