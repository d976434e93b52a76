-- Least numbers, and the ways in which a next key is found.
use Rattle.std.proofs.Common.{◌≡◌, ℕ, ◌+◌, ◌-◌, ◌<◌, ◌≤◌, min, cond, eqb, leb, ◌⊎◌, List, [], ◌∷◌, ◌++◌, map, length, Some, None, Ok, Err, Option, Result, sym, refl, ap, ◌∙◌, subst, inl, inr, ⊎_elim, arith}
use Rattle.std.specs.List.{filter, fold, reduce}
use Rattle.std.specs.Option.{ok_or, option_to_list}
use Rattle.std.proofs.lemmas.Bool.{cases_eq, cases_lt, cond-true, cond-false, eq-eqb, ne_eqb, le-leb, lt-leb}
use Rattle.medium.specs.Meaning.{Meaning}
use Rattle.layout.specs.declared.first.FirstPage.{FirstPage}
use Rattle.layout.specs.Pages.{Entry, records}
use Rattle.layout.specs.Walks.{keyed}
use Rattle.store.specs.declared.refusal.Refusal.{Refusal}
use Rattle.store.specs.declared.refusal.Refusal.TheVariants.{NoSuchKey}
use Rattle.store.specs.declared.state.State.{State}
use Rattle.store.specs.Access.{Grants}
use Rattle.store.specs.Looks.{Readable, saved_on}
use Rattle.store.specs.Nexts.{Least, Nexts, Offered, SavedKey, Sweeps}

-- the least of one set is that of another with the same members
least_same : (P Q : ℕ → Type 0) (r : Option ℕ) → ((k : ℕ) → P k → Q k) → ((k : ℕ) → Q k → P k) → Least P r → Least Q r
least_same P Q None to from h = λ k q. h k (from k q)
least_same P Q (Some key) to from h = (to key h.0, λ k q. h.1 k (from k q))

-- the least of one set and of the least of another is the least of both
least_both : (P Q : ℕ → Type 0) (a r : Option ℕ) → Least P a → Least (λ k. (a ≡ Some k) ⊎ Q k) r → Least (λ k. P k ⊎ Q k) r
least_both P Q None None h j = λ k. ⊎_elim (λ p. h k p) (λ q. j k (inr q))
least_both P Q (Some x) None h j = λ k. ⊎_elim (λ p. j x (inl refl)) (λ q. j k (inr q))
least_both P Q None (Some key) h j = (
  ⊎_elim (λ (e : None ≡ Some key). let z : ◌≡◌ {A = ℕ} 0 1 = cc in absurd (omega arith)) (λ q. inr q) j.0,
  λ k. ⊎_elim (λ p. absurd (h k p)) (λ q. j.1 k (inr q)),
)
least_both P Q (Some x) (Some key) h j = (
  ⊎_elim (λ (e : Some x ≡ Some key). let is : x ≡ key = cc in inl (subst P is h.0)) (λ q. inr q) j.0,
  λ k. ⊎_elim (λ p. let l = h.1 k p in let m = j.1 x (inl refl) in omega arith) (λ q. j.1 k (inr q)),
)

-- the first record has the key
key_first : (k : ℕ) (e : Entry) (es : List Entry) → k ≡ e.key → keyed k (e ∷ es) ≡ None → ⊥
key_first k e es is none =
    let p : Some e ≡ keyed k (e ∷ es) = sym (cond-true (eqb e.key k) (Some e) (keyed k es) (eq-eqb e.key k (sym is))) in
    let z : ◌≡◌ {A = ℕ} 0 1 = cc in omega arith

-- the first record has another
key_later : (k : ℕ) (e : Entry) (es : List Entry) → (k ≡ e.key → ⊥) → keyed k (e ∷ es) ≡ keyed k es
key_later k e es not = cond-false (eqb e.key k) (Some e) (keyed k es) (ne_eqb e.key k (λ is. not (sym is)))

-- one of some numbers
abbrev Among : List ℕ → ℕ → Type 0
Among [] k = ⊥
Among (x ∷ xs) k = (k ≡ x) ⊎ Among xs k

least_fold : (xs : List ℕ) (x : ℕ) → Least (Among (x ∷ xs)) (Some (fold min x xs))
least_fold [] x = (inl refl, λ k. ⊎_elim (λ e. omega arith) (λ none. absurd none))
least_fold (y ∷ ys) x =
    let h = least_fold ys (min x y) in
    let l = h.1 (min x y) (inl refl) in (
      ⊎_elim (λ (e : fold min (min x y) ys ≡ min x y). ⊎_elim (λ (below : x < y). inl (omega arith)) (λ (above : y ≤ x). inr (inl (omega arith))) (cases_lt x y))
          (λ i. inr (inr i)) h.0,
      λ k. ⊎_elim (λ e. omega arith) (⊎_elim (λ e. omega arith) (λ i. h.1 k (inr i))),
    )

-- the least of some numbers
least_of : (xs : List ℕ) → Least (Among xs) (reduce min xs)
least_of [] = λ k none. none
least_of (x ∷ xs) = least_fold xs x

-- the keys of some records that are not below a given one, and the best so far
module _ (least : ℕ) (best : Option ℕ) where
  abbrev keys : List Entry → List ℕ
  keys es = filter (leb least) (map (λ e. e.key) es) ++ option_to_list best

  best_to : (o : Option ℕ) (k : ℕ) → Among (option_to_list o) k → o ≡ Some k
  best_to None k none = absurd none
  best_to (Some x) k (inl e) = ap Some (sym e)
  best_to (Some x) k (inr none) = absurd none

  best_from : (o : Option ℕ) (k : ℕ) → o ≡ Some k → Among (option_to_list o) k
  best_from None k e = let z : ◌≡◌ {A = ℕ} 0 1 = cc in absurd (omega arith)
  best_from (Some x) k e = inl (let is : x ≡ k = cc in sym is)

  -- what is offered of the records after one, with that one
  later : (e : Entry) (es : List Entry) (k : ℕ) → Offered least best es k → Offered least best (e ∷ es) k
  later e es k (inl b) = inl b
  later e es k (inr t) =
      inr (⊎_elim (λ same. key_first k e es same) (λ not none. t.0 (sym (key_later k e es not) ∙ none)) (cases_eq k e.key), t.1)

  first : (e : Entry) (es : List Entry) (k : ℕ) → Offered least best (e ∷ es) k → ((k ≡ e.key) × (least ≤ k)) ⊎ Offered least best es k
  first e es k (inl b) = inr (inl b)
  first e es k (inr t) = ⊎_elim (λ same. inl (same, t.1)) (λ not. inr (inr ((λ none. t.0 (key_later k e es not ∙ none)), t.1))) (cases_eq k e.key)

  low : (e : Entry) (es : List Entry) → e.key < least → keys (e ∷ es) ≡ keys es
  low e es l =
      ap (λ ks. ks ++ option_to_list best)
      (cond-false (leb least e.key) (e.key ∷ filter (leb least) (map (λ e. e.key) es)) (filter (leb least) (map (λ e. e.key) es)) (lt-leb least e.key l))

  high : (e : Entry) (es : List Entry) → least ≤ e.key → keys (e ∷ es) ≡ e.key ∷ keys es
  high e es h =
      ap (λ ks. ks ++ option_to_list best)
      (cond-true (leb least e.key) (e.key ∷ filter (leb least) (map (λ e. e.key) es)) (filter (leb least) (map (λ e. e.key) es)) (le-leb least e.key h))

  to : (es : List Entry) (k : ℕ) → Among (keys es) k → Offered least best es k
  to [] k i = inl (best_to best k i)
  to (e ∷ es) k i =
      ⊎_elim (λ l. later e es k (to es k (subst (λ ks. Among ks k) (low e es l) i)))
      (λ h. ⊎_elim (λ same. inr (key_first k e es same, omega arith)) (λ j. later e es k (to es k j)) (subst (λ ks. Among ks k) (high e es h) i))
      (cases_lt e.key least)

  from : (es : List Entry) (k : ℕ) → Offered least best es k → Among (keys es) k
  from [] k (inl b) = best_from best k b
  from [] k (inr t) = absurd (t.0 refl)
  from (e ∷ es) k o =
      ⊎_elim (λ l. subst (λ ks. Among ks k) (sym (low e es l)) (⊎_elim (λ s. absurd (omega (arith, s.0, s.1))) (from es k) (first e es k o)))
      (λ h. subst (λ ks. Among ks k) (sym (high e es h)) (⊎_elim (λ s. inl s.0) (λ p. inr (from es k p)) (first e es k o)))
      (cases_lt e.key least)

  pub nearest_is : (es : List Entry) (r : Option ℕ) → r ≡ reduce min (filter (leb least) (map (λ e. e.key) es) ++ option_to_list best) → Least (Offered least best es) r
  nearest_is es r e =
      subst (Least (Offered least best es)) (sym e)
      (least_same (Among (keys es)) (Offered least best es) (reduce min (keys es)) (to es) (from es) (least_of (keys es)))

-- a key that is not below a given one is saved on a page before page q
abbrev pub Passed : Meaning → FirstPage → ℕ → ℕ → ℕ → Type 0
Passed m first least q k = ((j : ℕ) × (1 ≤ j) × (j < q) × (saved_on first k (m.shown j) ≡ None → ⊥)) × (least ≤ k)

-- past the first of these pages the work page is not the caller's any more
past_first : (work page : List ℕ) (q : ℕ) → 2 ≤ q → cond (eqb q 1) work page ≡ page
past_first work page q more = cond-false (eqb q 1) work page (ne_eqb q 1 (λ same. omega arith))

pub work_more : (m : Meaning) (work new : List ℕ) (q : ℕ) → 1 ≤ q → new ≡ m.shown q → new ≡ cond (eqb (q + 1) 1) work (m.shown (q + 1 - 1))
work_more m work new q one is =
    let e : q ≡ q + 1 - 1 = omega arith in
    is ∙ ap m.shown e ∙ sym (past_first work (m.shown (q + 1 - 1)) (q + 1) (omega arith))

-- one page more
pub page_more : (m : Meaning) (first : FirstPage) (least q : ℕ) (best r : Option ℕ) (new : List ℕ) → 1 ≤ q → new ≡ m.shown q
    → Least (Passed m first least q) best → Least (Offered least best (records first.counter new)) r → Least (Passed m first least (q + 1)) r
page_more m first least q best r new one is h j =
    least_same (λ k. Passed m first least q k ⊎ On k) (Passed m first least (q + 1)) r to from
    (least_both (Passed m first least q) On best r h (subst (λ page. Least (Offered least best (records first.counter page)) r) is j))
  where
    On : ℕ → Type 0
    On k = (saved_on first k (m.shown q) ≡ None → ⊥) × (least ≤ k)

    to : (k : ℕ) → Passed m first least q k ⊎ On k → Passed m first least (q + 1) k
    to k (inl p) = ((p.0.0, p.0.1, omega arith, p.0.3), p.1)
    to k (inr t) = ((q, one, omega arith, t.0), t.1)

    from : (k : ℕ) → Passed m first least (q + 1) k → Passed m first least q k ⊎ On k
    from k p =
        ⊎_elim (λ (l : p.0.0 < q). inl ((p.0.0, p.0.1, l, p.0.3), p.1))
        (λ (g : q ≤ p.0.0). let same : p.0.0 ≡ q = omega arith in inr (subst (λ i. saved_on first k (m.shown i) ≡ None → ⊥) same p.0.3, p.1)) (cases_lt p.0.0 q)

-- every page was read
pub sweep_all : (m : Meaning) (first : FirstPage) (least : ℕ) (work new : List ℕ) (q : ℕ) (best : Option ℕ) → q ≡ first.pages
    → ((j : ℕ) → 1 ≤ j → j < q → Grants m j) → new ≡ cond (eqb q 1) work (m.shown (q - 1)) → Least (Passed m first least q) best → Sweeps m first least work new (Ok best)
sweep_all m first least work new q best is granted last found = (
  ((λ j one less. granted j one (omega arith)), last ∙ past_first work (m.shown (q - 1)) q (omega (arith, first.least)) ∙ ap (λ n. m.shown (n - 1)) is),
  subst (λ n. Least (Passed m first least n) best) is found,
)

module _ (m : Meaning) (s : State) (least : ℕ) (work new : List ℕ) (first : FirstPage) (ready : Readable s (length work) (Ok first)) where
  pub next_found : (best : Option ℕ) (key : ℕ) → Sweeps m first least work new (Ok best) → best ≡ Some key → Nexts m s least work new (Ok key)
  next_found best key h is =
      let found = subst (Least (λ k. SavedKey m first k × (least ≤ k))) is h.1 in
      (first, ready, h.0, found.0.0, found.0.1, (λ k saved high. found.1 k (saved, high)))

  pub next_none : (best : Option ℕ) → Sweeps m first least work new (Ok best) → best ≡ None → Nexts m s least work new (Err NoSuchKey)
  next_none best h is =
      let none = subst (Least (λ k. SavedKey m first k × (least ≤ k))) is h.1 in
      inr (first, ready, inr (refl, h.0, (λ k saved high. none k (saved, high))))

  pub next_by : (best : Option ℕ) (r : Result ℕ Refusal) → Sweeps m first least work new (Ok best) → r ≡ ok_or best NoSuchKey → Nexts m s least work new r
  next_by (Some key) r h e = subst (Nexts m s least work new) (sym e) (next_found (Some key) key h refl)
  next_by None r h e = subst (Nexts m s least work new) (sym e) (next_none None h refl)
