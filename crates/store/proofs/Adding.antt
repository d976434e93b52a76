-- Adding a page to ascending pages.
use Rattle.std.proofs.Common.{◌≡◌, ℕ, zero, suc, ◌+◌, ◌<◌, ◌≤◌, Bool, true, false, Ok, Err, ⊎_elim, subst, add-one, cond, eqb, ltb, List, [], ◌∷◌, ◌++◌, length, get_or, take, drop, sym, refl, ap, ◌∙◌, arith}
use Rattle.std.proofs.lemmas.List.{drop_more, drop_all, take_more, take-append-drop, append_assoc}
use Rattle.std.proofs.lemmas.Bool.{cases_lt, ltb-true, and_parts, and_from, cond-true, cond-false, eq-eqb, ne_eqb, lt-ltb, le-ltb}
use Rattle.std.proofs.lemmas.Bool.Decides.{nat_tests}
use Rattle.std.specs.List.Sorted.{IsBinarySearchResult}
use Rattle.std.specs.Ordering.{nat_cmp}
use Rattle.std.proofs.lemmas.List.Sorted.{searched}
use Rattle.store.specs.Touches.{Belongs, above, ascending, added}

-- a page that is passed over stays in front
pub added_passed : (p i : ℕ) (qs : List ℕ) → i < length qs → get_or qs i 0 < p → added p qs ≡ take i qs ++ added p (drop i qs)
    → added p qs ≡ take (i + 1) qs ++ added p (drop (i + 1) qs)
added_passed p i qs l less e =
    let q = get_or qs i 0 in
    let at : added p (drop i qs) ≡ q ∷ added p (drop (i + 1) qs) =
    ap (added p) (drop_more qs i 0 l) ∙ cond-false (eqb p q) (q ∷ drop (i + 1) qs) (cond (ltb p q) (p ∷ q ∷ drop (i + 1) qs) (q ∷ added p (drop (i + 1) qs))) (ne_eqb p q (λ s. omega arith))
    ∙ cond-false (ltb p q) (p ∷ q ∷ drop (i + 1) qs) (q ∷ added p (drop (i + 1) qs)) (le-ltb p q (omega arith)) in
    e ∙ ap (λ xs. take i qs ++ xs) at ∙ sym (append_assoc (take i qs) (q ∷ []) (added p (drop (i + 1) qs))) ∙ ap (λ xs. xs ++ added p (drop (i + 1) qs)) (sym (take_more qs i 0 l))

-- the page is there already
pub added_there : (p i : ℕ) (qs : List ℕ) → i < length qs → get_or qs i 0 ≡ p → added p qs ≡ take i qs ++ added p (drop i qs) → qs ≡ added p qs
added_there p i qs l is e =
    let q = get_or qs i 0 in
    let at : added p (drop i qs) ≡ drop i qs =
    ap (added p) (drop_more qs i 0 l) ∙ cond-true (eqb p q) (q ∷ drop (i + 1) qs) (cond (ltb p q) (p ∷ q ∷ drop (i + 1) qs) (q ∷ added p (drop (i + 1) qs))) (eq-eqb p q (sym is))
    ∙ sym (drop_more qs i 0 l) in
    sym (e ∙ ap (λ xs. take i qs ++ xs) at ∙ take-append-drop i qs)

-- the page goes before one that is greater
pub added_before : (p i : ℕ) (qs : List ℕ) → i < length qs → p < get_or qs i 0 → added p qs ≡ take i qs ++ added p (drop i qs) → take i qs ++ p ∷ drop i qs ≡ added p qs
added_before p i qs l less e =
    let q = get_or qs i 0 in
    let at : added p (drop i qs) ≡ p ∷ drop i qs =
    ap (added p) (drop_more qs i 0 l) ∙ cond-false (eqb p q) (q ∷ drop (i + 1) qs) (cond (ltb p q) (p ∷ q ∷ drop (i + 1) qs) (q ∷ added p (drop (i + 1) qs))) (ne_eqb p q (λ s. omega arith))
    ∙ cond-true (ltb p q) (p ∷ q ∷ drop (i + 1) qs) (q ∷ added p (drop (i + 1) qs)) (lt-ltb p q less) ∙ ap (λ xs. p ∷ xs) (sym (drop_more qs i 0 l)) in
    sym (e ∙ ap (λ xs. take i qs ++ xs) at)

-- or at the end
pub added_last : (p i : ℕ) (qs : List ℕ) → length qs ≤ i → added p qs ≡ take i qs ++ added p (drop i qs) → take i qs ++ p ∷ drop i qs ≡ added p qs
added_last p i qs l e =
    let z = drop_all i qs l in
    ap (λ xs. take i qs ++ p ∷ xs) z ∙ ap (λ xs. take i qs ++ added p xs) (sym z) ∙ sym e

above_added : (p q : ℕ) (qs : List ℕ) → q < p → above q qs ≡ true → above q (added p qs) ≡ true
above_added p q [] h e = lt-ltb q p h
above_added p q (r ∷ qs) h e =
    go (eqb p r) (ltb p r)
  where
    go : (x y : Bool) → above q (cond x (r ∷ qs) (cond y (p ∷ r ∷ qs) (r ∷ added p qs))) ≡ true
    go true y = e
    go false true = lt-ltb q p h
    go false false = e

pub ascending_added : (p : ℕ) (qs : List ℕ) → ascending qs ≡ true → ascending (added p qs) ≡ true
ascending_added p [] e = refl
ascending_added p (q ∷ qs) e = grind (arith, nat_tests, and_parts, and_from, above_added p q qs, ascending_added p qs)

-- each page is above the ones before it
rises : (q : ℕ) (qs : List ℕ) → above q qs ≡ true → ascending qs ≡ true → (j : ℕ) → j < length qs → q < get_or qs j 0
rises q [] a e j l = absurd (omega arith)
rises q (r ∷ rs) a e zero l = ltb-true q r a
rises q (r ∷ rs) a e (suc j) l =
    let h = and_parts (above r rs) (ascending rs) e in omega (arith, ltb-true q r a, rises r rs h.0 h.1 j (omega arith))

ascends_at : (qs : List ℕ) → ascending qs ≡ true → (i j : ℕ) → i ≤ j → j < length qs → get_or qs i 0 ≤ get_or qs j 0
ascends_at [] e i j le l = absurd (omega arith)
ascends_at (q ∷ qs) e zero zero le l = omega arith
ascends_at (q ∷ qs) e zero (suc j) le l = let h = and_parts (above q qs) (ascending qs) e in omega (arith, rises q qs h.0 h.1 j (omega arith))
ascends_at (q ∷ qs) e (suc i) zero le l = absurd (omega arith)
ascends_at (q ∷ qs) e (suc i) (suc j) le l = ascends_at qs (and_parts (above q qs) (ascending qs) e).1 i j (omega arith) (omega arith)

ascends_below : (qs : List ℕ) → ascending qs ≡ true → (i j : ℕ) → i < j → j < length qs → get_or qs i 0 < get_or qs j 0
ascends_below [] e i j le l = absurd (omega arith)
ascends_below (q ∷ qs) e i zero le l = absurd (omega arith)
ascends_below (q ∷ qs) e zero (suc j) le l = let h = and_parts (above q qs) (ascending qs) e in rises q qs h.0 h.1 j (omega arith)
ascends_below (q ∷ qs) e (suc i) (suc j) le l = ascends_below qs (and_parts (above q qs) (ascending qs) e).1 i j (omega arith) (omega arith)

-- all pages in front are passed over
passed : (p i : ℕ) (qs : List ℕ) → i ≤ length qs → ((j : ℕ) → j < i → get_or qs j 0 < p) → added p qs ≡ take i qs ++ added p (drop i qs)
passed p zero qs l lower = refl
passed p (suc i) qs l lower =
    subst (λ k. added p qs ≡ take k qs ++ added p (drop k qs)) (add-one i)
    (added_passed p i qs (omega arith) (lower i (omega arith)) (passed p i qs (omega arith) (λ j m. lower j (omega arith))))

-- what a search finds: the page is there, or it is put in its place
pub found_there : (p i : ℕ) (qs : List ℕ) → ascending qs ≡ true → IsBinarySearchResult (λ y. nat_cmp y p) qs (Ok i) → Belongs p qs i true
found_there p i qs e s =
    let h = searched qs p (Ok i) s (ascends_at qs e) in
    added_there p i qs h.0 h.1 (passed p i qs (omega (arith, h.0)) (λ j m. omega (arith, ascends_below qs e j i m h.0, h.1)))

pub found_place : (p i : ℕ) (qs : List ℕ) → ascending qs ≡ true → IsBinarySearchResult (λ y. nat_cmp y p) qs (Err i) → Belongs p qs i false
found_place p i qs e s =
    let h = searched qs p (Err i) s (ascends_at qs e) in
    let front = passed p i qs h.0 h.1 in
    (h.0, ⊎_elim (λ (l : i < length qs). added_before p i qs l (h.2 i (omega arith) l) front) (λ (l : length qs ≤ i). added_last p i qs l front) (cases_lt i (length qs)))

-- at most one page more
pub length_added : (p : ℕ) (qs : List ℕ) → length (added p qs) ≤ length qs + 1
length_added p [] = omega arith
length_added p (q ∷ qs) = go (length_added p qs) (eqb p q) (ltb p q)
  where
    go : length (added p qs) ≤ length qs + 1 → (x y : Bool) → length (cond x (q ∷ qs) (cond y (p ∷ q ∷ qs) (q ∷ added p qs))) ≤ length (q ∷ qs) + 1
    go h true y = omega arith
    go h false true = omega arith
    go h false false = omega arith
