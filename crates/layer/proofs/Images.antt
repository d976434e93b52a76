-- Images that are held: where one is found, and what is found with one more or one less.
use Rattle.std.proofs.Common.{◌≡◌, ℕ, zero, suc, ◌<◌, true, cond, eqb, List, [], ◌∷◌, ◌++◌, length, get_or, set, take, drop, length-set, Some, None, MatchOption, Option, sym, refl, ap, ◌∙◌, arith}
use Rattle.std.specs.List.{AllWithin, HoldsAt, refill}
use Rattle.std.proofs.Math.Seq.{take-append_seam}
use Rattle.std.proofs.lemmas.Bool.{cond-true, cond-false, eq-eqb, ne_eqb}
use Rattle.std.proofs.lemmas.Bool.Decides.{nat_tests}
use Rattle.layer.specs.Distinct.{look, distinct}
use Rattle.layer.specs.Holds.{Placed, put}
use Rattle.layer.specs.declared.held.Held.{Held}

-- no image up to place i is of page p
abbrev pub Before : List Held → ℕ → ℕ → Type 0
Before hs p i = (k : ℕ) (d : Held) → k < i → (get_or hs k d).page ≡ p → ⊥

later : (h : Held) (hs : List Held) (p i : ℕ) → Before (h ∷ hs) p (suc i) → Before hs p i
later h hs p i before k d l = before (suc k) d (omega arith)

placed_none : (hs : List Held) (p : ℕ) → Before hs p (length hs) → Placed hs p None
placed_none [] p before = refl
placed_none (h ∷ hs) p before =
    cond-false (eqb h.page p) (Some h.image) (look hs p) (ne_eqb h.page p (before 0 h (omega arith)))
    ∙ placed_none hs p (later h hs p (length hs) before)

placed_some : (hs : List Held) (p i : ℕ) → Before hs p i → i < length hs → ((d : Held) → (get_or hs i d).page ≡ p) → Placed hs p (Some i)
placed_some [] p i before l at = absurd (omega arith)
placed_some (h ∷ hs) p zero before l at = (
  l,
  (λ d. (at d, cond-true (eqb h.page p) (Some h.image) (look hs p) (eq-eqb h.page p (at h)))),
  λ x e. sym (cond-true (eqb h.page x.page) (x ∷ hs) (h ∷ put hs x) (eq-eqb h.page x.page (at h ∙ sym e))),
)
placed_some (h ∷ hs) p (suc i) before l at =
    let ne : h.page ≡ p → ⊥ = before 0 h (omega arith) in
    let rest = placed_some hs p i (later h hs p i before) (omega arith) at in (
      l,
      (λ d. (at d, cond-false (eqb h.page p) (Some h.image) (look hs p) (ne_eqb h.page p ne) ∙ (rest.1 d).1)),
      λ x e. ap (λ xs. h ∷ xs) (rest.2 x e)
          ∙ sym (cond-false (eqb h.page x.page) (x ∷ hs) (h ∷ put hs x) (ne_eqb h.page x.page (λ is. ne (is ∙ e)))),
    )

-- the first image of a page, where there is one
pub placed_first : (hs : List Held) (p : ℕ) (r : Option ℕ)
    → MatchOption r (AllWithin (λ h. h.page ≡ p → ⊥) hs 0 (length hs)) (λ i. (i < length hs) × HoldsAt (λ h. h.page ≡ p) hs i × AllWithin (λ h. h.page ≡ p → ⊥) hs 0 i)
    → Placed hs p r
placed_first hs p None none = placed_none hs p (λ k d. none k d (omega arith))
placed_first hs p (Some i) (l, here, before) = placed_some hs p i (λ k d. before k d (omega arith)) l here

-- an image of a page that is not held is put last
pub put_last : (hs : List Held) (x : Held) → look hs x.page ≡ None → put hs x ≡ hs ++ x ∷ []
put_last [] x e = refl
put_last (h ∷ hs) x e = grind (arith, nat_tests, put_last hs x)

-- what is found once an image is put
pub look_put : (hs : List Held) (x : Held) (q : ℕ) → look (put hs x) q ≡ cond (eqb x.page q) (Some x.image) (look hs q)
look_put [] x q = refl
look_put (h ∷ hs) x q = grind (arith, nat_tests, look_put hs x q)

-- a page held once is held once still
pub distinct_put : (hs : List Held) (x : Held) → distinct hs ≡ true → distinct (put hs x) ≡ true
distinct_put [] x e = refl
distinct_put (h ∷ hs) x e = grind (arith, nat_tests, look_put hs x, distinct_put hs x)

-- what is not held is not held without the image held longest
pub look_rest : (h : Held) (hs : List Held) (p : ℕ) → look (h ∷ hs) p ≡ None → look hs p ≡ None
look_rest h hs p e = grind (arith, nat_tests)

pub distinct_last : (hs gs : List Held) (x : Held) → gs ≡ hs ++ x ∷ [] → distinct hs ≡ true → look hs x.page ≡ None → distinct gs ≡ true
distinct_last hs gs x is e new = ap distinct (is ∙ sym (put_last hs x new)) ∙ distinct_put hs x e

pub distinct_set : (hs : List Held) (p i : ℕ) (x old : Held) → Placed hs p (Some i) → old ≡ get_or hs i old → x.page ≡ old.page → distinct hs ≡ true → distinct (set hs i x) ≡ true
distinct_set hs p i x old at is e once = ap distinct (at.2 x (e ∙ ap (λ h. h.page) is ∙ (at.1 old).0)) ∙ distinct_put hs x once

-- an image put over another by a write of the whole list
pub put_over : (hs ks : List Held) (i : ℕ) (x : Held) → ks ≡ hs → refill (length hs) hs (set ks i x) ≡ set hs i x
put_over hs ks i x e =
    ap (λ l. refill (length hs) hs (set l i x)) e
    ∙ ap (λ n. take n (set hs i x ++ drop (length (set hs i x)) hs)) (sym (length-set hs i x))
    ∙ take-append_seam (set hs i x) (drop (length (set hs i x)) hs)
