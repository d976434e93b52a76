-- Clearing pages one after the other.
use Rattle.std.proofs.Common.{◌≡◌, ℕ, ◌+◌, ◌-◌, ◌<◌, ◌≤◌, Bool, true, false, cond, List, [], ◌∷◌, ◌++◌, length, get_or, take, Ok, Err, sym, refl, ap, ◌∙◌, subst, ⊎_elim, arith}
use mir.Val.{bool_byte}
use Rattle.std.specs.List.{range_with_len}
use Rattle.std.proofs.lemmas.List.{map-id}
use Rattle.std.proofs.lemmas.List.FromFn.{get_or-range_with_len, length-range_with_len, map-range_with_len_more, take-map-range_with_len}
use Rattle.std.proofs.lemmas.Bool.{cases_lt}
use Rattle.medium.specs.Meaning.{Meaning}
use Rattle.store.specs.declared.refusal.Refusal.{Refusal}
use Rattle.store.specs.Clearing.{ClearsPage}
use Rattle.store.specs.Opening.{Clears, ClearsUntil, later_pages}

-- one page more
pub clears_push : {M : Type 0} (meaning : M → Meaning) (counter : ℕ) (qs : List ℕ) (q : ℕ) (a x b : M) (n : ℕ) (t : Bool)
    → Clears meaning counter qs a x n → ClearsPage meaning counter q x b (Ok t) → Clears meaning counter (qs ++ q ∷ []) a b (n + cond t 1 0)
clears_push meaning counter [] q a x b n t c p =
    (b, t, 0, subst (λ y. ClearsPage meaning counter q y b (Ok t)) c.0 p, (refl, refl), omega (arith, c.1))
clears_push meaning counter (r ∷ qs) q a x b n t c p =
    (c.0, c.1, c.2 + cond t 1 0, c.3, clears_push meaning counter qs q c.0 x b c.2 t c.4 p, omega (arith, c.5))

pub later_push : (q : ℕ) → 1 ≤ q → later_pages (q + 1) ≡ later_pages q ++ q ∷ []
later_push q h =
    let e : q + 1 - 1 ≡ q - 1 + 1 = omega arith in
    ap (range_with_len 1) e ∙ sym (map-id (range_with_len 1 (q - 1 + 1))) ∙ map-range_with_len_more (λ k. k) 1 (q - 1) q (omega arith)
    ∙ ap (λ ks. ks ++ q ∷ []) (map-id (range_with_len 1 (q - 1)))

pub later_take : (q pages : ℕ) → q ≤ pages → take (q - 1) (later_pages pages) ≡ later_pages q
later_take q pages h =
    ap (take (q - 1)) (sym (map-id (later_pages pages))) ∙ take-map-range_with_len (λ k. k) 1 (pages - 1) (q - 1) (omega arith) ∙ map-id (later_pages q)

pub later_clears : {M : Type 0} (meaning : M → Meaning) (counter q : ℕ) (a x b : M) (n k : ℕ) (t : Bool) → 1 ≤ q
    → Clears meaning counter (later_pages q) a x n → ClearsPage meaning counter q x b (Ok t) → k ≡ cond t 1 0
    → Clears meaning counter (later_pages (q + 1)) a b (n + k)
later_clears meaning counter q a x b n k t one c p e =
    rw (later_push q one, e) (clears_push meaning counter (later_pages q) q a x b n t c p)

-- the clearing is refused at page q
pub later_until : {M : Type 0} (meaning : M → Meaning) (counter pages q : ℕ) (a x b : M) (n : ℕ) (e : Refusal) → 1 ≤ q → q < pages
    → Clears meaning counter (later_pages q) a x n → ClearsPage meaning counter q x b (Err e) → ClearsUntil meaning counter (later_pages pages) a b e
later_until meaning counter pages q a x b n e one less c p =
    let l : length (later_pages pages) ≡ pages - 1 = length-range_with_len 1 (pages - 1) in
    let at : get_or (later_pages pages) (q - 1) 0 ≡ q = get_or-range_with_len 1 (pages - 1) (q - 1) 0 (omega arith) ∙ omega arith in (
      q - 1,
      omega arith,
      (
        x,
        (n, subst (λ qs. Clears meaning counter qs a x n) (sym (later_take q pages (omega arith))) c),
        subst (λ r. ClearsPage meaning counter r x b (Err e)) (sym at) p,
      ),
    )

-- what holds of each page before page q, and of q, holds of each before the next
pub up_to_more : (P : ℕ → Type 0) (q : ℕ) → ((j : ℕ) → 1 ≤ j → j < q → P j) → P q → (j : ℕ) → 1 ≤ j → j < q + 1 → P j
up_to_more P q below here j one less =
    ⊎_elim (λ (l : j < q). below j one l) (λ (g : q ≤ j). let e : q ≡ j = omega arith in subst P e here) (cases_lt j q)

-- a test as a number
pub bool_number : (t : Bool) → bool_byte t ≡ cond t 1 0
bool_number true = refl
bool_number false = refl

pub bool_le : (t : Bool) → cond t 1 0 ≤ 1
bool_le true = omega arith
bool_le false = omega arith
