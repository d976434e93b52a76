-- A slot in the way of a place.
use Rattle.std.proofs.Common.{◌≡◌, ℕ, ◌+◌, ◌<◌, ◌≤◌, max, true, false, List, length, ap, ◌∙◌, subst, ⊎_elim, arith}
use Rattle.std.specs.List.{list_any}
use Rattle.std.proofs.lemmas.Grind.{common_steps}
use Rattle.std.proofs.lemmas.List.Folds.{Any-from_list_any, list_any_at}
use Rattle.std.proofs.lemmas.List.{get_or_default}
use Rattle.std.proofs.lemmas.Bool.{cases_lt}
use Rattle.layout.specs.declared.header.Slot.{Slot}
use Rattle.layout.specs.Sound.{at}
use Rattle.draft.specs.Places.{Free, Room, in_way}

blocked : (ss : List Slot) (n p i : ℕ) → 0 < n → i < length ss → 0 < (at ss i).length → (at ss i).offset < p + n → p < (at ss i).offset + (at ss i).length → Room ss n p → ⊥
blocked ss n p i m h l a b r = r.2 (max p (at ss i).offset) (omega arith) (omega arith) i h (omega arith, omega arith)

covers : (p n : ℕ) (s : Slot) → in_way p n s ≡ true → (0 < s.length) × (s.offset < p + n) × (p < s.offset + s.length)
covers p n s e = (grind (arith, common_steps), grind (arith, common_steps), grind (arith, common_steps))

covered : (p n k : ℕ) (s : Slot) → p ≤ k → k < p + n → s.offset ≤ k → k < s.offset + s.length → in_way p n s ≡ true
covered p n k s a b c d = grind (arith, common_steps)

-- a place that is taken has no room
pub taken_from : (ss : List Slot) (n p : ℕ) → 0 < n → list_any (in_way p n) ss ≡ true → ((q : ℕ) → p < q → Room ss n q → ⊥) → (q : ℕ) → p ≤ q → Room ss n q → ⊥
taken_from ss n p m t above q le r =
    ⊎_elim (λ lt. above q lt r) (λ ge.
    let e : q ≡ p = omega arith in
    let h = Any-from_list_any (in_way p n) ss t in
    let i : ℕ = h.0 in
    let x : at ss i ≡ h.1 = get_or_default ss i (record { offset = 0; length = 0 }) h.1 h.2 ∙ h.3 in
    let w = covers p n (at ss i) (ap (in_way p n) x ∙ h.4) in
    blocked ss n p i m h.2 w.0 w.1 w.2 (subst (Room ss n) e r)) (cases_lt p q)

-- in a place that is not taken each byte is free
pub free_in : (ss : List Slot) (n p : ℕ) → list_any (in_way p n) ss ≡ false → (k : ℕ) → p ≤ k → k < p + n → Free ss k
free_in ss n p f k a b j l c = let t = list_any_at (in_way p n) ss j (record { offset = 0; length = 0 }) l (covered p n k (at ss j) a b c.0 c.1) in cc
