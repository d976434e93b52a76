-- Tests over numbers below a bound.
use Rattle.std.proofs.Common.{◌≡◌, ℕ, ◌<◌, Bool, true, false, Decides, MatchBool, length, refl, sym, ◌∙◌, subst, zero-add, arith}
use Rattle.std.specs.List.{range_with_len, AllWithin, HoldsAt}
use Rattle.std.proofs.lemmas.Bool.{false≢true}
use Rattle.std.proofs.lemmas.List.FromFn.{length-range_with_len, get_or-range_with_len}

-- `all` over the numbers below n answers whether P holds of each
pub all_below : (P : ℕ → Type 0) (n : ℕ) (r : Bool)
    → MatchBool r (AllWithin P (range_with_len 0 n) 0 (length (range_with_len 0 n))) ((k : ℕ) × (k < length (range_with_len 0 n)) × HoldsAt (λ j. P j → ⊥) (range_with_len 0 n) k)
    → Decides r ((j : ℕ) → j < n → P j)
all_below P n true h = (
  λ e j l. subst P (get_or-range_with_len 0 n j 0 l ∙ zero-add j) (h j 0 (omega arith) (omega (arith, length-range_with_len 0 n))),
  λ each. refl,
)
all_below P n false (k, l, never) = (
  λ e. absurd (false≢true e),
  λ each. let within : k < n = omega (arith, length-range_with_len 0 n) in
      absurd (never 0 (subst P (sym (get_or-range_with_len 0 n k 0 within ∙ zero-add k)) (each k within))),
)

-- a test that fails where the fact cannot hold
pub fails : {P : Type 0} → (r : Bool) → r ≡ false → (P → ⊥) → Decides r P
fails r e never = (λ t. absurd (false≢true (sym e ∙ t)), λ p. absurd (never p))

-- a test of one fact tests what holds exactly where it does
pub decides_same : {P Q : Type 0} (r : Bool) → Decides r P → (P → Q) → (Q → P) → Decides r Q
decides_same r d there back = (λ e. there (d.0 e), λ q. d.1 (back q))
