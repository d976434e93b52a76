-- The ways in which a save and an abandon end.
use Rattle.std.proofs.Common.{ℕ, ◌+◌, ◌<◌, ◌≤◌, Bool, cond, List, length, get_or, take, Ok, Err, sym, subst, inl, inr}
use Rattle.std.proofs.lemmas.List.{take_all, take_more}
use Rattle.medium.specs.Meaning.{Meaning}
use Rattle.store.specs.declared.refusal.Refusal.{Refusal}
use Rattle.store.specs.Clearing.{ClearsPage}
use Rattle.store.specs.Ends.{Commits, CountsOr, SettlesOr}
use Rattle.store.specs.Opening.{Clears}
use Rattle.store.proofs.Sweeps.{clears_push}

-- all came down, and the counter could not be written
pub uncounted : {M : Type 0} (meaning : M → Meaning) (number : ℕ) (a x b : M) (e : Refusal) → SettlesOr (meaning a) (meaning x) (Ok tt)
    → CountsOr number (meaning x) (meaning b) (Err e) → Commits meaning number a b (Err e)
uncounted meaning number a x b e settled denied = inr (inl (x, settled, denied))

-- one page more is cleared
pub each_more : {M : Type 0} (meaning : M → Meaning) (counter i : ℕ) (qs : List ℕ) (a x b : M) (t : Bool) → i < length qs → (n : ℕ) × Clears meaning counter (take i qs) a x n
    → ClearsPage meaning counter (get_or qs i 0) x b (Ok t) → (n : ℕ) × Clears meaning counter (take (i + 1) qs) a b n
each_more meaning counter i qs a x b t l c p =
    (c.0 + cond t 1 0, subst (λ ps. Clears meaning counter ps a b (c.0 + cond t 1 0)) (sym (take_more qs i 0 l)) (clears_push meaning counter (take i qs) (get_or qs i 0) a x b c.0 t c.1 p))

pub each_all : {M : Type 0} (meaning : M → Meaning) (counter i : ℕ) (qs : List ℕ) (a b : M) → length qs ≤ i → (n : ℕ) × Clears meaning counter (take i qs) a b n
    → (n : ℕ) × Clears meaning counter qs a b n
each_all meaning counter i qs a b l c = (c.0, subst (λ ps. Clears meaning counter ps a b c.0) (take_all i qs l) c.1)
