-- A run, one call longer.
use Rattle.std.proofs.Common.{◌≡◌, ℕ, zero, suc, ◌+◌, ◌<◌, List, [], ◌∷◌, ◌++◌, length, get_or, take, Result, refl, arith}
use Rattle.medium.specs.Meaning.{Meaning}
use Rattle.form.specs.declared.form.BadByte.{BadByte}
use Rattle.book.specs.declared.call.Call.{Call}
use Rattle.book.specs.Uses.{Answer, Makes, Moment, Ran}

module _ {M F K : Type 0} (meaning : M → Meaning) (bytes : F → List ℕ) (reads : K → List ℕ → Result F BadByte) where
  -- the next call of a list is made
  pub ran_more : (cs : List (Call F K)) (i : ℕ) (c : Call F K) (rs : List (Answer F)) (r : Answer F) (a b d : Moment M) → i < length cs → c ≡ get_or cs i c
      → Ran meaning bytes reads (take i cs) rs a b → Makes meaning bytes reads c r b d → Ran meaning bytes reads (take (i + 1) cs) (rs ++ r ∷ []) a d
  ran_more [] i c rs r a b d l is ran makes = absurd (omega (arith, l))
  ran_more (x ∷ xs) zero c [] r a b d l is ran makes = (d, rw (← is, ← ran) makes, refl)
  ran_more (x ∷ xs) zero c (s ∷ rs) r a b d l is ran makes = absurd ran
  ran_more (x ∷ xs) (suc i) c [] r a b d l is ran makes = absurd ran
  ran_more (x ∷ xs) (suc i) c (s ∷ rs) r a b d l is (y, first, rest) makes =
      let more : suc i + 1 ≡ suc (i + 1) = omega arith in
      rw more (y, first, ran_more xs i c rs r y b d (omega (arith, l)) is rest makes)
