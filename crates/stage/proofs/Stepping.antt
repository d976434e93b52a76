-- Steps by their parts.
use Rattle.std.proofs.Common.{◌≡◌, ℕ, zero, suc, ◌+◌, ◌<◌, ◌≤◌, List, [], ◌∷◌, length, get_or, take, replicate, IfOk, Ok, Err, Option, Result, refl, subst, arith}
use Rattle.std.proofs.lemmas.List.{take_all}
use Rattle.medium.specs.Meaning.{Meaning}
use Rattle.store.specs.declared.slip.Slip.{Slip}
use Rattle.store.specs.declared.store.Store.{Store}
use Rattle.book.specs.Uses.{Moment}
use Rattle.script.specs.declared.script.Step.{Step}
use Rattle.book.specs.declared.slips.Slips.{Slips}
use Rattle.script.specs.declared.script.Use.{Use}
use Rattle.stage.specs.Scripts.{NamedMade, UsesMade, begun}
use Rattle.stage.specs.Steps.{StepMade, StepsMade}

-- what is promised of a success may be said in other words
pub made_map : {X Y : Type 0} (r : Result X Y) (P Q : X → Type 0) → ((x : X) → P x → Q x) → IfOk r P → IfOk r Q
made_map (Ok x) P Q f p = f x p
made_map (Err y) P Q f p = tt

module _ {M : Type 0} (meaning : M → Meaning) where
  longer : (xs : List Step) (i : ℕ) (x : Step) (a b d : Moment M) (s t u : List ℕ) → i < length xs → x ≡ get_or xs i x
      → StepsMade meaning (take i xs) a b s t → StepMade meaning x b d t u → StepsMade meaning (take (suc i) xs) a d s u
  longer [] i x a b d s t u l is done makes = absurd (omega (arith, l))
  longer (y ∷ ys) zero x a b d s t u l is (same, still) makes =
      (d, u, subst (λ z. StepMade meaning z a d s u) is (subst (λ z. StepMade meaning x z d s u) same (subst (λ z. StepMade meaning x b d z u) still makes)), (refl, refl))
  longer (y ∷ ys) (suc i) x a b d s t u l is (c, v, first, rest) makes = (c, v, first, longer ys i x c b d v t u (omega (arith, l)) is rest makes)

  -- one step more
  pub steps_more : (xs : List Step) (i : ℕ) (x : Step) (a b d : Moment M) (s t u : List ℕ) → i < length xs → x ≡ get_or xs i x
      → StepsMade meaning (take i xs) a b s t → StepMade meaning x b d t u → StepsMade meaning (take (i + 1) xs) a d s u
  steps_more xs i x a b d s t u l is done makes =
      let next : suc i ≡ i + 1 = omega arith in
      subst (λ n. StepsMade meaning (take n xs) a d s u) next (longer xs i x a b d s t u l is done makes)

  -- all of them
  pub steps_all : (xs : List Step) (i : ℕ) (a b : Store M) (x x' y : List (Option Slip)) (v w s s' t : List ℕ) → length xs ≤ i → x ≡ x' → v ≡ replicate 1024 0 → s ≡ s'
      → StepsMade meaning (take i xs) (record { store = a; slips = x; work = v }) (record { store = b; slips = y; work = w }) s t
      → StepsMade meaning xs (record { store = a; slips = x'; work = replicate 1024 0 }) (record { store = b; slips = y; work = w }) s' t
  steps_all xs i a b x x' y v w s s' t l d e f p =
      subst (λ z. StepsMade meaning z (record { store = a; slips = x'; work = replicate 1024 0 }) (record { store = b; slips = y; work = w }) s' t) (take_all i xs l)
      (subst (λ z. StepsMade meaning (take i xs) (record { store = a; slips = z; work = replicate 1024 0 }) (record { store = b; slips = y; work = w }) s' t) d
      (subst (λ z. StepsMade meaning (take i xs) (record { store = a; slips = x; work = z }) (record { store = b; slips = y; work = w }) s' t) e
      (subst (λ z. StepsMade meaning (take i xs) (record { store = a; slips = x; work = v }) (record { store = b; slips = y; work = w }) z t) f p)))

longest : (us : List Use) (i : ℕ) (u : Use) (x y z : Slips) (s t r b w : List ℕ) → i < length us → u ≡ get_or us i u → w ≡ begun u b
    → UsesMade (take i us) x y s t → NamedMade u.named u.steps.items y z t r w → UsesMade (take (suc i) us) x z s r
longest [] i u x y z s t r b w l is e done made = absurd (omega (arith, l))
longest (v ∷ vs) zero u x y z s t r b w l is e (same, still) made = (
  z,
  r,
  b,
  subst (λ k. NamedMade k.named k.steps.items x z s r (begun k b)) is
      (subst (λ k. NamedMade u.named u.steps.items x z s r k) e
      (subst (λ k. NamedMade u.named u.steps.items k z s r w) same (subst (λ k. NamedMade u.named u.steps.items y z k r w) still made))),
  (refl, refl),
)
longest (v ∷ vs) (suc i) u x y z s t r b w l is e (c, q, d, first, rest) made = (c, q, d, first, longest vs i u c y z q t r b w (omega (arith, l)) is e rest made)

-- one use more
pub uses_more : (us : List Use) (i : ℕ) (u : Use) (x y z : Slips) (s t r b w : List ℕ) → i < length us → u ≡ get_or us i u → w ≡ begun u b
    → UsesMade (take i us) x y s t → NamedMade u.named u.steps.items y z t r w → UsesMade (take (i + 1) us) x z s r
uses_more us i u x y z s t r b w l is e done made =
    let next : suc i ≡ i + 1 = omega arith in
    subst (λ n. UsesMade (take n us) x z s r) next (longest us i u x y z s t r b w l is e done made)

-- all of them
pub uses_all : (us : List Use) (i : ℕ) (x y : Slips) (s t : List ℕ) → length us ≤ i → UsesMade (take i us) x y s t → UsesMade us x y s t
uses_all us i x y s t l p = subst (λ z. UsesMade z x y s t) (take_all i us l) p
