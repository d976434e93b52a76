-- Two calls after one another on a medium, on every path. a is the medium before, b the one after.
use Rattle.std.specs.Prelude.{◌≡◌, ℕ, ◌⊎◌, List, Ok, Err, Result}
use Rattle.medium.specs.declared.fault.MediumFault.{MediumFault}
use Rattle.medium.specs.Cuts.{CutMedium}
use Rattle.medium.specs.Meaning.{Meaning, Read, Wrote, Settled}

-- a write, and then a settle: both done, or refused in the one or the other
abbrev pub WritesSettled : {M : Type 0} → (M → Meaning) → M → M → ℕ → ℕ → List ℕ → Result (Unit {0}) MediumFault → Type 0
WritesSettled {M} meaning a b p s y (Ok _) = (x : M) × Wrote (meaning a) (meaning x) p s y (Ok tt) × Settled (meaning x) (meaning b) (Ok tt)
WritesSettled {M} meaning a b p s y (Err e) =
    Wrote (meaning a) (meaning b) p s y (Err e)
    ⊎ ((x : M) × Wrote (meaning a) (meaning x) p s y (Ok tt) × Settled (meaning x) (meaning b) (Err e))

-- a settle and then two cuts, with what exactly a cut of this medium does; refused in the settle, nothing is cut
abbrev pub CutsTwice : {M : Type 0} → (M → Meaning) → (M → M → Type 0) → M → M → Result (Unit {0}) MediumFault → Type 0
CutsTwice {M} meaning cuts a b (Ok _) =
    (x : M) × (y : M) × Settled (meaning a) (meaning x) (Ok tt) × CutMedium (meaning x) (meaning y) × cuts x y
    × CutMedium (meaning y) (meaning b) × cuts y b
CutsTwice meaning cuts a b (Err e) = Settled (meaning a) (meaning b) (Err e)

-- a write, and then a read of the run that begins there; refused in the write, nothing is read
abbrev pub ReadsBack : Meaning → Meaning → ℕ → ℕ → List ℕ → List ℕ → List ℕ → Result (Unit {0}) MediumFault → Type 0
ReadsBack m n p s y old new (Ok _) = Wrote m n p s y (Ok tt) × Read n p s old new (Ok tt)
ReadsBack m n p s y old new (Err e) = (Wrote m n p s y (Err e) × (new ≡ old)) ⊎ (Wrote m n p s y (Ok tt) × Read n p s old new (Err e))
