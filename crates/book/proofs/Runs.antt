-- Runs that no medium refuses as bad.
use Rattle.std.proofs.Common.{◌≡◌, ℕ, ◌<◌, true, false, refl}
use Rattle.std.proofs.lemmas.Bool.{and_from, both_ways, lt-ltb}
use Rattle.medium.specs.Meaning.{good}
use Rattle.layout.specs.declared.header.Side.{Side}
use Rattle.layout.specs.declared.header.Side.TheVariants.{A, B}
use Rattle.layout.specs.Pages.{start}

-- the run of an edit number of a page that is there is good
pub number_good : (pages q : ℕ) (s : Side) → q < pages → good pages q (start s) 4 ≡ true
number_good pages q A h = and_from _ _ (lt-ltb q pages h) refl
number_good pages q B h = and_from _ _ (lt-ltb q pages h) refl

pub number_bad : (pages q : ℕ) (s : Side) → q < pages → good pages q (start s) 4 ≡ false → ⊥
number_bad pages q s h bad = both_ways _ bad (number_good pages q s h)
