-- Which of a page's headers is valid rests on the two edit numbers alone.
use Rattle.std.proofs.Common.{◌≡◌, ℕ, ◌⊎◌, List, Some, None, Option, refl, ap, inl, inr}
use Rattle.std.specs.Option.{option_map}
use Rattle.layout.specs.declared.header.Side.{Side}
use Rattle.layout.specs.declared.header.Side.TheVariants.{A, B}
use Rattle.layout.specs.Pages.{number_of, header_of, side_of, valid, valid_side}

-- neither of two pages has a valid header, or both have it on one side
abbrev pub Both : ℕ → List ℕ → List ℕ → Type 0
Both counter a b =
    ((valid counter a ≡ None) × (valid counter b ≡ None))
    ⊎ ((s : Side) × (valid counter a ≡ Some (header_of a s)) × (valid counter b ≡ Some (header_of b s)))

both_at : (counter : ℕ) (a b : List ℕ) (o : Option Side) → valid counter a ≡ option_map (header_of a) o → valid counter b ≡ option_map (header_of b) o → Both counter a b
both_at counter a b None p q = inl (p, q)
both_at counter a b (Some s) p q = inr (s, p, q)

pub both_from_side : (counter : ℕ) (a b : List ℕ) → valid_side counter b ≡ valid_side counter a → Both counter a b
both_from_side counter a b e = both_at counter a b (valid_side counter a) refl (ap (option_map (header_of b)) e)

pub both_from_numbers : (counter : ℕ) (a b : List ℕ) → number_of b A ≡ number_of a A → number_of b B ≡ number_of a B → Both counter a b
both_from_numbers counter a b p q = both_from_side counter a b (λ i. side_of counter (p i) (q i))
