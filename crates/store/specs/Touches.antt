-- The pages that an edit has touched.
use Rattle.std.specs.Prelude.{◌≡◌, ℕ, ◌≤◌, Bool, true, false, cond, ◌&&◌, List, [], ◌∷◌, ◌++◌, length, take, drop, ◌==◌, nat_lt}

-- the first of some pages is above page p
abbrev pub above : ℕ → List ℕ → Bool
above p [] = true
above p (q ∷ qs) = nat_lt p q

-- pages ascend, and so none is there twice
abbrev pub ascending : List ℕ → Bool
ascending [] = true
ascending (q ∷ qs) = above q qs && ascending qs

-- pages with one more, in its place; one that is there already is not added again
abbrev pub added : ℕ → List ℕ → List ℕ
added p [] = p ∷ []
added p (q ∷ qs) = cond (p == q) (q ∷ qs) (cond (nat_lt p q) (p ∷ q ∷ qs) (q ∷ added p qs))

-- where a page belongs among others, and whether it is there: put there, or left as they are, they are the pages with it;
-- the proof of Touched::add cites it
abbrev pub Belongs : ℕ → List ℕ → ℕ → Bool → Type 0
Belongs p qs at true = qs ≡ added p qs
Belongs p qs at false = (at ≤ length qs) × (take at qs ++ p ∷ drop at qs ≡ added p qs)
