-- A walk over fields and their values, one step on and at its end.
use Rattle.std.specs.Prelude.{◌≡◌, ℕ, ◌+◌, ◌/◌, ◌%◌, ◌^◌, ◌<◌, ◌≤◌, Bool, true, false, cond, not, zip, List, [], ◌∷◌, ◌++◌, length, take, drop, Some, None, Ok, Err, Option, Result, ◌==◌, slice_index, slice_index_or, slice_set, refl}
use Rattle.std.proofs.Common.{get_or, sym, ap, ◌∙◌, append_assoc, append-nil, arith, length-append}
use Rattle.std.proofs.lemmas.List.{drop_more, drop_all, take_all, take_more_set, at_drop_more}
use Rattle.std.specs.List.{position_from}
use Rattle.std.proofs.lemmas.Bool.{cond-true, eq-eqb}
use Rattle.octets.specs.Parts.{patched}
use Rattle.octets.specs.Numbers.{size}
use Rattle.octets.proofs.Numbers.{length_spell, size_le}
use Rattle.form.specs.declared.field.Field.{Field}
use Rattle.form.specs.Fields.{fits, lowest_bad, field_bytes, fields_bytes, field_read, after, fields_read, decoded}
use Rattle.octets.proofs.Puts.{patched_none, patched_more}

-- what two lists have at place i
abbrev pub At : {X Y : Type 0} → List X → List Y → ℕ → X → Y → Type 0
At {X} {Y} xs ys i x y = (i < length xs) × (i < length ys) × ((d : X) → x ≡ get_or xs i d) × ((d : Y) → y ≡ get_or ys i d)

-- a function of what is left of two lists, one step on
pub at_drops_more : {X Y Z : Type 0} (F : List X → List Y → Z) (xs : List X) (ys : List Y) (i : ℕ) (x : X) (y : Y) → At xs ys i x y
    → F (drop i xs) (drop i ys) ≡ F (x ∷ drop (i + 1) xs) (y ∷ drop (i + 1) ys)
at_drops_more F xs ys i x y here =
    (λ j. F (drop_more xs i x here.0 j) (drop_more ys i y here.1 j)) ∙ sym (λ j. F (here.2 x j ∷ drop (i + 1) xs) (here.3 y j ∷ drop (i + 1) ys))

-- likewise, by the items themselves, of lists that are as long as one another
pub at_drops_here : {X Y Z : Type 0} (F : List X → List Y → Z) (xs : List X) (ys : List Y) (i : ℕ) (d : X) (e : Y)
    → length xs ≡ length ys → i < length ys → F (drop i xs) (drop i ys) ≡ F (slice_index_or xs i d ∷ drop (i + 1) xs) (slice_index_or ys i e ∷ drop (i + 1) ys)
at_drops_here F xs ys i d e same h = λ j. F (drop_more xs i d (omega arith) j) (drop_more ys i e h j)

-- and at their end
pub at_drops_all : {X Y Z : Type 0} (F : List X → List Y → Z) (xs : List X) (ys : List Y) (i : ℕ)
    → length xs ≤ i → length ys ≤ i → F (drop i xs) (drop i ys) ≡ F [] []
at_drops_all F xs ys i h k = λ j. F (drop_all i xs h j) (drop_all i ys k j)

-- the first number out of its range, found in the list of fields with their numbers
pub lowest_from : (i : ℕ) (fs : List Field) (vs : List (Option ℕ)) → lowest_bad i fs vs ≡ position_from (λ p. not (fits p.0 p.1)) i (zip fs vs)
lowest_from i [] vs = refl
lowest_from i (f ∷ fs) [] = refl
lowest_from i (f ∷ fs) (v ∷ vs) = elim (fits f v) as (λ t. cond t (lowest_bad (i + 1) fs vs) (Some i) ≡ cond (not t) (Some i) (position_from (λ p. not (fits p.0 p.1)) (i + 1) (zip fs vs))) [
  | true ↦ lowest_from (i + 1) fs vs
  | false ↦ refl
]

lowest : (i : ℕ) (f : Field) (fs : List Field) (v : Option ℕ) (vs : List (Option ℕ)) (t : Bool) → t ≡ fits f v
    → lowest_bad i (f ∷ fs) (v ∷ vs) ≡ cond t (lowest_bad (i + 1) fs vs) (Some i)
lowest i f fs v vs t e = ap (λ b. cond b (lowest_bad (i + 1) fs vs) (Some i)) (sym e)

-- a number in its range is passed
pub lowest_passed : (fs : List Field) (vs : List (Option ℕ)) (i : ℕ) (d : Field) (e : Option ℕ) → length fs ≡ length vs → i < length vs
    → true ≡ fits (slice_index_or fs i d) (slice_index_or vs i e) → lowest_bad i (drop i fs) (drop i vs) ≡ lowest_bad (i + 1) (drop (i + 1) fs) (drop (i + 1) vs)
lowest_passed fs vs i d e same h fit = at_drops_here (lowest_bad i) fs vs i d e same h ∙ lowest i (slice_index_or fs i d) (drop (i + 1) fs) (slice_index_or vs i e) (drop (i + 1) vs) true fit

-- and one out of it is found
pub lowest_found : (fs : List Field) (vs : List (Option ℕ)) (i : ℕ) (d : Field) (e : Option ℕ) → length fs ≡ length vs → i < length vs
    → false ≡ fits (slice_index_or fs i d) (slice_index_or vs i e) → lowest_bad i (drop i fs) (drop i vs) ≡ Some i
lowest_found fs vs i d e same h fit = at_drops_here (lowest_bad i) fs vs i d e same h ∙ lowest i (slice_index_or fs i d) (drop (i + 1) fs) (slice_index_or vs i e) (drop (i + 1) vs) false fit

-- a field takes four bytes at most
pub field_le : (f : Field) (v : Option ℕ) → length (field_bytes f v) ≤ 4
field_le f None = omega arith
field_le f (Some n) = omega (arith, length_spell (size f.width) n, size_le f.width)

-- a field put: what is left to put gives what was left before
pub put_more : (fs : List Field) (vs : List (Option ℕ)) (i at end : ℕ) (xs ys : List ℕ) (f : Field) (v : Option ℕ) → At fs vs i f v → at + 4 ≤ length xs
    → end ≡ at + length (field_bytes f v) → ys ≡ patched xs at (field_bytes f v)
    → (end ≤ at + 4) × (end + length (fields_bytes (drop (i + 1) fs) (drop (i + 1) vs)) ≡ at + length (fields_bytes (drop i fs) (drop i vs)))
    × (patched ys end (fields_bytes (drop (i + 1) fs) (drop (i + 1) vs)) ≡ patched xs at (fields_bytes (drop i fs) (drop i vs)))
put_more fs vs i at end xs ys f v here room p q =
    let a : List ℕ = field_bytes f v in
    let b : List ℕ = fields_bytes (drop (i + 1) fs) (drop (i + 1) vs) in
    let left : fields_bytes (drop i fs) (drop i vs) ≡ a ++ b = at_drops_more fields_bytes fs vs i f v here in
    let few : length a ≤ 4 = field_le f v in
    (omega arith, omega (arith, ap length left, length-append a b), (λ j. patched (q j) (p j) b) ∙ patched_more xs a b at (omega arith) ∙ ap (patched xs at) (sym left))

-- every field put
pub put_all : (fs : List Field) (vs : List (Option ℕ)) (i at n : ℕ) (xs zs : List ℕ) → length fs ≤ i → length vs ≤ i
    → at + length (fields_bytes (drop i fs) (drop i vs)) ≡ n → patched xs at (fields_bytes (drop i fs) (drop i vs)) ≡ zs → (at ≡ n) × (xs ≡ zs)
put_all fs vs i at n xs zs h k p q =
    let none : fields_bytes (drop i fs) (drop i vs) ≡ [] = at_drops_all fields_bytes fs vs i h k in
    (omega (arith, ap length none), patched_none xs at ∙ ap (patched xs at) (sym none) ∙ q)

-- the fields from byte `at` on, behind those read before them
abbrev pub resumed : List ℕ → List Field → ℕ → ℕ → List (Option ℕ) → Result (List (Option ℕ)) ℕ
resumed b fs left at before = after (fields_read b fs left at) (λ vs. Ok (before ++ vs))

moved : (before : List (Option ℕ)) (v : Option ℕ) (r : Result (List (Option ℕ)) ℕ)
    → after (after r (λ vs. Ok (v ∷ vs))) (λ vs. Ok (before ++ vs)) ≡ after r (λ vs. Ok ((before ++ v ∷ []) ++ vs))
moved before v (Ok vs) = ap Ok (sym (append_assoc before (v ∷ []) vs))
moved before v (Err e) = refl

-- the fields left, by what the first of them gives
step : List ℕ → List Field → ℕ → List (Option ℕ) → Result (Option ℕ × ℕ) ℕ → Result (List (Option ℕ)) ℕ
step b fs left before r = after (after r (λ x. after (fields_read b fs (left / 2) x.1) (λ vs. Ok (x.0 ∷ vs)))) (λ vs. Ok (before ++ vs))

step_is : (b : List ℕ) (fs : List Field) (i left at : ℕ) (d : Field) (before : List (Option ℕ)) (r : Result (Option ℕ × ℕ) ℕ) → i < length fs
    → field_read b (slice_index_or fs i d) (left % 2 == 1) at ≡ r → resumed b (drop i fs) left at before ≡ step b (drop (i + 1) fs) left before r
unfolding step
step_is b fs i left at d before r h e = at_drop_more (λ gs. resumed b gs left at before) fs i d h ∙ ap (step b (drop (i + 1) fs) left before) e

-- a field read: what is left to read gives what was left before
pub read_more : (b : List ℕ) (fs : List Field) (i left at : ℕ) (d : Field) (vs : List (Option ℕ)) (x : Option ℕ × ℕ) → length fs ≡ length vs → i < length fs
    → field_read b (slice_index_or fs i d) (left % 2 == 1) at ≡ Ok x
    → resumed b (drop i fs) left at (take i vs) ≡ resumed b (drop (i + 1) fs) (left / 2) x.1 (take (i + 1) (slice_set vs i x.0))
unfolding step
read_more b fs i left at d vs x same h e =
    step_is b fs i left at d (take i vs) (Ok x) h e ∙ moved (take i vs) x.0 (fields_read b (drop (i + 1) fs) (left / 2) x.1)
    ∙ ap (resumed b (drop (i + 1) fs) (left / 2) x.1) (sym (take_more_set vs i x.0 (omega arith)))

-- a field refused
pub read_bad : (b : List ℕ) (fs : List Field) (i left at : ℕ) (d : Field) (before : List (Option ℕ)) (k : ℕ) → i < length fs
    → field_read b (slice_index_or fs i d) (left % 2 == 1) at ≡ Err k → resumed b (drop i fs) left at before ≡ Err k
unfolding step
read_bad b fs i left at d before k h e = step_is b fs i left at d before (Err k) h e

same_after : {A : Type 0} (r : Result A ℕ) → after r Ok ≡ r
same_after (Ok x) = refl
same_after (Err e) = refl

-- nothing read before
pub read_none : (top : ℕ) (fs : List Field) (b : List ℕ) → 0 < length b → slice_index b 0 / 2 ^ length fs ≡ top → resumed b fs (slice_index b 0) 1 [] ≡ decoded top fs b
read_none top fs [] h e = absurd (omega arith)
read_none top fs (m ∷ rest) h e = same_after (fields_read (m ∷ rest) fs m 1) ∙ sym (cond-true (m / 2 ^ length fs == top) _ _ (eq-eqb _ _ e))

ended : (vs : List (Option ℕ)) (t : Bool) (at : ℕ) → after (cond t (Ok []) (Err at)) (λ ws. Ok (vs ++ ws)) ≡ cond t (Ok vs) (Err at)
ended vs true at = ap Ok (append-nil vs)
ended vs false at = refl

-- every field read
pub read_all : (b : List ℕ) (fs : List Field) (i left at : ℕ) (vs : List (Option ℕ)) (t : Bool) → length fs ≡ length vs → length fs ≤ i → t ≡ (at == length b)
    → resumed b (drop i fs) left at (take i vs) ≡ cond t (Ok vs) (Err at)
read_all b fs i left at vs t same h e =
    (λ j. resumed b (drop_all i fs h j) left at (take_all i vs (omega arith) j)) ∙ ended vs (at == length b) at ∙ ap (λ u. cond u (Ok vs) (Err at)) (sym e)
