-- Bit maps: how they grow, and what is read back from them.
use Rattle.std.specs.Prelude.{◌≡◌, ℕ, zero, suc, ◌+◌, ◌-◌, ◌*◌, ◌/◌, ◌%◌, ◌^◌, ◌<◌, ◌≤◌, Bool, true, false, List, [], ◌∷◌, length, drop, is_some, Some, None, Option, ◌==◌, nat_eq, slice_index_or, reverse, refl}
use Rattle.std.proofs.Common.{get_or, sym, ap, subst, ◌∙◌, ⊎_elim, arith, pow-suc, mul_assoc, mul_comm, mul-le-mul_right, div-one, mod-lt, lit<}
use Rattle.std.proofs.Math.Nat.{pow-le-pow_right, div-add-mod, div-div-eq-div-mul}
use Rattle.std.proofs.Math.Arith.{digits_div, digits_mod}
use mir.Val.{bool_byte}
use Rattle.std.proofs.lemmas.List.{at_drop_more, get_or-reverse, length-reverse}
use Rattle.std.proofs.lemmas.Bool.{cases_lt}
use Rattle.form.specs.Fields.{bit_map}

pub bit_map_cons : (top : ℕ) (v : Option ℕ) (vs : List (Option ℕ)) → bit_map top (v ∷ vs) ≡ 2 * bit_map top vs + bool_byte (is_some v)
bit_map_cons top None vs = omega arith
bit_map_cons top (Some n) vs = omega arith

-- one number more, from the last to the first
pub bit_map_more : (top : ℕ) (vs : List (Option ℕ)) (bit : ℕ) (d : Option ℕ) → 0 < bit → bit ≤ length vs
    → 2 * bit_map top (drop bit vs) + bool_byte (is_some (slice_index_or vs (bit - 1) d)) ≡ bit_map top (drop (bit - 1) vs)
bit_map_more top vs bit d h k =
    let e : bit - 1 + 1 ≡ bit = omega arith in
    sym (at_drop_more (bit_map top) vs (bit - 1) d (omega arith) ∙ bit_map_cons top (slice_index_or vs (bit - 1) d) (drop (bit - 1 + 1) vs)
    ∙ ap (λ n. 2 * bit_map top (drop n vs) + bool_byte (is_some (slice_index_or vs (bit - 1) d))) e)

rest_le : (top i : ℕ) (vs : List (Option ℕ)) → bit_map top (drop i vs) ≤ bit_map top vs
rest_le top zero vs = omega arith
rest_le top (suc i) [] = omega arith
rest_le top (suc i) (v ∷ vs) = omega (arith, rest_le top i vs, bit_map_cons top v vs)

-- the room of one bit more
double : (p k : ℕ) → p * 2 ^ suc k ≡ 2 * (p * 2 ^ k)
double p k = ap (λ n. p * n) (pow-suc 2 k) ∙ sym (mul_assoc p (2 ^ k) 2) ∙ mul_comm (p * 2 ^ k) 2

pub bit_map_lt : (top : ℕ) (vs : List (Option ℕ)) → bit_map top vs < (top + 1) * 2 ^ length vs
bit_map_lt top [] = omega arith
bit_map_lt top (None ∷ vs) = rw (double (top + 1) (length vs)) (omega (arith, bit_map_lt top vs))
bit_map_lt top (Some n ∷ vs) = rw (double (top + 1) (length vs)) (omega (arith, bit_map_lt top vs))

-- the map of the last numbers fits a byte where the whole does
pub bit_map_fits : (top : ℕ) (vs : List (Option ℕ)) (bit n b : ℕ) (d : Option ℕ) (t : Bool) → (top + 1) * 2 ^ length vs ≤ 256 → 0 < bit → bit ≤ length vs
    → n ≡ bit_map top (drop bit vs) → t ≡ is_some (slice_index_or vs (bit - 1) d) → b ≡ bool_byte t → 2 * n + b < 256
bit_map_fits top vs bit n b d t room h k is p q =
    omega (arith, bit_map_more top vs bit d h k, rest_le top (bit - 1) vs, bit_map_lt top vs, q ∙ ap bool_byte p)

-- one turn of the walk from the last number to the first: the map of the numbers gone through, which fits a byte where the whole does
pub bit_map_turn : (top n : ℕ) (vs : List (Option ℕ)) (k map : ℕ) (v : Option ℕ) → (top + 1) * 2 ^ n ≤ 256 → length vs ≡ n
    → (k < length (reverse vs)) × (v ≡ get_or (reverse vs) k v) → map ≡ bit_map top (drop (length vs - k) vs)
    → (2 * map + bool_byte (is_some v) < 256) × (2 * map + bool_byte (is_some v) ≡ bit_map top (drop (length vs - (k + 1)) vs))
bit_map_turn top n vs k map v room long turn is =
    let h : k < length vs = omega (arith, turn.0, length-reverse vs) in
    let at : ℕ = length vs - 1 - k in
    let next : at + 1 ≡ length vs - k = omega arith in
    let here : at ≡ length vs - (k + 1) = omega arith in
    let value : get_or vs at v ≡ v = sym (get_or-reverse vs k v h) ∙ sym turn.1 in
    let more : 2 * bit_map top (drop (length vs - k) vs) + bool_byte (is_some v) ≡ bit_map top (drop at vs) =
    sym (at_drop_more (bit_map top) vs at v (omega arith) ∙ (λ j. bit_map top (value j ∷ drop (next j) vs)) ∙ bit_map_cons top v (drop (length vs - k) vs)) in
    let whole : bit_map top vs < (top + 1) * 2 ^ n = subst (λ m. bit_map top vs < (top + 1) * 2 ^ m) long (bit_map_lt top vs) in
    (omega (arith, more, rest_le top at vs, whole), ap (λ m. 2 * m + bool_byte (is_some v)) is ∙ more ∙ ap (λ m. bit_map top (drop m vs)) here)

-- a map of one byte has room for eight numbers at most
pub few : (top n : ℕ) → (top + 1) * 2 ^ n ≤ 256 → n ≤ 8
few top n h =
    let p : 1 * 2 ^ n ≤ (top + 1) * 2 ^ n = mul-le-mul_right (2 ^ n) (omega arith) in
    ⊎_elim (λ (l : 8 < n). let q : 2 ^ 9 ≤ 2 ^ n = pow-le-pow_right {n = 2} (lit< tt) l in absurd (omega arith)) (λ (l : n ≤ 8). l) (cases_lt 8 n)

bit_lt : (t : Bool) → bool_byte t < 2
bit_lt true = lit< tt
bit_lt false = lit< tt

bit_is : (t : Bool) → (bool_byte t == 1) ≡ t
bit_is true = refl
bit_is false = refl

as_digits : (top : ℕ) (v : Option ℕ) (vs : List (Option ℕ)) → bit_map top (v ∷ vs) ≡ bit_map top vs * 2 + bool_byte (is_some v)
as_digits top v vs = omega (arith, bit_map_cons top v vs)

-- the lowest bit of a map is the first number's
pub bit_map_bit : (top : ℕ) (v : Option ℕ) (vs : List (Option ℕ)) → (bit_map top (v ∷ vs) % 2 == 1) ≡ is_some v
bit_map_bit top v vs = ap (λ n. nat_eq (n % 2) 1) (as_digits top v vs) ∙ ap (λ n. nat_eq n 1) (digits_mod (bit_map top vs) (bit_lt (is_some v))) ∙ bit_is (is_some v)

-- and the others are the map of the others
pub bit_map_rest : (top : ℕ) (v : Option ℕ) (vs : List (Option ℕ)) → bit_map top (v ∷ vs) / 2 ≡ bit_map top vs
bit_map_rest top v vs = ap (λ n. n / 2) (as_digits top v vs) ∙ digits_div (bit_map top vs) (bit_lt (is_some v))

halves : (m n : ℕ) → m / 2 ^ suc n ≡ m / 2 / 2 ^ n
halves m n = ap (λ k. m / k) (pow-suc 2 n ∙ mul_comm (2 ^ n) 2) ∙ sym (div-div-eq-div-mul m 2 (2 ^ n))

-- above the bits of the numbers stands what names the form
pub bit_map_top : (top : ℕ) (vs : List (Option ℕ)) → bit_map top vs / 2 ^ length vs ≡ top
bit_map_top top [] = div-one top
bit_map_top top (v ∷ vs) = halves (bit_map top (v ∷ vs)) (length vs) ∙ ap (λ n. n / 2 ^ length vs) (bit_map_rest top v vs) ∙ bit_map_top top vs

one_bit : (n : ℕ) → n < 2 → bool_byte (n == 1) ≡ n
one_bit zero h = refl
one_bit (suc zero) h = refl
one_bit (suc (suc n)) h = absurd (omega arith)

-- a map read bit by bit is given back by the numbers
pub bit_map_back : (m n : ℕ) (v : Option ℕ) (vs : List (Option ℕ)) → is_some v ≡ (m % 2 == 1) → bit_map (m / 2 / 2 ^ n) vs ≡ m / 2 → bit_map (m / 2 ^ suc n) (v ∷ vs) ≡ m
bit_map_back m n v vs flag rest =
    ap (λ k. bit_map k (v ∷ vs)) (halves m n) ∙ omega (arith, bit_map_cons (m / 2 / 2 ^ n) v vs, ap bool_byte flag, one_bit (m % 2) (mod-lt m (lit< tt)), div-add-mod m 2)
