-- Numbers, digit by digit.
use Rattle.std.proofs.Common.{◌≡◌, ℕ, ◌+◌, ◌*◌, ◌^◌, ◌<◌, ◌≤◌, false, eqb, List, [], ◌∷◌, length, get_or, drop, Some, None, Option, sym, refl, ap, ◌∙◌, true≢false, arith}
use Rattle.std.proofs.Math.Nat.{le-mul_of_pos_right}
use Rattle.std.proofs.lemmas.Bool.Decides.{nat_tests}
use Rattle.std.proofs.lemmas.List.{at_drop_more}
use Rattle.script.specs.Digits.{decimal_digit, hex_digit, digit_in}
use Rattle.script.specs.Spelled.{on_digit, below, more, spelled, number_of, pattern_of}

-- a number that is too great stays so
over : (limit n : ℕ) → limit ≤ n → below limit (Some n) ≡ None
over limit n h = grind (arith, nat_tests)

-- with each digit the number grows
abbrev pub Grows : ℕ → Type 0
Grows base = (n d : ℕ) → n ≤ n * base + d

grows : (base : ℕ) → 2 ≤ base → Grows base
grows base two n d = omega (arith, le-mul_of_pos_right {m = base} n (omega arith))

too_great : (digit : ℕ → Option ℕ) (base limit n : ℕ) (bs : List ℕ) → Grows base → limit ≤ n → below limit (spelled digit base n bs) ≡ None
too_great digit base limit n [] up h = over limit n h
too_great digit base limit n (b ∷ bs) up h =
    elim (digit b) as (λ o. below limit (on_digit o (λ d. spelled digit base (n * base + d) bs)) ≡ None)
    [ None ↦ refl | Some d ↦ too_great digit base limit (n * base + d) bs up (omega (arith, up n d)) ]

-- a digit that makes the number too great, or is none
no_more : (digit : ℕ → Option ℕ) (base limit n : ℕ) (o : Option ℕ) (bs : List ℕ) → Grows base → None ≡ more base limit n o
    → below limit (on_digit o (λ d. spelled digit base (n * base + d) bs)) ≡ None
no_more digit base limit n None bs up e = refl
no_more digit base limit n (Some d) bs up e = too_great digit base limit (n * base + d) bs up (grind (arith, nat_tests, e))

pub digit_none : (digit : ℕ → Option ℕ) (base limit n : ℕ) (bs : List ℕ) (i : ℕ) → Grows base → i < length bs → None ≡ more base limit n (digit (get_or bs i 0))
    → below limit (spelled digit base n (drop i bs)) ≡ None
digit_none digit base limit n bs i up h e =
    at_drop_more (λ l. below limit (spelled digit base n l)) bs i 0 h ∙ no_more digit base limit n (digit (get_or bs i 0)) (drop (i + 1) bs) up e

pub number_none : (base : ℕ) (bs : List ℕ) (i n : ℕ) → 2 ≤ base → i < length bs → None ≡ more base (2 ^ 64) n (digit_in base (get_or bs i 0))
    → below (2 ^ 64) (spelled (digit_in base) base n (drop i bs)) ≡ below (2 ^ 64) (spelled (digit_in base) base 0 bs)
    → None ≡ below (2 ^ 64) (spelled (digit_in base) base 0 bs)
number_none base bs i n two h e inv = sym (digit_none (digit_in base) base (2 ^ 64) n bs i (grows base two) h e) ∙ inv

-- the digits of base 10 and of base 16
decimal_same : (b : ℕ) → decimal_digit b ≡ digit_in 10 b
decimal_same b = grind (arith, nat_tests)

hex_same : (b : ℕ) → hex_digit b ≡ digit_in 16 b
hex_same b = grind (arith, nat_tests)

narrow_some : (o : Option ℕ) (n : ℕ) → Some n ≡ below (2 ^ 64) o → below (2 ^ 32) o ≡ below (2 ^ 32) (Some n)
narrow_some None n e = absurd (cc)
narrow_some (Some m) n e = let same : n ≡ m = grind (arith, nat_tests, e) in ap (λ k. below (2 ^ 32) (Some k)) (sym same)

decimal : (bs : List ℕ) → false ≡ eqb (length bs) 0 → number_of bs ≡ below (2 ^ 32) (spelled (digit_in 10) 10 0 bs)
decimal [] e = absurd (true≢false (sym e))
decimal (b ∷ bs) e = λ j. below (2 ^ 32) (spelled (λ d. decimal_same d j) 10 0 (b ∷ bs))

pub decimal_some : (bs : List ℕ) (n : ℕ) → false ≡ eqb (length bs) 0 → Some n ≡ below (2 ^ 64) (spelled (digit_in 10) 10 0 bs) → number_of bs ≡ below (2 ^ 32) (Some n)
decimal_some bs n some e = decimal bs some ∙ narrow_some (spelled (digit_in 10) 10 0 bs) n e

pub hexadecimal : (bs : List ℕ) → false ≡ eqb (length bs) 0 → length bs ≤ 16 → below (2 ^ 64) (spelled (digit_in 16) 16 0 bs) ≡ pattern_of bs
hexadecimal [] e h = absurd (true≢false (sym e))
hexadecimal (b ∷ bs) e h =
    let same : below (2 ^ 64) (spelled (digit_in 16) 16 0 (b ∷ bs)) ≡ below (2 ^ 64) (spelled hex_digit 16 0 (b ∷ bs)) = λ j. below (2 ^ 64) (spelled (λ d. sym (hex_same d) j) 16 0 (b ∷ bs)) in
    same ∙ grind (arith, nat_tests, h)
