-- A text cut where a byte first stands.
use Rattle.std.proofs.Common.{◌≡◌, ℕ, suc, ◌+◌, ◌-◌, ◌<◌, true, false, not, cond, eqb, ltb, List, [], ◌∷◌, length, take, drop, position, Some, None, IfSome, refl, arith}
use Rattle.std.proofs.lemmas.Bool.Decides.{nat_tests}
use Rattle.std.proofs.lemmas.Grind.{common_steps}
use Rattle.std.proofs.lemmas.List.{take_rest}
use Rattle.std.proofs.lemmas.Option.{IfSome_then}
use Rattle.std.specs.List.{position_or_len}
use Rattle.script.specs.Parting.{up_to, after, or_nothing, after_line, after_word, words_left}

up_to_first : (mark : ℕ) (bs : List ℕ) → up_to mark bs ≡ take (position_or_len (λ b. eqb b mark) bs) bs
up_to_first mark [] = refl
up_to_first mark (b ∷ bs) =
    let e = up_to_first mark bs in
    elim (eqb b mark) as (λ v. cond v [] (b ∷ up_to mark bs) ≡ take (cond (not v) (1 + position_or_len (λ x. eqb x mark) bs) 0) (b ∷ bs))
    [ true ↦ refl | false ↦ grind (arith, common_steps) ]

after_first : (mark : ℕ) (bs : List ℕ)
    → after mark bs ≡ cond (ltb (position_or_len (λ b. eqb b mark) bs) (length bs)) (Some (drop (position_or_len (λ b. eqb b mark) bs + 1) bs)) None
after_first mark [] = refl
after_first mark (b ∷ bs) =
    let e = after_first mark bs in
    let P : ℕ = position_or_len (λ x. eqb x mark) bs in
    elim (eqb b mark) as (λ v. cond v (Some bs) (after mark bs) ≡ cond (ltb (cond (not v) (1 + P) 0) (suc (length bs))) (Some (drop (cond (not v) (1 + P) 0 + 1) (b ∷ bs))) None)
    [ true ↦ grind (arith, common_steps, nat_tests) | false ↦ grind (arith, common_steps, nat_tests) ]

-- where the byte was found, or where it was not
pub found_front : (mark k : ℕ) (bs : List ℕ) → position (λ b. eqb b mark) bs ≡ Some k → take k bs ≡ up_to mark bs
found_front mark k bs e = let p = up_to_first mark bs in grind (arith, common_steps, nat_tests)

pub found_back : (mark k : ℕ) (bs : List ℕ) → position (λ b. eqb b mark) bs ≡ Some k → Some (take (length bs - (k + 1)) (drop (k + 1) bs)) ≡ after mark bs
found_back mark k bs e = let p = after_first mark bs in rw take_rest (grind (arith, common_steps, nat_tests))

pub missed_front : (mark : ℕ) (bs : List ℕ) → position (λ b. eqb b mark) bs ≡ None → bs ≡ up_to mark bs
missed_front mark bs e = let p = up_to_first mark bs in grind (arith, common_steps, nat_tests)

pub missed_back : (mark : ℕ) (bs : List ℕ) → position (λ b. eqb b mark) bs ≡ None → None ≡ after mark bs
missed_back mark bs e = let p = after_first mark bs in grind (arith, common_steps, nat_tests)

-- what comes after a line or a word is shorter
after_less : (mark : ℕ) (bs : List ℕ) → IfSome (after mark bs) (λ left. length left < length bs)
after_less mark [] = tt
after_less mark (b ∷ bs) =
    let less = after_less mark bs in
    elim (eqb b mark) as (λ v. IfSome (cond v (Some bs) (after mark bs)) (λ left. length left < suc (length bs)))
    [ true ↦ omega arith | false ↦ IfSome_then (after mark bs) less (λ left h. omega arith) ]

pub line_less : (bs : List ℕ) → false ≡ eqb (length bs) 0 → length (after_line bs) < length bs
line_less bs h =
    let some : 0 < length bs = grind (arith, nat_tests, h) in
    elim (after 10 bs) as (λ o. IfSome o (λ left. length left < length bs) → length (or_nothing o) < length bs)
    [ None ↦ (λ _. some) | Some left ↦ (λ l. l) ] (after_less 10 bs)

pub word_less : (left : List ℕ) → words_left (after_word (Some left)) < words_left (Some left)
word_less left =
    elim (after 32 left) as (λ o. IfSome o (λ rest. length rest < length left) → words_left o < words_left (Some left))
    [ None ↦ (λ _. omega arith) | Some rest ↦ (λ l. omega arith) ] (after_less 32 left)
