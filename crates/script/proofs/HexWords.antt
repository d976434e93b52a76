-- Bytes, two digits at a time.
use Rattle.std.proofs.Common.{◌≡◌, ℕ, zero, suc, ◌+◌, ◌*◌, ◌/◌, ◌%◌, ◌<◌, ◌≤◌, true, false, eqb, List, [], ◌∷◌, ◌++◌, length, get_or, drop, is_err, Ok, Err, Result, Some, None, Option, sym, refl, ap, ◌∙◌, true≢false, arith}
use Rattle.std.proofs.lemmas.List.{at_drop_more, drop_all, append-nil}
use Rattle.std.proofs.lemmas.Bool.Decides.{nat_tests}
use Rattle.std.specs.Simd.{first_chunks}
use Rattle.script.specs.declared.fault.Fault.{Fault}
use Rattle.script.specs.declared.fault.Fault.TheVariants.{Bad, Memory}
use Rattle.script.specs.Faults.{Read}
use Rattle.script.specs.Spelled.{on_digit, hex_byte, behind, hex_bytes}

-- bytes before others, where those are any
abbrev pub prefixed : List ℕ → Option (List ℕ) → Option (List ℕ)
prefixed acc None = None
prefixed acc (Some bs) = Some (acc ++ bs)

-- the bytes of pairs of digits
abbrev pub of_pairs : List (List ℕ) → Option (List ℕ)
of_pairs [] = Some []
of_pairs (p ∷ ps) = on_digit (hex_byte (get_or p 0 0) (get_or p 1 0)) (λ x. behind x (of_pairs ps))

paired : (k : ℕ) (w : List ℕ) → length w ≡ 2 * k → hex_bytes w ≡ of_pairs (first_chunks 2 k w)
paired zero [] e = refl
paired zero (a ∷ w) e = absurd (omega (arith, e))
paired (suc k) [] e = absurd (omega (arith, e))
paired (suc k) (a ∷ []) e = absurd (omega (arith, e))
paired (suc k) (a ∷ b ∷ w) e = ap (λ o. on_digit (hex_byte a b) (λ x. behind x o)) (paired k w (omega (arith, e)))

over : (o : Option ℕ) (p : Option (List ℕ)) → p ≡ None → on_digit o (λ x. behind x p) ≡ None
over None p e = refl
over (Some x) p e = ap (behind x) e

alone : (w : List ℕ) → (length w % 2 ≡ 0 → ⊥) → hex_bytes w ≡ None
alone [] h = absurd (h refl)
alone (a ∷ []) h = refl
alone (a ∷ b ∷ rest) h = over (hex_byte a b) (hex_bytes rest) (alone rest (λ e. h (omega (arith, e))))

-- where the grammar is not met
pub refused : {X : Type 0} (r : Result X Fault) (P : X → Type 0) (Q : Type 0) → is_err r ≡ true → Q → Read r P Q
refused (Ok x) P Q e q = absurd (true≢false (sym e))
refused (Err Bad) P Q e q = q
refused (Err (Memory error)) P Q e q = tt

-- a digit is over, or none is
pub odd : (w : List ℕ) (n : ℕ) → n ≡ length w % 2 → false ≡ eqb n 0 → hex_bytes w ≡ None
odd w n e h = alone w (λ z. grind (arith, nat_tests, e, h, z))

even : (w : List ℕ) (ps : List (List ℕ)) (n : ℕ) → ps ≡ first_chunks 2 (length w / 2) w → n ≡ length w % 2 → true ≡ eqb n 0 → of_pairs ps ≡ hex_bytes w
even w ps n f e h = let z : n ≡ 0 = grind (arith, nat_tests, h) in ap of_pairs f ∙ sym (paired (length w / 2) w (omega (arith, e, z)))

-- bytes from the pairs gone through, and what is left of them
next_pair : (ps : List (List ℕ)) (i : ℕ) (p : List ℕ) (o : Option ℕ) → i < length ps → p ≡ get_or ps i p → o ≡ hex_byte (get_or p 0 0) (get_or p 1 0)
    → of_pairs (drop i ps) ≡ on_digit o (λ x. behind x (of_pairs (drop (i + 1) ps)))
next_pair ps i p o l is e =
    at_drop_more of_pairs ps i p l
    ∙ ap (λ q. on_digit (hex_byte (get_or q 0 0) (get_or q 1 0)) (λ x. behind x (of_pairs (drop (i + 1) ps)))) (sym is)
    ∙ ap (λ q. on_digit q (λ x. behind x (of_pairs (drop (i + 1) ps)))) (sym e)

pub pair_none : (w : List ℕ) (ps : List (List ℕ)) (acc : List ℕ) (n i : ℕ) (p : List ℕ) → ps ≡ first_chunks 2 (length w / 2) w → n ≡ length w % 2 → true ≡ eqb n 0
    → i < length ps → p ≡ get_or ps i p → None ≡ hex_byte (get_or p 0 0) (get_or p 1 0)
    → prefixed acc (of_pairs (drop i ps)) ≡ of_pairs ps → hex_bytes w ≡ None
pair_none w ps acc n i p f m h l is e inv = sym (even w ps n f m h) ∙ sym inv ∙ ap (prefixed acc) (next_pair ps i p None l is e)

pub pairs_all : (w : List ℕ) (ps : List (List ℕ)) (acc : List ℕ) (n i : ℕ) → ps ≡ first_chunks 2 (length w / 2) w → n ≡ length w % 2 → true ≡ eqb n 0
    → length ps ≤ i → prefixed acc (of_pairs (drop i ps)) ≡ of_pairs ps → hex_bytes w ≡ Some acc
pairs_all w ps acc n i f m h l inv = sym (even w ps n f m h) ∙ sym inv ∙ ap (λ q. prefixed acc (of_pairs q)) (drop_all i ps l) ∙ ap Some (append-nil acc)
