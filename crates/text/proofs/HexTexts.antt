-- The digits of bytes, byte by byte.
use Rattle.std.proofs.Common.{◌≡◌, ℕ, ◌+◌, ◌/◌, ◌%◌, ◌<◌, ◌≤◌, false, eqb, List, [], ◌∷◌, ◌++◌, length, get_or, take, sym, refl, ap, ◌∙◌, true≢false, take_all}
use Rattle.std.proofs.lemmas.List.{take_more}
use Rattle.text.specs.Digits.{hex_digit}
use Rattle.text.specs.Texts.{hex_digits, hex_text}

digits_append : (xs ys : List ℕ) → hex_digits (xs ++ ys) ≡ hex_digits xs ++ hex_digits ys
digits_append [] ys = refl
digits_append (x ∷ xs) ys = ap (λ (l : List ℕ). hex_digit (x / 16) ∷ hex_digit (x % 16) ∷ l) (digits_append xs ys)

-- one byte more
pub digits_more : (bs : List ℕ) (i : ℕ) → i < length bs → hex_digits (take i bs) ++ (hex_digit (get_or bs i 0 / 16) ∷ hex_digit (get_or bs i 0 % 16) ∷ []) ≡ hex_digits (take (i + 1) bs)
digits_more bs i h = sym (digits_append (take i bs) (get_or bs i 0 ∷ [])) ∙ ap hex_digits (sym (take_more bs i 0 h))

some : (bs : List ℕ) → eqb (length bs) 0 ≡ false → hex_digits bs ≡ hex_text bs
some [] e = absurd (true≢false e)
some (b ∷ bs) e = refl

-- all bytes, where there are any
pub digits_all : (bs : List ℕ) (i : ℕ) → false ≡ eqb (length bs) 0 → length bs ≤ i → hex_digits (take i bs) ≡ hex_text bs
digits_all bs i e h = ap hex_digits (take_all i bs h) ∙ some bs (sym e)
