-- Numbers and bytes as words spell them.
use Rattle.std.specs.Prelude.{ℕ, ◌+◌, ◌*◌, ◌^◌, cond, List, [], ◌∷◌, length, Some, None, Option, ◌==◌, nat_le, nat_lt}
use Rattle.script.specs.Digits.{decimal_digit, hex_digit}

-- what comes of a digit, where it is one
abbrev pub on_digit : {X : Type 0} → Option ℕ → (ℕ → Option X) → Option X
on_digit None f = None
on_digit (Some d) f = f d

-- a number, where it is below a limit
abbrev pub below : ℕ → Option ℕ → Option ℕ
below limit None = None
below limit (Some n) = cond (nat_lt n limit) (Some n) None

-- a number with one more digit, where that is one and the number is below a limit
abbrev pub more : ℕ → ℕ → ℕ → Option ℕ → Option ℕ
more base limit n d = below limit (on_digit d (λ v. Some (n * base + v)))

-- the number that digits spell after those that spelled `n`, the most significant first; none where a byte is no digit
abbrev pub spelled : (ℕ → Option ℕ) → ℕ → ℕ → List ℕ → Option ℕ
spelled digit base n [] = Some n
spelled digit base n (b ∷ bs) = on_digit (digit b) (λ d. spelled digit base (n * base + d) bs)

-- a decimal number: digits, one at least, whose value fits 32 bits
abbrev pub number_of : List ℕ → Option ℕ
number_of [] = None
number_of (b ∷ bs) = below (2 ^ 32) (spelled decimal_digit 10 0 (b ∷ bs))

-- a pattern: 1 to 16 hexadecimal digits, whose value so fits 64 bits
abbrev pub pattern_of : List ℕ → Option ℕ
pattern_of [] = None
pattern_of (b ∷ bs) = cond (nat_le (length (b ∷ bs)) 16) (below (2 ^ 64) (spelled hex_digit 16 0 (b ∷ bs))) None

-- the byte of two digits, where both are digits
abbrev pub hex_byte : ℕ → ℕ → Option ℕ
hex_byte high low = on_digit (hex_digit high) (λ h. on_digit (hex_digit low) (λ l. Some (h * 16 + l)))

-- bytes behind a first one, where there are any
abbrev pub behind : ℕ → Option (List ℕ) → Option (List ℕ)
behind b None = None
behind b (Some bs) = Some (b ∷ bs)

-- the bytes that digits spell, two a byte; none where a digit is over, or a byte is no digit
abbrev pub hex_bytes : List ℕ → Option (List ℕ)
hex_bytes [] = Some []
hex_bytes (a ∷ []) = None
hex_bytes (a ∷ b ∷ rest) = on_digit (hex_byte a b) (λ x. behind x (hex_bytes rest))

-- the bytes of a word: two digits for each, or `-` for none; a word of no bytes spells none
abbrev pub hex_of : List ℕ → Option (List ℕ)
hex_of [] = None
hex_of (a ∷ []) = cond (a == 45) (Some []) None
hex_of (a ∷ b ∷ rest) = hex_bytes (a ∷ b ∷ rest)
