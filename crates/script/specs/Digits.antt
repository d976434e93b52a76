-- Digits.
use Rattle.std.specs.Prelude.{ℕ, ◌+◌, ◌-◌, cond, Some, None, Option, nat_le, nat_lt}
use Rattle.std.specs.Char.{digit_value}

-- the value of a byte from `low` to `high`, where `low` has the value `least`; else another answer
abbrev pub within : ℕ → ℕ → ℕ → ℕ → Option ℕ → Option ℕ
within low high least b other = cond (nat_le low b) (cond (nat_le b high) (Some (b - low + least)) other) other

-- the value of a decimal digit, 0 to 9
abbrev pub decimal_digit : ℕ → Option ℕ
decimal_digit b = within 48 57 0 b None

-- the value of a hexadecimal digit: 0 to 9, a to f or A to F
abbrev pub hex_digit : ℕ → Option ℕ
hex_digit b = within 48 57 0 b (within 97 102 10 b (within 65 70 10 b None))

-- the value of a digit of a base up to 36, a letter in either case
abbrev pub digit_in : ℕ → ℕ → Option ℕ
digit_in base b = cond (nat_lt (digit_value b) base) (Some (digit_value b)) None
