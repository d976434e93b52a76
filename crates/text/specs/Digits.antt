-- Hexadecimal digits.
use Rattle.std.specs.Prelude.{ℕ, ◌+◌, cond, nat_lt}

-- the character of a digit below 16: 0 to 9, then a to f
abbrev pub hex_digit : ℕ → ℕ
hex_digit n = cond (nat_lt n 10) (48 + n) (87 + n)
