-- Numbers as bytes, most significant byte first.
use Rattle.std.specs.Prelude.{ℕ, zero, suc, ◌/◌, ◌%◌, List, [], ◌∷◌, ◌++◌}
use Rattle.std.specs.Int.Digits.{number_from_digits}
use Rattle.octets.specs.declared.Width.{Width}
use Rattle.octets.specs.declared.Width.TheVariants.{One, Two, Four}

-- how many bytes a number of this width takes
abbrev pub size : Width → ℕ
size One = 1
size Two = 2
size Four = 4

-- the number that bytes spell: each byte is a digit in base 256, the first the most significant
abbrev pub big : List ℕ → ℕ
big bytes = number_from_digits 256 bytes

-- the bytes that spell a number, so many of them
abbrev pub spell : ℕ → ℕ → List ℕ
spell zero n = []
spell (suc k) n = spell k (n / 256) ++ (n % 256 ∷ [])
