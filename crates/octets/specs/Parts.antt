-- Parts of a run of bytes.
use Rattle.std.specs.Prelude.{ℕ, ◌+◌, ◌<◌, List, ◌++◌, length, take, drop, slice_index}

-- the n bytes from byte i on, or as many of them as there are
abbrev pub part : List ℕ → ℕ → ℕ → List ℕ
part bytes i n = take n (drop i bytes)

-- the bytes with `new` in place of those from byte i on
abbrev pub patched : List ℕ → ℕ → List ℕ → List ℕ
patched bytes i new = take i bytes ++ (new ++ drop (i + length new) bytes)

-- each number is a byte
abbrev pub Bytes : List ℕ → Type 0
Bytes bytes = (k : ℕ) → k < length bytes → slice_index bytes k < 256
