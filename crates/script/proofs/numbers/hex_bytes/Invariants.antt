use Rattle.std.proofs.Common.{◌≡◌, drop, vec_items}
use Rattle.script.proofs.HexWords.{of_pairs, prefixed}
use Rattle.script.proofs.numbers.hex_bytes.Given as goal

-- the bytes so far and the pairs that are left give the whole
abbrev pub invariant-loop-high : goal.invariant-loop-high
invariant-loop-high l = prefixed (vec_items l.bytes) (of_pairs (drop l.high-index l.pairs)) ≡ of_pairs l.pairs
