use Rattle.std.proofs.Common.{◌≡◌, ◌^◌, ◌<◌, drop}
use Rattle.script.specs.Digits.{digit_in}
use Rattle.script.specs.Spelled.{below, spelled}
use Rattle.script.proofs.numbers.spelled.Given as goal

-- what is left gives the whole, and the number fits
abbrev pub invariant-loop-b : goal.invariant-loop-b
invariant-loop-b l =
    (below (2 ^ 64) (spelled (digit_in l.base) l.base l.n (drop l.b-index l.word)) ≡ below (2 ^ 64) (spelled (digit_in l.base) l.base 0 l.word)) × (l.n < 2 ^ 64)
