use Rattle.std.proofs.Common.{◌+◌, ◌≤◌, length}
use Rattle.std.specs.Iterator.Adapters.{enumerate_count, enumerate_source}
use Rattle.script.proofs.reader.parse.Given as goal

-- a line has a byte at least, so there are no more lines than bytes
abbrev pub invariant-loop-k : goal.invariant-loop-k
invariant-loop-k l =
    (goal.iterator-loop-k).can_next l.k-iterator
    × (goal.iterator-loop-k).is_finite l.k-iterator
    × (enumerate_count l.k-iterator + length (enumerate_source l.k-iterator).rest.now ≤ length l.text)
