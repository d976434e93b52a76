use Rattle.std.proofs.Common.{◌≡◌, ◌-◌, length, drop}
use Rattle.form.specs.Fields.{bit_map}
use Rattle.form.proofs.walk.bit_map.Given as goal

-- the map of the numbers gone through, from the last on
abbrev pub invariant-loop-value : goal.invariant-loop-value
invariant-loop-value g l =
    (goal.iterator-loop-value g).can_next l.value-iterator
    × (goal.iterator-loop-value g).is_finite l.value-iterator
    × (l.map ≡ bit_map l.top (drop (length l.values - length l.yielded) l.values))
