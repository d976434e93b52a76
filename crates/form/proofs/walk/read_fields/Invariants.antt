use Rattle.std.proofs.Common.{◌≡◌, ◌≤◌, length, take, drop}
use Rattle.form.specs.Fields.{decoded}
use Rattle.form.specs.Walks.{resumed}
use Rattle.form.proofs.walk.read_fields.Given as goal

-- what is left to read gives the whole
abbrev pub invariant-loop-bit : goal.invariant-loop-bit
invariant-loop-bit g l =
    (length l.fields ≡ length l.values) × (l.at ≤ length l.value) × (resumed l.value (drop l.bit l.fields) l.left l.at (take l.bit l.values) ≡ decoded l.top l.fields l.value)
