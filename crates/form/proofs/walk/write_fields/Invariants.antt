use Rattle.std.proofs.Common.{◌≡◌, ◌+◌, ◌*◌, ◌≤◌, length, drop}
use Rattle.octets.specs.Parts.{patched}
use Rattle.form.specs.Fields.{fields_bytes}
use Rattle.form.proofs.walk.write_fields.Given as goal

-- each field takes four bytes at most, and what is left gives the whole
abbrev pub invariant-loop-field : goal.invariant-loop-field
invariant-loop-field g l =
    (goal.iterator-loop-field g).can_next l.field-iterator
    × (goal.iterator-loop-field g).is_finite l.field-iterator
    × (l.at ≤ 1 + 4 * length l.yielded) × (length l.out ≡ 200)
    × (l.at + length (fields_bytes (drop (length l.yielded) l.fields) (drop (length l.yielded) l.values)) ≡ 1 + length (fields_bytes l.fields l.values))
    × (patched l.out l.at (fields_bytes (drop (length l.yielded) l.fields) (drop (length l.yielded) l.values)) ≡ patched l.initial.out 1 (fields_bytes l.fields l.values))
