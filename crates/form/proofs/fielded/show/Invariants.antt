use Rattle.std.proofs.Common.{take, length}
use Rattle.std.specs.Fmt.{IsPlainFormatter, HasWritten}
use Rattle.form.specs.Texts.{fields_text}
use Rattle.form.proofs.fielded.show.Given as goal

-- the name and the fields gone through were written
abbrev pub invariant-loop-name : goal.invariant-loop-name
invariant-loop-name g l =
    (goal.iterator-loop-name g).can_next l.name-iterator
    × (goal.iterator-loop-name g).is_finite l.name-iterator
    × (IsPlainFormatter l.fn.f → HasWritten g.W.Write.write_str_gives l.fn.f (fields_text g.V.Fielded.name (take (length l.yielded) g.V.Fielded.names) (take (length l.yielded) (g.V.Fielded.values l.v))) l.f)
