use Rattle.std.proofs.Common.{take}
use Rattle.std.specs.Fmt.{IsPlainFormatter, HasWritten}
use Rattle.text.specs.Texts.{hex_digits}
use Rattle.text.proofs.HexDisplay.fmt.Given as goal

-- the digits of the bytes gone through were written
abbrev pub invariant-loop-b : goal.invariant-loop-b
invariant-loop-b g l = IsPlainFormatter l.initial.f → HasWritten g.W.Write.write_str_gives l.initial.f (hex_digits (take l.b-index l.bytes)) l.f
