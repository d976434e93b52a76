use Rattle.std.proofs.Common.{take, string_bytes}
use Rattle.stage.specs.Scripts.{UsesMade}
use Rattle.stage.proofs.stage.Stage.make_uses.Given as goal

-- the uses so far were made
abbrev pub invariant-loop-of : goal.invariant-loop-of
invariant-loop-of l = UsesMade (take l.of-index l.uses) l.initial.self.slips l.self.slips (string_bytes l.initial.self.out) (string_bytes l.self.out)
