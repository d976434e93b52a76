use Rattle.std.proofs.Common.{take, vec_items, string_bytes}
use Rattle.book.specs.Uses.{moment}
use Rattle.stage.specs.Steps.{StepsMade}
use Rattle.stage.proofs.stage.Stage.make_steps.Given as goal

-- the steps so far were made
abbrev pub invariant-loop-step : goal.invariant-loop-step
invariant-loop-step g l =
    StepsMade g.M.Medium.meaning (take l.step-index l.steps) (moment l.initial.store l.initial.self.slips (vec_items l.initial.work))
    (moment l.store l.self.slips (vec_items l.work)) (string_bytes l.initial.self.out) (string_bytes l.self.out)
