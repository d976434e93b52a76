use Rattle.stage.proofs.Stepping.{made_map}
use Rattle.stage.proofs.stage.Stage.make_use.Goals as goal

pub returns-in-Memory : goal.returns-in-Memory
returns-in-Memory c = made_map c.on_memory.result _ _ (λ _ p. rw (c.in-Memory.is, ← c.as_slice-steps.ensures.value) p) c.on_memory.ensures
