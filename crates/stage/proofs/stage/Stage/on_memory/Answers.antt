use Rattle.std.proofs.Common.{rules}
use Rattle.stage.proofs.Stepping.{made_map}
use Rattle.stage.proofs.stage.Stage.on_memory.Goals as goal

pub returns : goal.returns
returns c = made_map c.over-memory.result.1 _ _ (λ _ p. (_, _, search rules, p)) c.over-memory.ensures
