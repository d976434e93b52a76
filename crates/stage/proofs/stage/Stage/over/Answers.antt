use Rattle.std.proofs.Common.{rules}
use Rattle.stage.proofs.Stepping.{made_map}
use Rattle.stage.proofs.stage.Stage.over.Goals as goal

pub returns : goal.returns
returns g c = made_map c.make_steps-done.result _ _ (λ _ p. (_, _, search rules, search rules, search rules, p)) c.make_steps-done.ensures
