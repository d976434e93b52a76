use Rattle.std.proofs.Common.{rules}
use Rattle.stage.proofs.Stepping.{made_map}
use Rattle.stage.proofs.stage.Stage.on_trial.Goals as goal

pub returns : goal.returns
returns c =
    made_map c.under_layers-trial.result.1 _ _ (λ _ p. (_, _, search rules, search rules, search rules, search rules, p)) c.under_layers-trial.ensures
