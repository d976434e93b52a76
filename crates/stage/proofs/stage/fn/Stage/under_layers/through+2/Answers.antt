use Rattle.stage.proofs.Stepping.{made_map}
use Rattle.stage.proofs.stage.fn.Stage.under_layers.through+2.Goals as goal

pub returns : goal.returns
returns g c =
    let (v, w, x, y, below, none, left, before, after, ran) = c.holding_back.ensures in
    made_map c.holding_back.result.1 _ _ (λ _ p. (v, w, below, none, left, p)) (simp (before, after) at ran.1)
