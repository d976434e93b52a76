use Rattle.stage.proofs.Stepping.{made_map}
use Rattle.stage.proofs.stage.fn.Stage.under_layers.holding_back+2.Goals as goal

pub returns : goal.returns
returns g c =
    let (v, w, x, y, below, first, count, left, before, after, ran) = c.through.ensures in
    made_map c.through.result.1 _ _ (λ _ p. (v, w, below, first, count, left, p)) (simp (before, after) at ran.1)
