use Rattle.std.proofs.Common.{◌≡◌, vec_items, string_bytes, ap, ◌∙◌, rules}
use Rattle.stage.specs.Lines.{medium_line}
use Rattle.stage.specs.Steps.{with_line}
use Rattle.stage.proofs.Stepping.{steps_all, steps_more}
use Rattle.stage.proofs.stage.Stage.make_steps.Goals as goal

pub loop-step-preserved : goal.loop-step-preserved
loop-step-preserved g c =
    steps_more g.M.Medium.meaning c.args.steps.now c.loop-step.step-index c.step-item.result _ _ _ _ _ _ c.loop-step-test.true c.step-item.is c.loop-step.invariant
    c.in_ok-make_step.ensures

pub returns : goal.returns
returns g c =
    let slips : vec_items c.begin.new.self.slips.given ≡ vec_items c.args.self.now.slips.given = ap (λ s. vec_items s.given) c.begin.ensures.slips in
    let text = c.in_ok-begin.ensures.text ∙ ap (λ m. with_line (string_bytes c.args.self.now.out) (medium_line (g.M.Medium.meaning m).pages)) c.medium.ensures in
    (vec_items c.loop-step.work, steps_all g.M.Medium.meaning c.args.steps.now c.loop-step.step-index _ _ _ _ _ _ _ _ _ _ c.loop-step-test.false slips (search rules) text c.loop-step.invariant)
