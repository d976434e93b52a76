use Rattle.std.proofs.Common.{string_bytes, sym, ap, ◌∙◌, subst}
use Rattle.stage.specs.Scripts.{ScriptMade}
use Rattle.stage.proofs.Stepping.{made_map}
use Rattle.stage.proofs.uses.perform_at.Goals as goal

pub returns : goal.returns
returns g c =
    let script = c.args.script.now in
    let text = c.new-stage.ensures.text ∙ ap string_bytes c.replace-text.ensures.value in
    made_map c.make_script-done.result _ _
    (λ _ p. subst (λ t. ScriptMade script (string_bytes c.args.out.now) t) (sym c.end.ensures.text) (subst (λ s. ScriptMade script s (string_bytes c.make_script-done.new.self.out)) text p))
    c.make_script-done.ensures
