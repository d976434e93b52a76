use Rattle.std.proofs.Common.{string_bytes, subst}
use Rattle.stage.specs.Scripts.{UsesMade}
use Rattle.stage.proofs.Stepping.{made_map}
use Rattle.stage.proofs.stage.Stage.make_script.Goals as goal

pub returns : goal.returns
returns c =
    let x = c.args.self.now.slips in
    let y = c.make_uses.new.self.slips in
    let r = string_bytes c.make_uses.new.self.out in
    let made = subst (λ us. UsesMade us x y (string_bytes c.args.self.now.out) r) c.deref.ensures.value c.in_ok-make_uses.ensures in
    made_map c.tell_bad.result _ _ (λ _ p. (x, y, r, c.requires, made, p)) c.tell_bad.ensures.text
