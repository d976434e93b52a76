use Rattle.std.proofs.Common.{refl, rules}
use Rattle.layer.proofs.runs.through.Goals as goal

pub returns : goal.returns
returns g c =
    (c.new.result, c.run-window.result.0, _, _, search rules, search rules, search rules, search rules, refl, refl, c.run-window.ensures)
