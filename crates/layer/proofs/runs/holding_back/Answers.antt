use Rattle.std.proofs.Common.{refl, rules}
use Rattle.layer.proofs.runs.holding_back.Goals as goal

pub returns : goal.returns
returns g c = (c.new.result, c.run-hold.result.0, _, _, search rules, search rules, search rules, refl, refl, c.run-hold.ensures)
