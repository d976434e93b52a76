use Rattle.std.proofs.Common.{◌≡◌, length, ap, arith, rules}
use Rattle.script.specs.Parting.{after_line}
use Rattle.script.proofs.Parts.{line_less}
use Rattle.script.proofs.words.LinesIterator.next.Goals as goal

pub returns-clause-goes : goal.returns-clause-goes
returns-clause-goes c =
    let rest : c.unwrap_or-self.result.now ≡ after_line c.args.self.now.rest.now = search rules in
    record { on = λ _. (tt, tt, omega (arith, ap length rest, line_less c.args.self.now.rest.now (search rules))); keeps = tt; rests = λ _. tt }
