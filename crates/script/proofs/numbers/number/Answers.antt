use Rattle.std.proofs.Common.{arith, rules}
use Rattle.std.proofs.lemmas.Bool.Decides.{nat_tests}
use Rattle.script.proofs.Spelling.{decimal_some}
use Rattle.script.proofs.numbers.number.Goals as goal

pub returns : goal.returns
returns c =
    rw (decimal_some c.args.word.now c.in_ok-n.n (search rules) (search rules)) (grind (arith, nat_tests))
