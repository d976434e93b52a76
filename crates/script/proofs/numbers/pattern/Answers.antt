use Rattle.std.proofs.Common.{rules}
use Rattle.script.proofs.Spelling.{hexadecimal}
use Rattle.script.proofs.numbers.pattern.Goals as goal

pub returns : goal.returns
returns c = search (rules, hexadecimal)
