use Rattle.std.proofs.Common.{rules}
use Rattle.script.proofs.Spelling.{number_none}
use Rattle.script.proofs.numbers.spelled.Goals as goal

pub returns-in_err-n : goal.returns-in_err-n
returns-in_err-n c = search (rules, number_none)
