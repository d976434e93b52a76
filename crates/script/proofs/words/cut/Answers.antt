use Rattle.std.proofs.Common.{rules}
use Rattle.script.proofs.Parts.{found_front, found_back, missed_front, missed_back}
use Rattle.script.proofs.words.cut.Goals as goal

pub returns-in-Some-clause-front : goal.returns-in-Some-clause-front
returns-in-Some-clause-front c = search (rules, found_front)

pub returns-in-Some-clause-back : goal.returns-in-Some-clause-back
returns-in-Some-clause-back c = search (rules, found_back)

pub returns-in-None-clause-front : goal.returns-in-None-clause-front
returns-in-None-clause-front c = search (rules, missed_front)

pub returns-in-None-clause-back : goal.returns-in-None-clause-back
returns-in-None-clause-back c = search (rules, missed_back)
