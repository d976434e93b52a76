use Rattle.std.proofs.Common.{eqb, rules, tests}
use Rattle.std.proofs.lemmas.Iterator.Consumers.{YieldsList-from_first}
use Rattle.std.proofs.lemmas.Iterator.Search.{find_from_yields_List}
use Rattle.layout.specs.Walks.{rest, seen}
use Rattle.layout.proofs.walk.find.Goals as goal

pub returns : goal.returns
returns c =
    find_from_yields_List (λ e. eqb e.key c.args.key) c.find.new.self _ _ c.find.ensures.ran (YieldsList-from_first seen rest _ c.new.ensures)
    (λ x b q k. search (rules, tests))
