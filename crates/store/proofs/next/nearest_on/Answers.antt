use Rattle.std.proofs.Common.{nat_le, sym, ◌∙◌, rules, tests}
use Rattle.std.proofs.lemmas.Iterator.{YieldsList-from_map}
use Rattle.std.proofs.lemmas.Iterator.Adapters.{YieldsList-from_once, option_map_id}
use Rattle.std.proofs.lemmas.Iterator.Consumers.{YieldsList-at, YieldsList-from_chain, YieldsList-from_filter, YieldsList-from_first, min_from_yields_List}
use Rattle.layout.specs.Pages.{records}
use Rattle.layout.specs.Walks.{rest, seen}
use Rattle.store.proofs.NextWays.{nearest_is}
use Rattle.store.proofs.next.nearest_on.Goals as goal

pub returns : goal.returns
returns c =
    nearest_is c.args.least c.args.best (records c.args.counter c.args.page.now) c.min.result
    (sym (option_map_id c.min.result)
    ∙ min_from_yields_List c.chain.result c.min.result c.min.ensures.ran
    (YieldsList-from_chain
    (YieldsList-at c.chain.ensures.first
    (YieldsList-from_filter _ (nat_le c.args.least)
    (YieldsList-at c.filter.ensures.source
    (YieldsList-from_map _ (λ e. e.key) (YieldsList-at c.map.ensures.source (YieldsList-from_first seen rest _ c.new.ensures)) c.map.ensures.closure
    (λ x r q k. search (rules, tests))))
    c.filter.ensures.closure (λ x b q k. search (rules, tests))))
    (YieldsList-from_once c.args.best c.chain.ensures.second.0) c.chain.ensures.first_done c.chain.ensures.second_done))
