use Rattle.std.proofs.Common.{◌+◌, Bool, cond, eqb, [], ◌∷◌, ap, ◌∙◌, zero-add, rules, tests}
use Rattle.std.proofs.lemmas.Iterator.{YieldsList-from_slice}
use Rattle.std.proofs.lemmas.Iterator.Consumers.{YieldsList-from_filter, count_from_yields_List}
use Rattle.std.proofs.lemmas.List.Sums.{length-filter}
use Rattle.layout.specs.declared.header.Side.{Side}
use Rattle.layout.specs.declared.header.Side.TheVariants.{A, B}
use Rattle.layout.specs.Pages.{number_of}
use Rattle.layout.proofs.header.pending.Goals as goal

pub returns : goal.returns
returns c =
    let test : Side → Bool = λ s. eqb (number_of c.args.page.now s) (c.args.counter + 1) in
    count_from_yields_List c.filter.result _ c.count.ensures.ran
    (YieldsList-from_filter _ test (YieldsList-from_slice (A ∷ B ∷ []) cc) c.filter.ensures.closure (λ x r q k. search (rules, tests)))
    ∙ length-filter test (A ∷ B ∷ []) ∙ ap (λ n. n + cond (test B) 1 0) (zero-add (cond (test A) 1 0))
