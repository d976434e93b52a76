use Rattle.std.proofs.Common.{ℕ, arith, rules, tests}
use Rattle.std.proofs.lemmas.Iterator.{YieldsList-from_range, cases_from_all}
use Rattle.layout.specs.Pages.{slot_of}
use Rattle.layout.specs.Sound.{Before}
use Rattle.layout.proofs.Decided.{all_below}
use Rattle.layout.proofs.sound.Counted.follows.Goals as goal

pub returns : goal.returns
returns c =
    let page = c.args.self.now.page.now in
    let side = c.args.self.now.header.side in
    let P : ℕ → Type 0 = λ j. Before page (slot_of page side j) (slot_of page side c.args.k) in
    all_below P c.args.k c.all.result
    (cases_from_all _ _ _ P (λ j. P j → ⊥) c.all.ensures.ran (YieldsList-from_range 0 c.args.k c.args.k (cc) (omega arith))
    (λ x q k. search (rules, tests)) (λ x q k. search (rules, tests)))
