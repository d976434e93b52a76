use Rattle.std.proofs.Common.{ℕ, arith, rules, tests}
use Rattle.std.proofs.lemmas.Iterator.{YieldsList-from_range, cases_from_all}
use Rattle.layout.specs.Walks.{SlotFits}
use Rattle.layout.proofs.Decided.{all_below, decides_same, fails}
use Rattle.layout.proofs.Fitting.{few_from, slot_from, fits_from}
use Rattle.layout.proofs.sound.Counted.fits.Goals as goal

pub returns-then-self-le-SLOTS : goal.returns-then-self-le-SLOTS
returns-then-self-le-SLOTS c =
    let s = c.args.self.now in
    let P : ℕ → Type 0 = λ k. SlotFits s.first.pages s.q s.page.now s.header k in
    decides_same c.all.result
    (all_below P s.header.count c.all.result
    (cases_from_all _ _ _ P (λ k. P k → ⊥) c.all.ensures.ran (YieldsList-from_range 0 s.header.count s.header.count (cc) (omega arith))
    (λ x q k. search (rules, tests)) (λ x q k. search (rules, tests))))
    (fits_from s.first.pages s.q s.page.now s.header (omega arith)) (slot_from s.first.pages s.q s.page.now s.header)

pub returns-else-self-le-SLOTS : goal.returns-else-self-le-SLOTS
returns-else-self-le-SLOTS c =
    let s = c.args.self.now in
    fails _ (search rules) (λ f. omega (arith, few_from s.first.pages s.q s.page.now s.header f))
