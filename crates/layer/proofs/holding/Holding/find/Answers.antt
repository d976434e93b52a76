use Rattle.std.proofs.Common.{◌≡◌, ◌∙◌, rules}
use borrow.Author.Tests.{tests}
use Rattle.std.proofs.lemmas.Iterator.{IsFirst-from_position, YieldsList-from_slice}
use Rattle.layer.specs.Holds.{images}
use Rattle.layer.proofs.Images.{placed_first}
use Rattle.layer.proofs.holding.Holding.find.Goals as goal

pub returns : goal.returns
returns g c =
    placed_first (images c.args.self.now) c.args.page c.position.result
    (IsFirst-from_position _ _ c.position.result (λ h. h.page ≡ c.args.page) (λ h. h.page ≡ c.args.page → ⊥) c.position.ensures.ran
    (YieldsList-from_slice (images c.args.self.now) (c.iter.ensures.rest ∙ c.deref.ensures.0)) (λ x q k. search (rules, tests)) (λ x q k. search (rules, tests)))
