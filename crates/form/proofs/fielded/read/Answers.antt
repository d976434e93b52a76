use Rattle.std.proofs.Common.{ap, sym, ◌∙◌}
use Rattle.form.specs.Fields.{all_fit}
use Rattle.form.specs.RoundTrips.{decoded_fit}
use Rattle.form.proofs.fielded.read.Goals as goal

pub made-requires : goal.made-requires
made-requires g c = ap (λ fs. all_fit fs c.in_ok-numbers.numbers) (sym c.FIELDS.ensures) ∙ decoded_fit _ _ _ _ c.in_ok-numbers.ensures
