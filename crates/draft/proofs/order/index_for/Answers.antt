use Rattle.std.proofs.Common.{length, ap, ◌∙◌}
use Rattle.std.specs.Option.{unwrap_or}
use Rattle.draft.proofs.Ordered.{belongs_by}
use Rattle.draft.proofs.order.index_for.Goals as goal

pub returns-clause-puts : goal.returns-clause-puts
returns-clause-puts c new =
    belongs_by c.args.page.now c.args.key new c.args.slots.now c.unwrap_or.result
    (c.unwrap_or.ensures ∙ ap (λ r. unwrap_or r (length c.args.slots.now)) c.first_from.ensures)
