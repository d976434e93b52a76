use Rattle.std.proofs.Common.{[], ◌∷◌, refl, subst}
use Rattle.medium.specs.Meaning as meanings
use Rattle.store.proofs.Loading.{read_number_is}
use Rattle.store.proofs.access.read_number.Goals as goal

pub returns : goal.returns
returns g c =
    let m = g.M.Medium.meaning c.args.medium.now in
    read_number_is m c.args.page c.args.side (0 ∷ 0 ∷ 0 ∷ 0 ∷ []) c.read.new.out c.read.result c.at.result c.in_ok-at.field-0 c.number.result
    (subst (λ i. meanings.Read m c.args.page i (0 ∷ 0 ∷ 0 ∷ 0 ∷ []) c.read.new.out c.read.result) c.start.ensures c.read.ensures) c.at.ensures c.in_ok-at.was refl c.number.ensures.value
