use Rattle.std.proofs.Common.{◌≡◌, None, sym, ◌∙◌, rules}
use Rattle.form.specs.Fields.{lowest_bad}
use Rattle.form.specs.FormLaws.{none_bad}
use Rattle.form.specs.Walks.{lowest_from}
use Rattle.form.proofs.walk.check_ranges.Goals as goal

pub returns-in-Some : goal.returns-in-Some
returns-in-Some g c = search (rules, lowest_from)

pub returns-in-None : goal.returns-in-None
returns-in-None g c =
    let none : lowest_bad 0 c.args.fields.now c.args.values.now ≡ None = search (rules, lowest_from) in
    record { lowest = none; fit = none_bad 0 _ _ (c.told-fields ∙ sym c.told-values) none }
