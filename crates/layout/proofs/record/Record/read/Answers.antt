use Rattle.std.proofs.Common.{sym, ◌∙◌, arith, rules}
use Rattle.std.proofs.lemmas.List.{drop_all, take_rest}
use Rattle.std.proofs.lemmas.Bool.{ltb-true, ltb-false}
use Rattle.octets.proofs.Numbers.{big_four}
use Rattle.layout.proofs.Entries.{entry_is}
use Rattle.layout.proofs.record.Record.read.Goals as goal

pub returns-in_default : goal.returns-in_default
returns-in_default c =
    entry_is c.args.page.now c.part-bytes.result.now _ c.args.slot _ (search rules) (search rules)
    (sym (drop_all 4 c.part-bytes.result.now (omega (arith, ltb-true))))

pub returns : goal.returns
returns c =
    entry_is c.args.page.now c.part-bytes.result.now _ c.args.slot _ (search rules)
    (c.from_be_bytes.ensures ∙ big_four c.part-bytes.result.now (omega (arith, ltb-false))) (take_rest c.part-bytes.result.now 4)
