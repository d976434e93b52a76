use Rattle.draft.proofs.Headers.{record_is}
use Rattle.draft.proofs.write.write_record.Goals as goal

pub returns : goal.returns
returns c =
    record_is c.args.out.now c.write_number.new.bytes c.patch.new.bytes c.args.value.now c.args.key c.requires
    c.write_number.ensures c.patch.ensures
