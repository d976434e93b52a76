use Rattle.std.proofs.Common.{◌+◌, arith}
use Rattle.octets.specs.Numbers.{spell}
use Rattle.draft.proofs.Headers.{put_more}
use Rattle.draft.proofs.header.write_slot.Goals as goal

pub returns : goal.returns
returns c =
    put_more c.args.page.now c.write_number.new.bytes c.write_number-2.new.bytes (spell 2 c.args.slot.offset) (spell 2 c.args.slot.length)
    c.args.at (c.args.at + 2) c.write_number.ensures c.write_number-2.ensures (omega arith) (omega arith)
