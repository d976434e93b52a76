use Rattle.std.proofs.Common.{arith}
use Rattle.draft.proofs.Loaded.{header_done, header_more}
use Rattle.draft.proofs.load.fill.Goals as goal

pub loop-k-preserved : goal.loop-k-preserved
loop-k-preserved c = record {
  items = header_more c.args.page.now c.in-Some.header c.loop-k.slots.items c.push.new.self.items c.slot.result c.loop-k.k
      c.loop-k.invariant.items c.slot.ensures c.push.ensures.items;
  len = omega (arith, c.push.ensures.len, c.loop-k.invariant.len);
}

pub returns-after-loop-k : goal.returns-after-loop-k
returns-after-loop-k c =
    header_done c.args.page.now c.in-Some.header c.args.header c.loop-k.slots.items c.loop-k.k c.in-Some.is (omega arith)
    c.loop-k.invariant.items
