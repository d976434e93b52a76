use Rattle.std.proofs.Common.{vec_items, string_bytes, ◌∙◌}
use Rattle.stage.proofs.Stepping.{uses_more}
use Rattle.stage.proofs.stage.Stage.make_uses.Goals as goal

pub loop-of-preserved : goal.loop-of-preserved
loop-of-preserved c =
    uses_more c.args.uses.now c.loop-of.of-index c.of-item.result c.args.self.now.slips c.loop-of.self.slips c.make_use.new.self.slips (string_bytes c.args.self.now.out)
    (string_bytes c.loop-of.self.out) (string_bytes c.make_use.new.self.out) (vec_items c.loop-of.bytes) c.deref_mut.result.now c.loop-of-test.true c.of-item.is
    (c.deref_mut.ensures.value ∙ c.in_ok-begin_bytes.ensures) c.loop-of.invariant c.in_ok-make_use.ensures
