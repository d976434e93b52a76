use Rattle.std.proofs.Common.{length, ap, arith}
use Rattle.store.proofs.Adding.{length_added}
use Rattle.store.proofs.state.Edit.note.Goals as goal

pub invariant_of-self : goal.invariant_of-self
invariant_of-self c = record {
  most = omega arith;
  within = omega (arith, c.args.self.now.within, ap length c.add.ensures, length_added c.args.page c.args.self.now.touched.pages.items);
}
