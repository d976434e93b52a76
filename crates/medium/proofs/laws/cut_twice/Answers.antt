use Rattle.std.proofs.Common.{rules}
use Rattle.medium.proofs.Cutting.{settled_cuts}
use Rattle.medium.proofs.laws.cut_twice.Goals as goal

pub returns : goal.returns
returns g c = record {
  steps = (c.settle.new.self, c.cut.new.self, search rules, search rules, search rules, search rules, search rules);
  unchanged =
      settled_cuts (g.M.Medium.meaning c.args.medium.now) (g.M.Medium.meaning c.settle.new.self)
      (g.M.Medium.meaning c.cut.new.self) (g.M.Medium.meaning c.cut-2.new.self)
      c.in_ok-settle.ensures (g.M.Medium.sized c.settle.new.self) c.cut.ensures.rule
      (g.M.Medium.sized c.cut.new.self) c.cut-2.ensures.rule;
}
