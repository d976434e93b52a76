use Rattle.std.proofs.Common.{ltb, length, refl, rules}
use Rattle.medium.proofs.Runs.{good_tells}
use Rattle.layer.specs.Holds.{images}
use Rattle.layer.proofs.Images.{distinct_last}
use Rattle.layer.proofs.Rooms.{made_new, puts_new}
use Rattle.layer.proofs.holding.Holding.hold.Goals as goal

pub invariant_of-self : goal.invariant_of-self
invariant_of-self g c = record {
  once = distinct_last (images c.make_room.new.self) _ _ c.push.ensures.items c.make_room.new.self.once
      (made_new g.M.Medium.meaning (images c.args.self.now) c.args.self.now.medium (images c.make_room.new.self) c.make_room.new.self.medium
      (ltb (length (images c.args.self.now)) 8) (images c.args.self.now) c.args.page c.in_ok-make_room.ensures.made c.requires.new);
}

pub returns : goal.returns
returns g c =
    puts_new g.M.Medium.meaning (images c.args.self.now) c.args.self.now.medium (images c.make_room.new.self) c.make_room.new.self.medium _ _
    c.args.page c.args.at c.args.bytes.now c.read.new.out c.requires.new
    ((g.M.Medium.sized c.args.self.now.medium).full c.args.page (good_tells (g.M.Medium.meaning c.args.self.now.medium).pages c.args.page c.args.at _ c.requires.good).page)
    (search rules) refl c.patch.ensures c.in_ok-make_room.ensures.made c.push.ensures.items
