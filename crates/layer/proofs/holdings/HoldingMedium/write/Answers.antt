use Rattle.std.proofs.Common.{List, get_or, Ok, sym, ap, ◌∙◌, subst}
use Rattle.octets.specs.Parts.{patched}
use Rattle.medium.proofs.Runs.{good_tells}
use Rattle.layer.specs.Below.{Puts}
use Rattle.layer.specs.Distinct.{distinct}
use Rattle.layer.specs.Holds.{images}
use Rattle.layer.specs.declared.held.Held.{Held}
use Rattle.layer.proofs.Descents.{puts_wrote}
use Rattle.layer.proofs.Images.{distinct_set, put_over}
use Rattle.layer.proofs.Rooms.{puts_held}
use Rattle.layer.proofs.holdings.HoldingMedium.write.Goals as goal

pub invariant_of-self : goal.invariant_of-self
invariant_of-self g c =
    let hs = images c.args.self.now in
    let old = c.index-deref_mut-i.result in
    record {
      once = ap distinct (put_over hs c.deref_mut.result.now c.in-Some.i c.patch.new.self c.deref_mut.ensures.value)
          ∙ distinct_set hs c.args.page c.in-Some.i c.patch.new.self old c.in-Some.ensures
          (c.index-deref_mut-i.is ∙ ap (λ l. get_or l c.in-Some.i old) c.deref_mut.ensures.value)
          (c.patch.ensures.page ∙ ap (λ h. h.page) (sym c.index-deref_mut-i.is)) c.args.self.now.once;
    }

pub returns-in-Some : goal.returns-in-Some
returns-in-Some g c =
    let m = g.M.Medium.meaning in
    let hs = images c.args.self.now in
    let a = c.args.self.now.medium in
    let old = c.index-deref_mut-i.result in
    let fit = c.in_ok-admit.ensures.0 in
    let puts = subst (λ (gs : List Held). Puts m hs a gs a c.args.page c.args.at c.args.bytes.now (Ok tt))
    (sym (put_over hs c.deref_mut.result.now c.in-Some.i c.patch.new.self c.deref_mut.ensures.value))
    (puts_held m hs a c.patch.new.self old c.args.page c.args.at c.in-Some.i c.args.bytes.now c.in-Some.ensures
    (good_tells (m a).pages c.args.page c.args.at _ fit).page
    (c.index-deref_mut-i.is ∙ ap (λ l. get_or l c.in-Some.i old) c.deref_mut.ensures.value)
    (c.patch.ensures.page ∙ ap (λ h. h.page) (sym c.index-deref_mut-i.is))
    (c.patch.ensures.image ∙ ap (λ h. patched h.image c.args.at c.args.bytes.now) (sym c.index-deref_mut-i.is))) in
    record {
      wrote = puts_wrote m g.M.Medium.sized g.M.Medium.shows hs a _ a c.args.self.now.once c.in_ok-admit.ensures.1 c.args.page c.args.at c.args.bytes.now fit (Ok tt) puts;
      below = puts;
    }

pub returns-in-None-clause-wrote : goal.returns-in-None-clause-wrote
returns-in-None-clause-wrote g c =
    let m = g.M.Medium.meaning in
    let a = c.args.self.now.medium in
    puts_wrote m g.M.Medium.sized g.M.Medium.shows (images c.args.self.now) a (images c.hold.new.self) c.hold.new.self.medium c.args.self.now.once c.in_ok-admit.ensures.1
    c.args.page c.args.at c.args.bytes.now c.in_ok-admit.ensures.0 c.hold.result c.hold.ensures
