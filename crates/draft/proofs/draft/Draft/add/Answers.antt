use Rattle.std.proofs.Common.{◌≡◌, ◌+◌, ◌++◌, length, Some, None, Err, sym, refl, ap, ◌∙◌, subst, arith, rules}
use Rattle.octets.proofs.Patches.{put_mid_patched}
use Rattle.draft.specs.declared.refusal.PageRefusal.TheVariants.{NoPlace}
use Rattle.std.specs.List.{insert}
use Rattle.draft.specs.Drafts.{put_in}
use Rattle.draft.specs.Added.{Added}
use Rattle.draft.specs.Images.{busy, slot_at}
use Rattle.draft.specs.Places.{Highest}
use Rattle.draft.proofs.Changed.{busy_is, placed_is}
use Rattle.draft.proofs.draft.Draft.add.Goals as goal

pub returns-in_err-at : goal.returns-in_err-at
returns-in_err-at c =
    let n : c.place.result ≡ None = grind arith in
    let r : c.from_residual.result ≡ Err NoPlace = search rules in
    let b : c.deref.result.now ++ c.deref-2.result.now ≡ busy c.args.self.counter c.args.page.now c.args.slots.now.items =
    busy_is c.args.self.counter c.args.page.now c.args.page.now c.args.key c.args.value.bytes.now c.deref.result.now c.deref-2.result.now c.fill.new.slots.items c.args.slots.now.items
    c.valid-header.result c.deref.ensures.0 c.fill.ensures c.valid-header.ensures c.deref-2.ensures.0 in
    subst (Added c.args.self.counter c.args.page.now c.args.page.now c.args.key c.args.value.bytes.now c.args.slots.now.items) (sym r)
    (subst (λ ss. Highest ss (4 + length c.args.value.bytes.now) None) b (subst (Highest (c.deref.result.now ++ c.deref-2.result.now) (4 + length c.args.value.bytes.now)) n c.place.ensures), refl)

pub returns : goal.returns
returns c =
    let n : c.place.result ≡ Some c.in_ok-at.at = grind arith in
    let b : c.deref.result.now ++ c.deref-2.result.now ≡ busy c.args.self.counter c.args.page.now c.args.slots.now.items =
    busy_is c.args.self.counter c.args.page.now c.args.page.now c.args.key c.args.value.bytes.now c.deref.result.now c.deref-2.result.now c.fill.new.slots.items c.args.slots.now.items
    c.valid-header.result c.deref.ensures.0 c.fill.ensures c.valid-header.ensures c.deref-2.ensures.0 in (
      c.in_ok-at.at,
      subst (λ ss. Highest ss (4 + length c.args.value.bytes.now) (Some c.in_ok-at.at)) b (subst (Highest (c.deref.result.now ++ c.deref-2.result.now) (4 + length c.args.value.bytes.now)) n c.place.ensures),
      placed_is c.args.self.counter c.args.page.now c.write_header.new.page c.args.key c.args.value.bytes.now _ c.target-side.result
          c.args.slots.now.items c.insert.new.self.items c.in_ok-at.at (search (rules, put_mid_patched)) c.target-side.ensures
          (c.insert.ensures.items
          ∙ ap (λ ss. insert ss c.index_for-i.result (slot_at c.in_ok-at.at c.args.value.bytes.now)) (sym c.deref-3.ensures.0)
          ∙ sym (c.index_for-i.ensures.puts (slot_at c.in_ok-at.at c.args.value.bytes.now))
          ∙ ap (put_in c.args.page.now c.args.key (slot_at c.in_ok-at.at c.args.value.bytes.now)) c.deref-3.ensures.0)
          c.write_header.ensures,
    )
