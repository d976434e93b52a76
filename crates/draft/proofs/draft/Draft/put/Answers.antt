use Rattle.std.proofs.Common.{◌≡◌, ◌<◌, length, None, sym, refl, ◌∙◌, subst, arith}
use Rattle.std.proofs.lemmas.Grind.{common_steps}
use Rattle.draft.specs.Added.{Added}
use Rattle.draft.specs.Drafts.{draft_slots}
use Rattle.draft.proofs.Changed.{put_from_added}
use Rattle.draft.proofs.Ordered.{found_in, is_there}
use Rattle.draft.proofs.draft.Draft.put.Goals as goal

pub returns-then-is_some : goal.returns-then-is_some
returns-then-is_some c =
    let f = found_in c.args.page.now c.args.key (draft_slots c.args.self.counter c.args.page.now) c.deref.result.now c.index_of.result c.index_of.result
    (c.deref.ensures.0 ∙ c.load.ensures) c.index_of.ensures refl in
    (is_there c.args.page.now c.args.key (draft_slots c.args.self.counter c.args.page.now) c.index_of.result (sym c.is_some.ensures ∙ c.if-is_some.true) f, refl)

pub returns : goal.returns
returns c =
    let e = c.load.ensures in
    let n : c.index_of.result ≡ None = grind arith in
    let f = found_in c.args.page.now c.args.key (draft_slots c.args.self.counter c.args.page.now) c.deref.result.now c.index_of.result None
    (c.deref.ensures.0 ∙ e) c.index_of.ensures n in
    put_from_added c.args.self.counter c.args.page.now c.add.new.page c.args.key c.args.value.bytes.now c.add.result f
    (subst (λ ss. length ss < 24) e (grind (arith, common_steps)))
    (subst (λ ss. Added c.args.self.counter c.args.page.now c.add.new.page c.args.key c.args.value.bytes.now ss c.add.result) e c.add.ensures)
