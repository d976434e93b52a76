use Rattle.std.proofs.Common.{◌≡◌, Some, None, Err, sym, refl, ◌∙◌, subst, arith, rules}
use Rattle.draft.specs.declared.refusal.PageRefusal.TheVariants.{NoSuchKey}
use Rattle.draft.specs.Added.{Added}
use Rattle.draft.specs.Drafts.{draft_slots}
use Rattle.draft.specs.Images.{ChangedPage}
use Rattle.draft.proofs.Changed.{change_from_added, taken_is}
use Rattle.draft.proofs.Ordered.{found_in}
use Rattle.draft.proofs.draft.Draft.change.Goals as goal

pub returns-in_err-own : goal.returns-in_err-own
returns-in_err-own c =
    let n : c.index_of.result ≡ None = grind arith in
    let r : c.from_residual.result ≡ Err NoSuchKey = search rules in
    let f = found_in c.args.page.now c.args.key (draft_slots c.args.self.counter c.args.page.now) c.deref.result.now c.index_of.result None
    (c.deref.ensures.0 ∙ c.load.ensures) c.index_of.ensures n in
    subst (ChangedPage c.args.self.counter c.args.page.now c.args.page.now c.args.key c.args.value.bytes.now) (sym r) (f, refl)

pub returns : goal.returns
returns c =
    let n : c.index_of.result ≡ Some c.in_ok-own.own = grind arith in
    let f = found_in c.args.page.now c.args.key (draft_slots c.args.self.counter c.args.page.now) c.deref.result.now c.index_of.result (Some c.in_ok-own.own)
    (c.deref.ensures.0 ∙ c.load.ensures) c.index_of.ensures n in
    change_from_added c.args.self.counter c.args.page.now c.add.new.page c.args.key c.args.value.bytes.now c.add.result f.1
    (subst (λ ss. Added c.args.self.counter c.args.page.now c.add.new.page c.args.key c.args.value.bytes.now ss c.add.result)
    (taken_is c.args.page.now c.args.key c.in_ok-own.own (draft_slots c.args.self.counter c.args.page.now) c.load.new.slots.items
    c.remove.new.self.items c.load.ensures c.remove.ensures.items f.2) c.add.ensures)
