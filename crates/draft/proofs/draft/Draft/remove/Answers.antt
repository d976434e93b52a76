use Rattle.std.proofs.Common.{◌≡◌, ◌+◌, Some, None, Err, sym, refl, ap, ◌∙◌, subst, arith, rules}
use Rattle.draft.specs.declared.refusal.PageRefusal.TheVariants.{NoSuchKey}
use Rattle.draft.specs.Drafts.{draft_slots, target}
use Rattle.draft.specs.Images.{RemovedPage, with_header}
use Rattle.draft.proofs.Changed.{taken_is}
use Rattle.draft.proofs.Ordered.{found_in}
use Rattle.draft.proofs.draft.Draft.remove.Goals as goal

pub returns-in_err-i : goal.returns-in_err-i
returns-in_err-i c =
    let n : c.index_of.result ≡ None = grind arith in
    let r : c.from_residual.result ≡ Err NoSuchKey = search rules in
    let f = found_in c.args.page.now c.args.key (draft_slots c.args.self.counter c.args.page.now) c.deref.result.now c.index_of.result None
    (c.deref.ensures.0 ∙ c.load.ensures) c.index_of.ensures n in
    subst (RemovedPage c.args.self.counter c.args.page.now c.args.page.now c.args.key) (sym r) (f, refl)

pub returns : goal.returns
returns c =
    let n : c.index_of.result ≡ Some c.in_ok-i.i = grind arith in
    let f = found_in c.args.page.now c.args.key (draft_slots c.args.self.counter c.args.page.now) c.deref.result.now c.index_of.result (Some c.in_ok-i.i)
    (c.deref.ensures.0 ∙ c.load.ensures) c.index_of.ensures n in (
      f.1,
      c.write_header.ensures
          ∙ ap (λ s. with_header c.args.page.now s (c.args.self.counter + 1) c.remove.new.self.items) c.target-side.ensures
          ∙ ap (with_header c.args.page.now (target c.args.self.counter c.args.page.now) (c.args.self.counter + 1))
          (taken_is c.args.page.now c.args.key c.in_ok-i.i (draft_slots c.args.self.counter c.args.page.now)
          c.load.new.slots.items c.remove.new.self.items c.load.ensures c.remove.ensures.items f.2),
    )
