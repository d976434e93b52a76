use Rattle.std.proofs.Common.{◌+◌, ◌*◌, ◌≤◌, length, refl, ap, ◌∙◌, length-drop, arith, rules}
use Rattle.std.proofs.lemmas.List.{take_all}
use Rattle.octets.specs.Parts.{patched}
use Rattle.medium.proofs.Partial.{ahead_more, partly_left, partly_nothing, partly_put}
use Rattle.medium.proofs.trials.patch_partly.Goals as goal

pub loop-k-init : goal.loop-k-init
loop-k-init c = search (rules, partly_nothing)

pub loop-k-preserved-then-pattern-k-eq1 : goal.loop-k-preserved-then-pattern-k-eq1
loop-k-preserved-then-pattern-k-eq1 c =
    let (ahead, before) = c.loop-k.invariant in
    let ((size, (next, long), _), is, count, _) = c.in-Some.ensures.steps in
    let more = ahead_more c.args.run.now c.loop-k.k-iterator.iter.size c.loop-k.k-iterator.count c.loop-k.k-iterator.iter.rest.now
    c.in-Some.word.now c.next.new.self.iter.rest.now ahead next long in
    rw (size, count) (
      more.ahead,
      partly_put c.args.pattern c.args.start c.loop-k.k-iterator.count c.args.run.now c.args.bytes.now c.loop-k.bytes more.room
          c.requires.0 before _ (simp is at c.if-pattern-k-eq1.true) (c.patch.ensures ∙ (λ j. patched c.loop-k.bytes (c.args.start + 4 * is j) (more.word j))),
    )

pub loop-k-preserved : goal.loop-k-preserved
loop-k-preserved c =
    let (ahead, before) = c.loop-k.invariant in
    let ((size, (next, long), _), is, count, _) = c.in-Some.ensures.steps in
    let more = ahead_more c.args.run.now c.loop-k.k-iterator.iter.size c.loop-k.k-iterator.count c.loop-k.k-iterator.iter.rest.now
    c.in-Some.word.now c.next.new.self.iter.rest.now ahead next long in
    rw (size, count) (
      more.ahead,
      partly_left c.args.pattern c.args.start c.loop-k.k-iterator.count c.args.run.now c.args.bytes.now c.loop-k.bytes more.room
          c.requires.0 before c.loop-k.bytes (simp is at c.if-pattern-k-eq1.false) refl,
    )

pub returns : goal.returns
returns c =
    let (ahead, before) = c.loop-k.invariant in
    let done = 4 * c.loop-k.k-iterator.count in
    let all : length c.args.run.now ≤ done =
    omega (arith, c.in-None.ensures.steps.0.1.0, ahead.four, ap length ahead.rest, length-drop done c.args.run.now, c.requires.1, ahead.within) in
    rw take_all at before
