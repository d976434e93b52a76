use Rattle.std.proofs.Common.{◌++◌, sym, ◌∙◌, arith}
use Rattle.draft.proofs.Blocked.{free_in, taken_from}
use Rattle.draft.proofs.place.place.Goals as goal

pub loop-at-preserved : goal.loop-at-preserved
loop-at-preserved c q l =
    taken_from (c.args.saved.now ++ c.args.slots.now) c.args.n c.loop-at.at (omega arith) (sym c.is_taken.ensures ∙ c.if-not-is_taken.false)
    c.loop-at.invariant q (omega (arith, l, c.loop-at-test.true))

pub returns-then-not-is_taken : goal.returns-then-not-is_taken
returns-then-not-is_taken c = (
  (
    omega (arith, c.loop-at-test.true),
    omega (arith, c.loop-at.auto.at),
    free_in (c.args.saved.now ++ c.args.slots.now) c.args.n c.loop-at.at (sym c.is_taken.ensures ∙ c.if-not-is_taken.true),
  ),
  c.loop-at.invariant,
)

pub returns-after-loop-at : goal.returns-after-loop-at
returns-after-loop-at c q r = c.loop-at.invariant q (omega (arith, r.0, c.loop-at-test.false)) r
