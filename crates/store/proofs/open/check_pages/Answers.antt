use Rattle.std.proofs.Common.{ap, ◌∙◌, subst, arith}
use Rattle.layout.specs.Sound.{Sound}
use Rattle.store.specs.Opening.{SoundOn}
use Rattle.store.proofs.Sweeps.{up_to_more}
use Rattle.store.proofs.open.check_pages.Goals as goal

pub loop-q-preserved : goal.loop-q-preserved
loop-q-preserved g c =
    let m = g.M.Medium.meaning c.args.medium.now in
    let is = c.in_ok-load.ensures.1 in (
      up_to_more (SoundOn m c.args.first) c.loop-q.q c.loop-q.invariant.0
          (subst (Sound c.args.first.counter c.args.first.pages c.loop-q.q) is (c.is_sound.ensures.exactly.0 c.if-not-is_sound.false)),
      λ _. is ∙ ap m.shown (omega arith),
    )
