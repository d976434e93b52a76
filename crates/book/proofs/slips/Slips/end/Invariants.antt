use Rattle.std.proofs.Common.{◌≡◌, vec_len}
use Rattle.store.specs.declared.state.State.TheVariants.{Shut}
use Rattle.book.proofs.slips.Slips.end.Given as goal

abbrev pub invariant-loop-place : goal.invariant-loop-place
invariant-loop-place g l = l.initial.store.state ≡ Shut → (l.store.state ≡ Shut) × (l.store.medium ≡ l.initial.store.medium)

abbrev pub decreases-loop-place : goal.decreases-loop-place
decreases-loop-place g l = vec_len l.given
