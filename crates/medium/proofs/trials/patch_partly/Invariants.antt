use Rattle.std.proofs.Common.{◌*◌, take}
use Rattle.medium.specs.Trials.{Partly}
use Rattle.medium.proofs.Partial.{Ahead}
use Rattle.medium.proofs.trials.patch_partly.Given as goal

abbrev pub invariant-loop-k : goal.invariant-loop-k
invariant-loop-k l =
    Ahead l.run l.k-iterator.iter.size l.k-iterator.count l.k-iterator.iter.rest.now
    × Partly l.pattern l.start (take (4 * l.k-iterator.count) l.run) l.initial.bytes l.bytes
