use Rattle.std.proofs.Common.{refl}
use Rattle.guard.proofs.Changed.{puts, removes, replaces}
use Rattle.guard.proofs.Cleared.{clears}
use Rattle.guard.proofs.Nearby.{guards}
use Rattle.guard.proofs.Stages.{begins, saves, takes_back, takes_draft_back}
use Rattle.guard.proofs.laws.Goals as goal

pub returns : goal.returns
returns c = record {
  guards = guards;
  clears = clears;
  begins = begins;
  puts = puts;
  replaces = replaces;
  removes = removes;
  takes_back = takes_back;
  takes_draft_back = takes_draft_back;
  saves = saves;
  count = refl;
}
