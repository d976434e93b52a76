use Rattle.guard.proofs.Changed.{puts, removes, replaces}
use Rattle.guard.proofs.Stages.{begins, saves, takes_back, takes_draft_back}
use Rattle.guard.proofs.changes.Goals as goal

pub returns : goal.returns
returns c = record {
  begins = begins;
  puts = puts;
  replaces = replaces;
  removes = removes;
  takes_back = takes_back;
  takes_draft_back = takes_draft_back;
  saves = saves;
}
