use Rattle.std.proofs.Common.{rules}
use Rattle.store.proofs.EndWays.{uncounted}
use Rattle.store.proofs.ends.commit.Goals as goal

pub returns-in_err-count : goal.returns-in_err-count
returns-in_err-count g c = search (rules, uncounted)
