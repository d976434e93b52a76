use Rattle.std.proofs.Common.{rules}
use Rattle.file.proofs.AllRecords.{counted}
use Rattle.file.proofs.files.count_on.Goals as goal

pub returns : goal.returns
returns c = counted c.args.counter c.args.page.now c.valid.result c.map_or.result _ c.valid.ensures c.map_or.ensures (λ h k. search rules)
