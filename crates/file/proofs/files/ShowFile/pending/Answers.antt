use Rattle.std.proofs.Common.{◌-◌, ◌^◌, arith, rules}
use Rattle.std.proofs.lemmas.Iterator.{YieldsList-from_range}
use Rattle.std.proofs.lemmas.Iterator.Adapters.{at_most_from_yields_List, fits_from_length}
use Rattle.std.proofs.lemmas.List.FromFn.{length-range_with_len}
use Rattle.file.proofs.Pages.{pending_le}
use Rattle.file.proofs.files.ShowFile.pending.Goals as goal

-- at most 4,096 pages, each with at most two
pub sum-requires-clause-fits : goal.sum-requires-clause-fits
sum-requires-clause-fits c =
    let first = c.args.self.now.first in
    fits_from_length _ _ 4096 (2 ^ 64)
    (at_most_from_yields_List (YieldsList-from_range 1 first.pages (first.pages - 1) (cc) (cc)) (omega (arith, length-range_with_len 1 (first.pages - 1), first.most)))
    c.map.ensures.closure (omega arith) (λ x r q k. search (rules, pending_le))
