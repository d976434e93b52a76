use Rattle.std.proofs.Common.{◌-◌, ◌∙◌, ◌^◌, length, arith, rules}
use Rattle.std.proofs.lemmas.Iterator.{YieldsList-from_map, YieldsList-from_range}
use Rattle.std.proofs.lemmas.Iterator.Adapters.{at_most_from_yields_List, fits_from_length}
use Rattle.std.proofs.lemmas.Iterator.Consumers.{sum_by_from_yields_List}
use Rattle.std.proofs.lemmas.List.FromFn.{length-range_with_len}
use Rattle.octets.specs.Files.{file_of}
use Rattle.layout.specs.Pages.{records}
use Rattle.file.specs.Files.{later_pages}
use Rattle.file.proofs.AllRecords.{count_by_pages}
use Rattle.file.proofs.files.ShowFile.count_records.Goals as goal

-- at most 4,096 pages, each with a count of two bytes
pub sum-requires-clause-fits : goal.sum-requires-clause-fits
sum-requires-clause-fits c =
    let first = c.args.self.now.first in
    fits_from_length _ _ 4096 (2 ^ 64)
    (at_most_from_yields_List (YieldsList-from_range 1 first.pages (first.pages - 1) (cc) (cc)) (omega (arith, length-range_with_len 1 (first.pages - 1), first.most)))
    c.map.ensures.closure (omega arith) (λ x r q k. search rules)

pub returns : goal.returns
returns c =
    let f = c.args.self.now in
    sum_by_from_yields_List (λ q. length (records f.first.counter ((file_of f.bytes.now).page q))) (later_pages f.first.pages) c.map.result _ c.sum.ensures.ran
    (YieldsList-from_map _ (λ q. length (records f.first.counter ((file_of f.bytes.now).page q)))
    (YieldsList-from_range 1 f.first.pages (f.first.pages - 1) (cc) (cc)) c.map.ensures.closure (λ x r q k. search rules))
    ∙ count_by_pages f.bytes.now f.first.counter f.first.pages
