use Rattle.std.proofs.Common.{◌+◌, sym, ◌∙◌}
use Rattle.layout.specs.Walks.{rest}
use Rattle.file.proofs.AllRecords.{begun, ended}
use Rattle.file.proofs.listings.ListingIterator.next.Goals as goal

pub loop-record-preserved : goal.loop-record-preserved
loop-record-preserved c =
    let l = c.loop-record.self in
    let first = l.file.first in
    begun l.file.bytes.now first.counter first.pages (l.page + 1) (rest c.new-self.result) c.page_at.result.now c.if-page-self.false c.page_at.ensures c.new-self.ensures
    ∙ sym (ended l.page (rest l.records) _ c.in_default.ensures.steps.0) ∙ c.loop-record.invariant
