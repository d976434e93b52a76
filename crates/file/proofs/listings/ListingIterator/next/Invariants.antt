use Rattle.std.proofs.Common.{◌≡◌, ◌-◌}
use Rattle.file.specs.Listings.{left}
use Rattle.file.proofs.listings.ListingIterator.next.Given as goal

abbrev pub invariant-loop-record : goal.invariant-loop-record
invariant-loop-record l = left l.self ≡ left l.initial.self

abbrev pub decreases-loop-record : goal.decreases-loop-record
decreases-loop-record l = l.self.file.first.pages - l.self.page
