use Rattle.std.proofs.Common.{◌≡◌, map, length}
use Rattle.std.specs.List.{range_with_len}
use Rattle.layout.specs.Pages.{slot_of}
use Rattle.draft.proofs.load.fill.Given as goal

abbrev pub invariant-loop-k : goal.invariant-loop-k
invariant-loop-k l = record { items : l.slots.items ≡ map (slot_of l.page l.header.side) (range_with_len 0 l.k); len : length l.slots.items ≡ l.k }
