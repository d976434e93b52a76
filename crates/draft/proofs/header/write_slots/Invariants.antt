use Rattle.std.proofs.Common.{◌≡◌, take}
use Rattle.std.specs.List.{flat_map}
use Rattle.octets.specs.Parts.{patched}
use Rattle.draft.specs.Images.{slot_bytes}
use Rattle.draft.proofs.header.write_slots.Given as goal

abbrev pub invariant-loop-k : goal.invariant-loop-k
invariant-loop-k l = l.page ≡ patched l.initial.page l.at (flat_map slot_bytes (take l.k l.slots))
