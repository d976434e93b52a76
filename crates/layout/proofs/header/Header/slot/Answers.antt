use Rattle.std.proofs.Common.{rules}
use Rattle.layout.specs.Pages.{number_of, count_of, offset_of, length_of}
use Rattle.layout.proofs.header.Header.slot.Goals as goal

pub returns : goal.returns
unfolding number_of count_of offset_of length_of
returns c = search rules
