use Rattle.std.proofs.Common.{refl}
use Rattle.worked.proofs.Cases.{every_row}
use Rattle.worked.proofs.table.case_count.Goals as goal

pub returns : goal.returns
returns c = record { places = every_row; count = refl }
