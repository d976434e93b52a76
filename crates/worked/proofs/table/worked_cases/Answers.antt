use Rattle.worked.proofs.Cases.{every_case}
use Rattle.worked.proofs.table.worked_cases.Goals as goal

pub returns : goal.returns
returns c = every_case
