use Rattle.std.proofs.Common.{rules}
use Rattle.octets.proofs.Puts.{patched_none}
use Rattle.form.proofs.walk.write_field.Goals as goal

pub returns-in-None : goal.returns-in-None
returns-in-None c = search (rules, patched_none)
