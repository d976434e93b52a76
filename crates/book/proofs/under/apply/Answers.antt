use Rattle.std.proofs.Common.{length}
use Rattle.std.proofs.lemmas.Bool.{le-ltb}
use Rattle.book.proofs.under.apply.Goals as goal

pub returns-in-Put-clause-edits : goal.returns-in-Put-clause-edits
returns-in-Put-clause-edits g c = rw c.in-Put.is c.put.ensures.edits

pub returns-in-Replace-clause-edits : goal.returns-in-Replace-clause-edits
returns-in-Replace-clause-edits g c = rw c.in-Replace.is c.change.ensures.edits

pub returns-in-Remove-clause-edits : goal.returns-in-Remove-clause-edits
returns-in-Remove-clause-edits g c =
    rw (c.in-Remove.is, le-ltb 200 (length c.args.value.now) (c.requires c.in-Remove.is)) c.remove.ensures.edits
