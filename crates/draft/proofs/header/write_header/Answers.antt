use Rattle.std.proofs.Common.{rules}
use Rattle.draft.proofs.Headers.{header_is}
use Rattle.draft.proofs.header.write_header.Goals as goal

pub returns : goal.returns
returns c = search (rules, header_is)
