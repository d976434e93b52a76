use Rattle.std.proofs.Common.{rules}
use Rattle.octets.proofs.Puts.{patched_none}
use Rattle.std.proofs.lemmas.List.{take_all}
use Rattle.draft.proofs.Headers.{slots_more}
use Rattle.draft.proofs.header.write_slots.Goals as goal

pub loop-k-init : goal.loop-k-init
loop-k-init c = patched_none c.args.page.now c.args.at

pub loop-k-preserved : goal.loop-k-preserved
loop-k-preserved c = search (rules, slots_more)

pub returns : goal.returns
returns c = search (rules, take_all)
