use Rattle.std.proofs.Common.{rules}
use Rattle.octets.proofs.Patches.{put_mid_patched}
use Rattle.octets.proofs.patch.Goals as goal

pub returns : goal.returns
returns c = search (rules, put_mid_patched)
