use Rattle.std.proofs.Common.{◌≡◌, take}
use Rattle.stage.specs.Pokes.{poked_all}
use Rattle.stage.proofs.lend.put_pokes.Given as goal

-- the pokes so far were put
abbrev pub invariant-loop-poke : goal.invariant-loop-poke
invariant-loop-poke l = l.bytes ≡ poked_all l.initial.bytes (take l.poke-index l.pokes)
