use Rattle.std.proofs.Common.{◌≡◌, Some, refl, arith}
use Rattle.store.proofs.store.Store.ready.Goals as goal

pub returns-then-long : goal.returns-then-long
returns-then-long g c =
    let n : c.editing.result ≡ Some c.in_ok-first.first = grind arith in
    (refl, (c.in_ok-first.first, rw n at c.editing.ensures), c.if-long.true)

pub returns-then-self-ge64 : goal.returns-then-self-ge64
returns-then-self-ge64 g c =
    let n : c.editing.result ≡ Some c.in_ok-first.first = grind arith in
    (refl, (c.in_ok-first.first, rw n at c.editing.ensures), c.if-long.false, c.if-self-ge64.true)
