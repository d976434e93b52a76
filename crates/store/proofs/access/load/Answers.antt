use Rattle.std.proofs.Common.{arith}
use Rattle.store.proofs.Loading.{loads_is}
use Rattle.store.proofs.access.load.Goals as goal

pub returns : goal.returns
returns g c =
    loads_is (g.M.Medium.meaning c.args.medium.now) c.args.page c.args.work.now c.read.new.out c.read.result c.at.result
    (g.M.Medium.sized c.args.medium.now) (omega arith) c.read.ensures c.at.ensures
