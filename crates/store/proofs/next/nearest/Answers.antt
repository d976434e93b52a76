use Rattle.std.proofs.Common.{arith}
use Rattle.store.specs.Access.{Grants}
use Rattle.store.proofs.NextWays.{page_more, sweep_all, work_more}
use Rattle.store.proofs.Sweeps.{up_to_more}
use Rattle.store.proofs.next.nearest.Goals as goal

pub loop-q-preserved : goal.loop-q-preserved
loop-q-preserved g c =
    let m = g.M.Medium.meaning c.args.medium.now in
    let read = c.in_ok-load.ensures in (
      up_to_more (Grants m) c.loop-q.q c.loop-q.invariant.0 read.0,
      work_more m c.args.work.now c.load.new.work c.loop-q.q (omega arith) read.1,
      page_more m c.args.first c.args.least c.loop-q.q c.loop-q.best c.nearest_on-best.result c.load.new.work (omega arith) read.1 c.loop-q.invariant.2 c.nearest_on-best.ensures,
    )

pub returns : goal.returns
returns g c =
    sweep_all (g.M.Medium.meaning c.args.medium.now) c.args.first c.args.least c.args.work.now c.loop-q.work c.loop-q.q c.loop-q.best
    (omega (arith, c.args.first.least)) c.loop-q.invariant.0 c.loop-q.invariant.1 c.loop-q.invariant.2
