use Rattle.std.proofs.lemmas.Result.{err_from_is_err_and}
use Rattle.store.proofs.LayWays.{counted_more, counted_until}
use Rattle.store.proofs.lay.write_each.Goals as goal

pub returns-in_err-at : goal.returns-in_err-at
returns-in_err-at g c =
    let p = err_from_is_err_and c.from_residual.result c.from_residual.ensures.1 in
    rw (p.1, p.2)
    (counted_until g.M.Medium.meaning c.args.image.now c.loop-q.q c.args.medium.now c.loop-q.medium c.write.new.self c.loop-q.invariant
    c.write.result c.at.result c.write.ensures c.at.ensures c.args.pages c.in_err-at.field-0.0 c.loop-q-test.true c.in_err-at.was)

pub loop-q-preserved : goal.loop-q-preserved
loop-q-preserved g c =
    counted_more g.M.Medium.meaning c.args.image.now c.loop-q.q c.args.medium.now c.loop-q.medium c.write.new.self c.loop-q.invariant
    c.write.result c.at.result c.write.ensures c.at.ensures c.in_ok-at.field-0 c.in_ok-at.was
