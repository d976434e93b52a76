use Rattle.store.proofs.EndWays.{each_all, each_more}
use Rattle.store.proofs.ends.clear_each.Goals as goal

pub loop-page-preserved : goal.loop-page-preserved
loop-page-preserved g c =
    each_more g.M.Medium.meaning c.args.counter c.loop-page.page-index c.args.pages.now c.args.medium.now c.loop-page.medium c.clear_page.new.medium c.in_ok-clear_page.field-0
    c.loop-page-test.true c.loop-page.invariant c.in_ok-clear_page.ensures

pub returns : goal.returns
returns g c =
    each_all g.M.Medium.meaning c.args.counter c.loop-page.page-index c.args.pages.now c.args.medium.now c.loop-page.medium c.loop-page-test.false c.loop-page.invariant
