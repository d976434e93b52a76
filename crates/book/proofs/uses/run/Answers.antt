use Rattle.std.proofs.Common.{vec_items, arith, rules}
use Rattle.std.proofs.lemmas.List.{take_all}
use Rattle.book.specs.Uses.{at_desk}
use Rattle.book.proofs.Running.{ran_more}
use Rattle.book.proofs.Securing.{ran_secure}
use Rattle.book.proofs.uses.run.Goals as goal

pub loop-call-preserved : goal.loop-call-preserved
loop-call-preserved g c = record {
  ran = rw c.push_reserved.ensures.items
      (ran_more g.M.Medium.meaning g.F.Forms.bytes g.F.Forms.reads c.args.calls.now c.loop-call.call-index c.call-item.result
      (vec_items c.loop-call.answers) c.make.result _ (at_desk c.loop-call.desk) (at_desk c.make.new.self)
      c.loop-call-test.true c.call-item.is c.loop-call.invariant.ran c.make.ensures.makes);
  slips = omega (arith, c.loop-call.invariant.slips, c.make.ensures.room.0, c.make.ensures.room.1, c.loop-call-test.true);
  answers = omega (arith, c.loop-call.invariant.answers, c.push_reserved.ensures.len, c.push_reserved.ensures.capacity, c.loop-call-test.true);
  same = search rules;
}

pub returns-clause-secure : goal.returns-clause-secure
returns-clause-secure g c =
    let all = take_all c.loop-call.call-index c.args.calls.now (omega (arith, c.loop-call-test.false)) in
    let ran = rw all at c.loop-call.invariant.ran in
    ran_secure g.M.Medium.meaning g.M.Medium.sized g.F.Forms.kind g.F.Forms.bytes g.F.Forms.reads g.met.F.Forms.there
    c.args.calls.now (vec_items c.loop-call.answers) _ _ (search (rules, ran))
