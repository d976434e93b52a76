use Rattle.std.proofs.Common.{get_or, arith, rules}
use Rattle.std.proofs.lemmas.Int.Digits.{number_more}
use Rattle.std.proofs.lemmas.List.{take_all}
use Rattle.octets.proofs.Numbers.{more_lt, more_fits, part_lt}
use Rattle.octets.proofs.number.Goals as goal

pub overflow_mul-n : goal.overflow_mul-n
overflow_mul-n c = omega (arith, more_fits c.args.bytes.now c.part-b-items.result.now c.args.at c.args.width c.loop-b.n 0 c.loop-b.b-index (search rules) c.loop-b-test.true c.loop-b.invariant.1 (omega arith))

pub overflow_add-n : goal.overflow_add-n
overflow_add-n c = omega (arith, more_fits c.args.bytes.now c.part-b-items.result.now c.args.at c.args.width c.loop-b.n (get_or c.part-b-items.result.now c.loop-b.b-index 0) c.loop-b.b-index (search rules) c.loop-b-test.true c.loop-b.invariant.1 (omega arith))

pub loop-b-preserved : goal.loop-b-preserved
loop-b-preserved c = (search (rules, number_more), more_lt c.loop-b.n _ c.loop-b.b-index c.loop-b.invariant.1 (omega arith))

pub returns : goal.returns
returns c = record { value = search (rules, take_all); bound = part_lt c.args.bytes.now c.part-b-items.result.now c.args.at _ c.loop-b.n c.loop-b.b-index (search rules) c.loop-b.auto.b-index-end c.loop-b.invariant.1 }
