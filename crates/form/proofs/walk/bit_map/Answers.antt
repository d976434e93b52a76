use Rattle.std.proofs.Common.{ap, ◌∙◌, arith}
use Rattle.std.proofs.lemmas.Iterator.Adapters.{YieldsList-from_rev_slice}
use Rattle.std.proofs.lemmas.Iterator.Consumers.{YieldsList-turn}
use mir.Val.{bool_byte}
use Rattle.form.specs.BitMaps.{bit_map_turn}
use Rattle.form.proofs.walk.bit_map.Goals as goal

pub overflow_mul-map : goal.overflow_mul-map
overflow_mul-map g c =
    let t = YieldsList-turn (YieldsList-from_rev_slice c.args.values.now cc) c.loop-value.yielded _ c.loop-value.yielded_by _ _ c.in-Some.value c.in-Some.is c.next.ensures.steps in
    omega (arith, (bit_map_turn c.args.top g.row.N c.args.values.now _ c.loop-value.map c.in-Some.value.now c.requires c.told-values t c.loop-value.invariant.2).0)

pub overflow_add-map : goal.overflow_add-map
overflow_add-map g c =
    let t = YieldsList-turn (YieldsList-from_rev_slice c.args.values.now cc) c.loop-value.yielded _ c.loop-value.yielded_by _ _ c.in-Some.value c.in-Some.is c.next.ensures.steps in
    let more = bit_map_turn c.args.top g.row.N c.args.values.now _ c.loop-value.map c.in-Some.value.now c.requires c.told-values t c.loop-value.invariant.2 in
    omega (arith, more.0, c.from.ensures ∙ ap bool_byte c.is_some.ensures)
