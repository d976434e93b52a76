use Rattle.std.proofs.Common.{◌≡◌, ◌≢◌, ◌/◌, ◌^◌, true, false, length, slice_index, ap, sym, ◌∙◌, arith}
use Rattle.std.proofs.lemmas.Result.{err_from_is_err_and}
use Rattle.std.proofs.lemmas.Bool.{eq-eqb, ne_eqb, eqb-false}
use Rattle.std.proofs.lemmas.List.{length-set, length-replicate}
use Rattle.form.specs.Inverses.{read_at}
use Rattle.form.specs.Walks.{read_none, read_more, read_bad, read_all}
use Rattle.form.proofs.walk.read_fields.Goals as goal

pub loop-bit-init : goal.loop-bit-init
loop-bit-init g c =
    let some : length c.args.value.now ≢ 0 = eqb-false (length c.args.value.now) 0 (sym c.if-is_empty.ensures) in
    let named = ap (λ n. slice_index c.args.value.now 0 / 2 ^ n) c.told-fields ∙ c.if-value-top.false in
    (c.told-fields ∙ sym (length-replicate _ _), omega arith, read_none c.args.top c.args.fields.now c.args.value.now (omega arith) named)

pub loop-bit-preserved : goal.loop-bit-preserved
loop-bit-preserved g c =
    let same = c.loop-bit.invariant.0 in
    (same ∙ sym (length-set _ _ _), (read_at _ _ _ _ _ c.loop-bit.invariant.1 c.in_ok-number.ensures).within, sym (read_more _ _ _ c.loop-bit.left _ _ c.loop-bit.values _ same (omega (arith, c.told-fields, c.loop-bit-test.true)) c.in_ok-number.ensures) ∙ c.loop-bit.invariant.2)

pub returns-in_err-number : goal.returns-in_err-number
returns-in_err-number g c =
    let p = err_from_is_err_and c.from_residual.result c.from_residual.ensures.1 in
    rw (p.1, p.2) (sym c.loop-bit.invariant.2 ∙ read_bad c.args.value.now c.args.fields.now c.loop-bit.bit c.loop-bit.left _ _ _ _ (omega (arith, c.told-fields, c.loop-bit-test.true)) c.in_err-number.ensures)

pub returns-then-at-value : goal.returns-then-at-value
returns-then-at-value g c =
    let over : c.loop-bit.at ≢ length c.args.value.now = omega arith in
    sym c.loop-bit.invariant.2 ∙ read_all _ _ _ _ _ c.loop-bit.values false c.loop-bit.invariant.0 (omega (arith, c.told-fields, c.loop-bit-test.false)) (sym (ne_eqb _ _ over))

pub returns : goal.returns
returns g c =
    let end : c.loop-bit.at ≡ length c.args.value.now = omega arith in
    sym c.loop-bit.invariant.2 ∙ read_all _ _ _ _ _ c.loop-bit.values true c.loop-bit.invariant.0 (omega (arith, c.told-fields, c.loop-bit-test.false)) (sym (eq-eqb _ _ end))
