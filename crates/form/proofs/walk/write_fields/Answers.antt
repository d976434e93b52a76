use Rattle.std.proofs.Common.{◌∙◌, arith, rules}
use Rattle.std.proofs.lemmas.Slice.Zip.{zip_turn, zip_end}
use Rattle.std.proofs.lemmas.List.{length_push}
use Rattle.octets.proofs.Puts.{patched_first}
use Rattle.form.specs.Fields.{fields_bytes}
use Rattle.form.specs.BitMaps.{few}
use Rattle.form.specs.Walks.{put_more, put_all}
use Rattle.form.proofs.walk.write_fields.Goals as goal

pub write_field-at-requires : goal.write_field-at-requires
write_field-at-requires g c =
    let t = zip_turn c.args.fields.now c.args.values.now c.loop-field.yielded _ _ c.next.new.self _ (cc) (cc) c.loop-field.yielded_by _ c.in-Some.is c.next.ensures.steps in
    omega (arith, few c.args.top g.row.N c.requires, t.1)

pub loop-field-preserved : goal.loop-field-preserved
loop-field-preserved g c =
    let t = zip_turn c.args.fields.now c.args.values.now c.loop-field.yielded _ _ c.next.new.self _ (cc) (cc) c.loop-field.yielded_by _ c.in-Some.is c.next.ensures.steps in
    let p = put_more c.args.fields.now c.args.values.now _ c.loop-field.at c.write_field-at.result c.loop-field.out c.write_field-at.new.out _ _ t (omega (arith, few c.args.top g.row.N c.requires, t.1)) c.write_field-at.ensures.end c.write_field-at.ensures.after in
    rw (length_push c.loop-field.yielded (c.in-Some.field, c.in-Some.value))
    (((tt, tt), tt, omega arith, c.write_field-at.array_long, p.1 ∙ c.loop-field.invariant.4, p.2 ∙ c.loop-field.invariant.5))

pub returns : goal.returns
returns g c =
    let t = zip_end c.args.fields.now c.args.values.now c.loop-field.yielded _ _ c.next.new.self _ (cc) (cc) c.loop-field.yielded_by c.in-None.is c.next.ensures.steps in
    let p = put_all c.args.fields.now c.args.values.now _ c.loop-field.at _ c.loop-field.out _ (omega arith) (omega arith) c.loop-field.invariant.4 c.loop-field.invariant.5 in
    record { count = omega arith; after = p.1 ∙ patched_first c.args.out.now (fields_bytes c.args.fields.now c.args.values.now) _ _ (search rules) c.bit_map.ensures }
