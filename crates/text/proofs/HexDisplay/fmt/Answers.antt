use Rattle.std.proofs.Common.{◌≡◌, ℕ, ◌/◌, ◌%◌, false, List, [], ◌∷◌, get_or, Some, Ok, option_map, subst, refl, ap, ◌∙◌, rules}
use Rattle.std.specs.Fmt.{DisplaysOnOk, styled_digits_output, padded_integral, shown_prefix, radix_prefix}
use Rattle.std.proofs.lemmas.Fmt.{hex_byte}
use Rattle.text.specs.Digits.{hex_digit}
use Rattle.std.proofs.Output.{writes_in_calls_nil, has_written_append, has_written_of_eq}
use Rattle.text.proofs.HexTexts.{digits_more, digits_all}
use Rattle.text.proofs.HexDisplay.fmt.Goals as goal

pub loop-b-init : goal.loop-b-init
loop-b-init g c = λ plain. record { wrote = writes_in_calls_nil g.W.Write.write_str_gives _; plain = plain }

pub loop-b-preserved : goal.loop-b-preserved
loop-b-preserved g c = λ plain.
    let took = g.W.Write.write_str_gives in
    let before = c.loop-b.invariant plain in
    let b : ℕ = get_or c.args.self.now.0.now c.loop-b.b-index 0 in
    let pair : List ℕ = hex_digit (b / 16) ∷ hex_digit (b % 16) ∷ [] in
    let digits : styled_digits_output c.in_radix.result c.laid_out.result ≡ Some pair =
    (λ j. option_map (padded_integral (c.laid_out.ensures j) false (shown_prefix (c.laid_out.ensures j) (radix_prefix c.in_radix.result.base))) (c.in_radix.ensures j)) ∙ ap Some (hex_byte false b (search rules)) in
    let one = subst (λ o. DisplaysOnOk took c.loop-b.f (Ok c.in_ok-write.field-0) o c.write.new.self) digits c.in_ok-write.ensures.writes in
    has_written_of_eq took _ _ _ _ (digits_more c.args.self.now.0.now c.loop-b.b-index c.loop-b-test.true) (has_written_append took _ _ _ _ _ before (one before.plain refl))

pub returns-clause-writes : goal.returns-clause-writes
returns-clause-writes g c = λ plain ok. has_written_of_eq g.W.Write.write_str_gives _ _ _ _ (digits_all _ _ c.if-is_empty.ensures c.loop-b-test.false) (c.loop-b.invariant plain)
