use Rattle.std.proofs.Common.{◌≡◌, ◌+◌, ◌-◌, length, take, drop, ap, ◌∙◌, arith, rules, length-drop}
use Rattle.std.proofs.lemmas.List.{take_all}
use Rattle.std.proofs.lemmas.List.Edits.{take-paste}
use Rattle.std.proofs.Math.Seq.{paste}
use Rattle.arrayvec.proofs.ArrayVecLemmas.{items-with_items}
use Rattle.layer.proofs.held.drop_first.Goals as goal

pub returns : goal.returns
returns g c =
    let all = c.as_mut_slice.result.now in
    let left = c.len-len.result - c.args.n in
    let long : length all ≡ c.len-len.result = search rules in
    let same : left ≡ 0 + left = omega arith in
    let rest : length (drop c.args.n all) ≡ left = omega (arith, length-drop c.args.n all) in
    c.truncate.ensures.items
    ∙ ap (take left) (items-with_items c.args.held.now c.copy_within.new.self (search rules) ∙ c.copy_within.ensures.after)
    ∙ ap (λ k. take k (paste all 0 (drop c.args.n all) left)) same ∙ take-paste all 0 (drop c.args.n all) left (omega arith) (omega arith)
    ∙ take_all left (drop c.args.n all) (omega arith) ∙ ap (drop c.args.n) c.as_mut_slice.ensures.value
