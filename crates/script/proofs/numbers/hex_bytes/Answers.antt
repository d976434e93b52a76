use Rattle.std.proofs.Common.{◌≡◌, ◌∙◌, None, [], length, get_or, vec_items, rules}
use Rattle.script.proofs.HexWords.{odd, pair_none, pairs_all, refused}
use Rattle.script.proofs.numbers.hex_bytes.Goals as goal

pub returns-then-not-is_empty : goal.returns-then-not-is_empty
returns-then-not-is_empty c = search (rules, odd)

pub returns-in_err-b : goal.returns-in_err-b
returns-in_err-b c =
    let pairs = c.as_chunks.result.0.now in
    let none : None ≡ c.hex_byte.result = search rules in
    refused c.from_residual.result _ _ c.from_residual.ensures.0
    (pair_none c.args.word.now pairs (vec_items c.loop-high.bytes) (length c.as_chunks.result.1.now) c.loop-high.high-index (get_or pairs c.loop-high.high-index [])
    (search rules) (search rules) (search rules) (search rules) (search rules) (none ∙ c.hex_byte.ensures) c.loop-high.invariant)

pub returns : goal.returns
returns c =
    pairs_all c.args.word.now c.as_chunks.result.0.now (vec_items c.loop-high.bytes) (length c.as_chunks.result.1.now) c.loop-high.high-index
    (search rules) (search rules) (search rules) (search rules) c.loop-high.invariant
