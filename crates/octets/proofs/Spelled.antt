-- A part of bytes, and the number that it spells.
use Rattle.std.proofs.Common.{◌≡◌, ℕ, ◌+◌, ◌<◌, ◌≤◌, List, ◌++◌, length, drop, sym, ap, ◌∙◌, arith, length-drop, length-take}
use Rattle.std.proofs.lemmas.List.{take-append-drop, length-take-le, drop-drop, get_or-take, get_or-drop}
use Rattle.octets.specs.Parts.{part, Bytes}
use Rattle.octets.specs.Numbers.{big, spell}
use Rattle.octets.proofs.Numbers.{spell_big}

pub part_bytes : (b : List ℕ) (at n : ℕ) → Bytes b → Bytes (part b at n)
part_bytes b at n h k l =
    let less : k < n = omega (arith, length-take n (drop at b)) in
    rw (get_or-take, get_or-drop) (h (at + k) (omega (arith, length-take n (drop at b), length-drop at b)))

-- the number that a part spells, spelled in front of what follows the part, gives the bytes from there on
pub part_spelled : (b : List ℕ) (at n : ℕ) → at + n ≤ length b → Bytes b → spell n (big (part b at n)) ++ drop (at + n) b ≡ drop at b
part_spelled b at n h bytes =
    let long : length (part b at n) ≡ n = length-take-le n (drop at b) (omega (arith, length-drop at b)) in
    let whole : spell n (big (part b at n)) ≡ part b at n = ap (λ k. spell k (big (part b at n))) (sym long) ∙ spell_big (part b at n) (part_bytes b at n bytes) in
    ap (λ xs. xs ++ drop (at + n) b) whole ∙ ap (λ xs. part b at n ++ xs) (sym (drop-drop n at b)) ∙ take-append-drop n (drop at b)
