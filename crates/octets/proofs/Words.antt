-- Words of a page byte by byte, and parts of what was put in.
use Rattle.std.proofs.Common.{◌≡◌, ℕ, ◌+◌, ◌*◌, ◌/◌, ◌%◌, ◌<◌, ◌≤◌, List, length, get_or, sym, ap, ◌∙◌, arith}
use Rattle.std.proofs.lemmas.List.{ext_get_or}
use Rattle.octets.specs.Files.{word}
use Rattle.octets.specs.Parts.{part, patched}
use Rattle.octets.proofs.Agreeing.{get_d_part, part_part}
use Rattle.octets.proofs.Patches.{part_patched}

-- byte j of word k is byte 4 k + j of the page
pub byte_word : (page : List ℕ) (k j : ℕ) → j < 4 → get_or (word page k) j 0 ≡ get_or page (4 * k + j) 0
byte_word page k j l = get_d_part page (4 * k) 4 j l

-- pages that agree in the word of a byte agree in the byte
pub word_byte : (a b : List ℕ) (i : ℕ) → word a (i / 4) ≡ word b (i / 4) → get_or a i 0 ≡ get_or b i 0
word_byte a b i e =
    let at : 4 * (i / 4) + i % 4 ≡ i = omega arith in
    let less : i % 4 < 4 = omega arith in
    ap (λ k. get_or a k 0) (sym at) ∙ sym (byte_word a (i / 4) (i % 4) less) ∙ ap (λ w. get_or w (i % 4) 0) e
    ∙ byte_word b (i / 4) (i % 4) less ∙ ap (λ k. get_or b k 0) at

-- pages of n words that agree in each
pub words_same : (n : ℕ) (a b : List ℕ) → length a ≡ 4 * n → length b ≡ 4 * n → ((k : ℕ) → k < n → word a k ≡ word b k) → a ≡ b
words_same n a b long_a long_b each = ext_get_or 0 a b (long_a ∙ sym long_b) (λ i l. word_byte a b i (each (i / 4) (omega arith)))

-- a part of what was put in
pub part_inside : (b y : List ℕ) (s i n : ℕ) → s + length y ≤ length b → i + n ≤ length y → part (patched b s y) (s + i) n ≡ part y i n
part_inside b y s i n fits h = sym (part_part (patched b s y) s (length y) i n h) ∙ ap (λ z. part z i n) (part_patched b y s fits)
