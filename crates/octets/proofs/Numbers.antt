-- Numbers and the bytes that spell them: each gives the other back.
use Rattle.std.proofs.Common.{◌≡◌, ℕ, zero, suc, ◌+◌, ◌*◌, ◌/◌, ◌%◌, ◌^◌, ◌<◌, ◌≤◌, List, [], ◌∷◌, ◌++◌, length, get_or, take, drop, sym, refl, ap, ◌∙◌, ⊎_elim, lt_of_lt_of_le, mod-lt, div-lt_iff_lt-mul, pow-suc, div-add-mod', add-one, arith, lit<, length-take}
use native.Mathlib.Nat.{pow-le-pow_right}
use lib.Arith.{digits_lt, digits_div, digits_mod}
use Rattle.std.proofs.lemmas.Int.Digits.{number_push}
use Rattle.std.proofs.lemmas.List.{length_push, take_more, take_all, get_or-take, get_or_push, get_or_append_left, length-take-le}
use Rattle.std.proofs.lemmas.Bool.{cases_lt}
use Rattle.octets.specs.declared.Width.{Width}
use Rattle.octets.specs.declared.Width.TheVariants.{One, Two, Four}
use Rattle.octets.specs.Numbers.{size, big, spell}
use Rattle.octets.specs.Parts.{part, Bytes}

pub size_le : (w : Width) → size w ≤ 4
size_le One = omega arith
size_le Two = omega arith
size_le Four = omega arith

pub part_le : (bytes : List ℕ) (i n : ℕ) → length (part bytes i n) ≤ n
part_le bytes i n = omega (arith, length-take n (drop i bytes))

-- one byte more
pub more_lt : (n b i : ℕ) → n < 256 ^ i → b < 256 → n * 256 + b < 256 ^ (i + 1)
more_lt n b i h k = rw (add-one, pow-suc 256 i) (digits_lt h k)

wider_lt : (n i j : ℕ) → n < 256 ^ i → i ≤ j → n < 256 ^ j
wider_lt n i j h k = lt_of_lt_of_le h (pow-le-pow_right {n = 256} (lit< tt) k)

-- what at most a part's bytes spell fits the part's width
pub part_lt : (bytes items : List ℕ) (at k n i : ℕ) → items ≡ part bytes at k → i ≤ length items → n < 256 ^ i → n < 256 ^ k
part_lt bytes items at k n i e l h = wider_lt n i k h (omega (arith, ap length e, part_le bytes at k))

-- with one of at most four bytes added, a number fits 32 bits
pub more_fits : (bytes items : List ℕ) (at : ℕ) (w : Width) (n b i : ℕ) → items ≡ part bytes at (size w) → i < length items → n < 256 ^ i → b < 256 → n * 256 + b < 2 ^ 32
more_fits bytes items at w n b i e l h k =
    wider_lt (n * 256 + b) (i + 1) 4 (more_lt n b i h k) (omega (arith, ap length e, part_le bytes at (size w), size_le w))

pub length_spell : (k n : ℕ) → length (spell k n) ≡ k
length_spell zero n = refl
length_spell (suc k) n = length_push (spell k (n / 256)) (n % 256) ∙ add-one (length (spell k (n / 256))) ∙ ap suc (length_spell k (n / 256))

pub big_spell : (k n : ℕ) → n < 256 ^ k → big (spell k n) ≡ n
big_spell zero n h = omega arith
big_spell (suc k) n h =
    let low : n / 256 < 256 ^ k = (div-lt_iff_lt-mul {k = 256} {x = n} {y = 256 ^ k} (lit< tt)).1 (rw pow-suc at h) in
    number_push 256 (spell k (n / 256)) (n % 256) ∙ ap (λ m. m * 256 + n % 256) (big_spell k (n / 256) low) ∙ div-add-mod' n 256

push_bytes : (xs : List ℕ) (y : ℕ) → Bytes xs → y < 256 → Bytes (xs ++ y ∷ [])
push_bytes xs y h l k within =
    ⊎_elim (λ (lt : k < length xs). rw get_or_append_left (h k lt))
    (λ (ge : length xs ≤ k).
    let e : length xs ≡ k = omega (arith, length_push xs y) in
    rw (get_or_push xs y 0 k e) l)
    (cases_lt k (length xs))

pub spell_bytes : (k n : ℕ) → Bytes (spell k n)
spell_bytes zero n i h = omega arith
spell_bytes (suc k) n i h = push_bytes (spell k (n / 256)) (n % 256) (spell_bytes k (n / 256)) (mod-lt n (lit< tt)) i h

spell_whole : (k : ℕ) (bytes : List ℕ) → length bytes ≡ k → Bytes bytes → spell k (big bytes) ≡ bytes
spell_whole zero [] e h = refl
spell_whole zero (x ∷ xs) e h = let z : suc (length xs) ≡ 0 = e in absurd (omega arith)
spell_whole (suc k) bytes e h =
    let within : k < length bytes = omega arith in
    let split : bytes ≡ take k bytes ++ get_or bytes k 0 ∷ [] = sym (take_all (k + 1) bytes (omega arith)) ∙ take_more bytes k 0 within in
    let is : big bytes ≡ big (take k bytes) * 256 + get_or bytes k 0 = ap big split ∙ number_push 256 (take k bytes) (get_or bytes k 0) in
    let last : get_or bytes k 0 < 256 = h k within in
    let q : big bytes / 256 ≡ big (take k bytes) = ap (λ n. n / 256) is ∙ digits_div (big (take k bytes)) last in
    let r : big bytes % 256 ≡ get_or bytes k 0 = ap (λ n. n % 256) is ∙ digits_mod (big (take k bytes)) last in
    let long : length (take k bytes) ≡ k = length-take-le k bytes (omega arith) in
    let front : Bytes (take k bytes) = λ i l. let less : i < k = omega arith in rw get_or-take (h i (omega arith)) in
    ap (λ n. spell k n ++ big bytes % 256 ∷ []) q ∙ ap (λ xs. xs ++ big bytes % 256 ∷ []) (spell_whole k (take k bytes) long front)
    ∙ ap (λ x. take k bytes ++ x ∷ []) r ∙ sym split

pub spell_big : (bytes : List ℕ) → Bytes bytes → spell (length bytes) (big bytes) ≡ bytes
spell_big bytes h = spell_whole (length bytes) bytes refl h

-- four bytes as `u32::from_be_bytes` has them
pub big_four : (bytes : List ℕ) → 4 ≤ length bytes
    → get_or bytes 0 0 * 16777216 + get_or bytes 1 0 * 65536 + get_or bytes 2 0 * 256 + get_or bytes 3 0 ≡ big (part bytes 0 4)
big_four [] h = absurd (omega arith)
big_four (a ∷ []) h = absurd (omega arith)
big_four (a ∷ b ∷ []) h = absurd (omega arith)
big_four (a ∷ b ∷ c ∷ []) h = absurd (omega arith)
big_four (a ∷ b ∷ c ∷ d ∷ rest) h = omega arith
