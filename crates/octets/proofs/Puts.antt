-- Bytes put one after another.
use Rattle.std.proofs.Common.{◌≡◌, ℕ, ◌+◌, ◌<◌, ◌≤◌, List, [], ◌∷◌, ◌++◌, length, take, drop, set, sym, ap, ◌∙◌, append_assoc, add-zero, add_assoc, zero-add, one-add, arith, length-append}
use Rattle.std.proofs.lemmas.List.{take-append-drop, take_at, drop_at, drop-drop, length-take-le}
use Rattle.octets.specs.Parts.{patched}

pub patched_none : (xs : List ℕ) (at : ℕ) → xs ≡ patched xs at []
patched_none xs at = rw add-zero (sym (take-append-drop at xs))

pub patched_more : (xs a b : List ℕ) (at : ℕ) → at + length a ≤ length xs → patched (patched xs at a) (at + length a) b ≡ patched xs at (a ++ b)
patched_more xs a b at h =
    let n : ℕ = at + length a in
    let l : length (take at xs ++ a) ≡ n = length-append (take at xs) a ∙ ap (λ k. k + length a) (length-take-le at xs (omega arith)) in
    let split : patched xs at a ≡ (take at xs ++ a) ++ drop n xs = sym (append_assoc (take at xs) a (drop n xs)) in
    let front : take n (patched xs at a) ≡ take at xs ++ a = ap (take n) split ∙ take_at (take at xs ++ a) (drop n xs) n l in
    let rest : drop n (patched xs at a) ≡ drop n xs = ap (drop n) split ∙ drop_at (take at xs ++ a) (drop n xs) n l in
    let back : drop (n + length b) (patched xs at a) ≡ drop (n + length b) xs = sym (drop-drop (length b) n (patched xs at a)) ∙ ap (drop (length b)) rest ∙ drop-drop (length b) n xs in
    rw (front, back, append_assoc (take at xs) a (b ++ drop (n + length b) xs), append_assoc a b (drop (at + length (a ++ b)) xs), length-append a b, add_assoc at (length a) (length b))

-- the first byte set, and the rest put behind it
pub patched_first : (xs ys : List ℕ) (x y : ℕ) → 0 < length xs → x ≡ y → patched (set xs 0 x) 1 ys ≡ patched xs 0 (y ∷ ys)
patched_first [] ys x y h e = absurd (omega arith)
patched_first (z ∷ zs) ys x y h e = rw (one-add, zero-add, e)
