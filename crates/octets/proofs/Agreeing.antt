-- Bytes that agree from one place to another have the same part there.
use Rattle.std.proofs.Common.{◌≡◌, ℕ, suc, ◌+◌, ◌<◌, ◌≤◌, List, [], ◌∷◌, map, length, get_or, drop, sym, refl, ap, ◌∙◌, arith, length-drop, length-take}
use Rattle.std.proofs.lemmas.List.{ext_get_or, get_or-take, get_or-drop}
use Rattle.octets.specs.Parts.{part}

-- byte k of a part is byte i + k of the whole
pub get_d_part : (bytes : List ℕ) (i n k : ℕ) → k < n → get_or (part bytes i n) k 0 ≡ get_or bytes (i + k) 0
get_d_part bytes i n k h = get_or-take n (drop i bytes) k 0 h ∙ get_or-drop i bytes k 0

-- parts of two runs of bytes, each from its own place on
pub part_same : (a b : List ℕ) (i j n : ℕ) → length (part a i n) ≡ length (part b j n)
    → ((k : ℕ) → k < n → i + k < length a → get_or a (i + k) 0 ≡ get_or b (j + k) 0) → part a i n ≡ part b j n
part_same a b i j n long same =
    ext_get_or 0 (part a i n) (part b j n) long
    (λ k l. let h : k < n = omega (arith, length-take n (drop i a)) in
    get_d_part a i n k h ∙ same k h (omega (arith, length-take n (drop i a), length-drop i a)) ∙ sym (get_d_part b j n k h))

pub part_agrees : (a b : List ℕ) (i n : ℕ) → length a ≡ length b → ((k : ℕ) → i ≤ k → k < i + n → get_or a k 0 ≡ get_or b k 0) → part a i n ≡ part b i n
part_agrees a b i n long same =
    part_same a b i i n (omega (arith, length-take n (drop i a), length-drop i a, length-take n (drop i b), length-drop i b))
    (λ k l h. same (i + k) (omega arith) (omega arith))

-- two functions that agree at each element of a list
pub map_agrees : {X Y : Type 0} (f g : X → Y) (xs : List X) (d : X) → ((k : ℕ) → k < length xs → f (get_or xs k d) ≡ g (get_or xs k d)) → map f xs ≡ map g xs
map_agrees f g [] d same = refl
map_agrees f g (x ∷ xs) d same =
    let here : f x ≡ g x = same 0 (omega arith) in
    let after : map f xs ≡ map g xs = map_agrees f g xs d (λ k l. same (suc k) (omega arith)) in
    λ i. here i ∷ after i

-- a part of a part
pub part_part : (b : List ℕ) (i n j m : ℕ) → j + m ≤ n → part (part b i n) j m ≡ part b (i + j) m
part_part b i n j m h =
    part_same (part b i n) b j (i + j) m
    (omega (arith, length-take m (drop j (part b i n)), length-drop j (part b i n), length-take n (drop i b), length-drop i b, length-take m (drop (i + j) b), length-drop (i + j) b))
    (λ k l inside. get_d_part b i n (j + k) (omega arith) ∙ ap (λ x. get_or b x 0) (omega arith))
