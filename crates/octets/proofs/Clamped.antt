-- A part whose bounds are brought inside the bytes is the same part.
use Rattle.std.proofs.Common.{◌≡◌, ℕ, ◌+◌, ◌-◌, min, List, length, take, drop, ap, ◌∙◌, arith, length-drop}
use Rattle.std.proofs.lemmas.List.{drop_min, take_min}
use Rattle.octets.specs.Parts.{part}

pub part_within : (bytes : List ℕ) (i n j m : ℕ) → j ≡ min i (length bytes) → m ≡ min n (length bytes - j) → take (j + m - j) (drop j bytes) ≡ part bytes i n
part_within bytes i n j m e f =
    let s : j + m - j ≡ min n (length (drop j bytes)) = omega (arith, length-drop j bytes) in
    ap (λ k. take k (drop j bytes)) s ∙ take_min n (drop j bytes) ∙ ap (λ k. take n (drop k bytes)) e ∙ ap (take n) (drop_min i bytes)
