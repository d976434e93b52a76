-- Bytes written one after another, up to a whole header.
use Rattle.std.proofs.Common.{◌≡◌, ℕ, ◌+◌, ◌-◌, ◌*◌, ◌<◌, ◌≤◌, List, [], ◌∷◌, ◌++◌, length, take, replicate, sym, refl, ap, ◌∙◌, arith, length-append}
use borrow.Rule.Slice.PartMut.{put_mid}
use Rattle.std.specs.List.{flat_map}
use Rattle.std.proofs.lemmas.List.{append-nil, drop_all, flat_map_more, take_more, length-take-le, length-replicate}
use Rattle.octets.specs.Numbers.{spell}
use Rattle.octets.specs.Parts.{patched}
use Rattle.octets.proofs.Patches.{put_mid_patched}
use Rattle.octets.proofs.Puts.{patched_more}
use Rattle.layout.specs.declared.header.Side.{Side}
use Rattle.layout.specs.declared.header.Side.TheVariants.{A, B}
use Rattle.layout.specs.declared.header.Slot.{Slot}
use Rattle.layout.specs.Pages.{start}
use Rattle.layout.specs.Sound.{at}
use Rattle.draft.specs.Images.{record_bytes, slot_bytes, with_header}

-- bytes put right behind others that were put
pub put_more : (xs old new a b : List ℕ) (s k : ℕ) → old ≡ patched xs s a → new ≡ patched old k b → k ≡ s + length a → k ≤ length xs
    → new ≡ patched xs s (a ++ b)
put_more xs old new a b s k p q e h =
    q ∙ ap (λ x. patched x k b) p ∙ ap (λ i. patched (patched xs s a) i b) e ∙ patched_more xs a b s (omega arith)

length_slots : (ss : List Slot) → length (flat_map slot_bytes ss) ≡ 4 * length ss
length_slots [] = refl
length_slots (s ∷ ss) = omega (arith, length-append (slot_bytes s) (flat_map slot_bytes ss), length_slots ss)

-- one slot more
pub slots_more : (xs old new : List ℕ) (ss : List Slot) (s k : ℕ) → k < length ss → s + 4 * length ss ≤ length xs
    → old ≡ patched xs s (flat_map slot_bytes (take k ss)) → new ≡ patched old (s + 4 * k) (slot_bytes (at ss k))
    → new ≡ patched xs s (flat_map slot_bytes (take (k + 1) ss))
slots_more xs old new ss s k l h p q =
    let e : s + 4 * k ≡ s + length (flat_map slot_bytes (take k ss)) = omega (arith, length_slots (take k ss), length-take-le k ss (omega arith)) in
    put_more xs old new (flat_map slot_bytes (take k ss)) (slot_bytes (at ss k)) s (s + 4 * k) p q e (omega arith)
    ∙ ap (patched xs s) (flat_map_more slot_bytes [] (take k ss) (at ss k) ∙ ap (flat_map slot_bytes) (sym (take_more ss k _ l)))

start_le : (side : Side) → start side ≤ 104
start_le A = omega arith
start_le B = omega arith

-- number, count, two zero bytes, slots and zeros are a header
pub header_is : (xs a b c d z : List ℕ) (side : Side) (s number : ℕ) (ss : List Slot) → length xs ≡ 1024 → length ss ≤ 24 → s ≡ start side
    → a ≡ patched xs s (spell 4 number) → b ≡ patched a (s + 4) (spell 2 (length ss)) → c ≡ patched b (s + 6) (0 ∷ 0 ∷ [])
    → d ≡ patched c (s + 8) (flat_map slot_bytes ss) → z ≡ replicate (96 - 4 * length ss) 0
    → put_mid (s + 8 + 4 * length ss) (s + 104 - (s + 8 + 4 * length ss)) d z ≡ with_header xs side number ss
header_is xs a b c d z side s number ss long few e p q r t u =
    let h : s ≤ 104 = omega (arith, start_le side) in
    let n : ℕ = length ss in
    let two : b ≡ patched xs s (spell 4 number ++ spell 2 n) = put_more xs a b (spell 4 number) (spell 2 n) s (s + 4) p q refl (omega arith) in
    let three : c ≡ patched xs s (spell 4 number ++ (spell 2 n ++ 0 ∷ 0 ∷ [])) = put_more xs b c (spell 4 number ++ spell 2 n) (0 ∷ 0 ∷ []) s (s + 6) two r refl (omega arith) in
    let four : d ≡ patched xs s (spell 4 number ++ (spell 2 n ++ 0 ∷ 0 ∷ flat_map slot_bytes ss)) = put_more xs c d (spell 4 number ++ (spell 2 n ++ 0 ∷ 0 ∷ [])) (flat_map slot_bytes ss) s (s + 8) three t refl (omega arith) in
    let long-z : s + 104 - (s + 8 + 4 * n) ≡ length (replicate {A = ℕ} (96 - 4 * n) 0) = omega (arith, length-replicate {A = ℕ} (96 - 4 * n) 0) in
    let at-z : s + 8 + 4 * n ≡ s + length (spell 4 number ++ (spell 2 n ++ 0 ∷ 0 ∷ flat_map slot_bytes ss)) = omega (arith, length_slots ss) in
    put_more xs d (put_mid (s + 8 + 4 * n) (s + 104 - (s + 8 + 4 * n)) d z) (spell 4 number ++ (spell 2 n ++ 0 ∷ 0 ∷ flat_map slot_bytes ss)) (replicate (96 - 4 * n) 0) s (s + 8 + 4 * n)
    four (put_mid_patched (s + 8 + 4 * n) (s + 104 - (s + 8 + 4 * n)) d z (replicate (96 - 4 * n) 0) u long-z) at-z (omega arith)
    ∙ ap (λ i. patched xs i (spell 4 number ++ (spell 2 n ++ 0 ∷ 0 ∷ (flat_map slot_bytes ss ++ replicate (96 - 4 * n) 0)))) e

-- a key and a value over bytes that they fill are a record
pub record_is : (xs old new value : List ℕ) (key : ℕ) → length xs ≡ 4 + length value → old ≡ patched xs 0 (spell 4 key) → new ≡ patched old 4 value
    → new ≡ record_bytes key value
record_is xs old new value key long p q =
    put_more xs old new (spell 4 key) value 0 4 p q refl (omega arith)
    ∙ ap (λ rest. record_bytes key value ++ rest) (drop_all (0 + length (record_bytes key value)) xs (omega arith)) ∙ append-nil (record_bytes key value)
