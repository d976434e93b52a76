-- Pages that agree in the bytes of a header, or of a record, read the same there.
use Rattle.std.proofs.Common.{◌≡◌, ℕ, ◌+◌, ◌*◌, ◌<◌, ◌≤◌, List, length, get_or, drop, ap, arith}
use Rattle.octets.specs.Numbers.{big}
use Rattle.octets.specs.Parts.{part}
use Rattle.octets.proofs.Agreeing.{part_agrees}
use Rattle.layout.specs.declared.header.Side.{Side}
use Rattle.layout.specs.declared.header.Slot.{Slot}
use Rattle.layout.specs.Pages.{start, number_of, count_of, offset_of, length_of, slot_of, header_of, key_of, value_of, entry_of}
use Rattle.layout.specs.Held.{InHeader, Covers}

module _ (a b : List ℕ) (s : Side) (long : length b ≡ length a) (same : (k : ℕ) → InHeader s k → get_or b k 0 ≡ get_or a k 0) where
  header_part : (i n : ℕ) → start s ≤ i → i + n ≤ start s + 104 → part b i n ≡ part a i n
  header_part i n low high = part_agrees b a i n long (λ k l h. same k (omega arith, omega arith))

  pub number_same : number_of b s ≡ number_of a s
  unfolding number_of
  number_same = ap big (header_part (start s) 4 (omega arith) (omega arith))

  pub count_same : count_of b s ≡ count_of a s
  unfolding count_of
  count_same = ap big (header_part (start s + 4) 2 (omega arith) (omega arith))

  pub header_same : header_of b s ≡ header_of a s
  header_same = λ i. record { side = s; number = number_same i; count = count_same i }

  offset_same : (k : ℕ) → k < 24 → offset_of b s k ≡ offset_of a s k
  unfolding offset_of
  offset_same k h = ap big (header_part (start s + 8 + 4 * k) 2 (omega arith) (omega arith))

  length_same : (k : ℕ) → k < 24 → length_of b s k ≡ length_of a s k
  unfolding length_of
  length_same k h = ap big (header_part (start s + 8 + 4 * k + 2) 2 (omega arith) (omega arith))

  pub slot_same : (k : ℕ) → k < 24 → slot_of b s k ≡ slot_of a s k
  slot_same k h = let p = offset_same k h in let q = length_same k h in λ i. record { offset = p i; length = q i }

module _ (a b : List ℕ) (s : Slot) (long : length b ≡ length a) (same : (k : ℕ) → Covers s k → get_or b k 0 ≡ get_or a k 0) where
  record_part : part b s.offset s.length ≡ part a s.offset s.length
  record_part = part_agrees b a s.offset s.length long (λ k l h. same k (l, h))

  pub key_same : key_of b s ≡ key_of a s
  unfolding key_of
  key_same = ap (λ p. big (part p 0 4)) record_part

  pub value_same : value_of b s ≡ value_of a s
  unfolding value_of
  value_same = ap (drop 4) record_part

  pub entry_same : entry_of b s ≡ entry_of a s
  entry_same = λ i. record { key = key_same i; slot = s; value = value_same i }
