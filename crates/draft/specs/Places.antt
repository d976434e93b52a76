-- Free bytes, and the place of a record.
use Rattle.std.specs.Prelude.{ℕ, ◌+◌, ◌<◌, ◌≤◌, Bool, ◌&&◌, List, length, Some, None, Option, nat_lt}
use Rattle.layout.specs.declared.header.Slot.{Slot}
use Rattle.layout.specs.Held.{Covers}
use Rattle.layout.specs.Sound.{at}

-- no slot covers byte k
abbrev pub Free : List Slot → ℕ → Type 0
Free ss k = (j : ℕ) → j < length ss → Covers (at ss j) k → ⊥

-- n bytes from offset p on lie in the content, and each is free
abbrev pub Room : List Slot → ℕ → ℕ → Type 0
Room ss n p = (208 ≤ p) × (p + n ≤ 1024) × ((k : ℕ) → p ≤ k → k < p + n → Free ss k)

-- the highest offset at which there is room for n bytes beside some slots; none if there is no such offset
abbrev pub Highest : List Slot → ℕ → Option ℕ → Type 0
Highest ss n None = (p : ℕ) → Room ss n p → ⊥
Highest ss n (Some p) = Room ss n p × ((q : ℕ) → p < q → Room ss n q → ⊥)

-- whether a slot covers one of the n bytes from offset p on
abbrev pub in_way : ℕ → ℕ → Slot → Bool
in_way p n s = nat_lt 0 s.length && nat_lt s.offset (p + n) && nat_lt p (s.offset + s.length)
