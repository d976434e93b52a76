-- Bytes put into those below a medium.
use Rattle.std.specs.Prelude.{ℕ, ◌+◌, ◌-◌, ◌*◌, List, length, fold}
use Rattle.script.specs.declared.script.Poke.{Poke}
use Rattle.octets.specs.Parts.{part, patched}

-- the bytes with new ones in place of those from byte i on, as many of them as there is room for
abbrev pub poked : List ℕ → ℕ → List ℕ → List ℕ
poked bytes i new = patched bytes i (part new 0 (length bytes - i))

-- bytes with pokes put in one after the other
abbrev pub poked_all : List ℕ → List Poke → List ℕ
poked_all bytes pokes = fold (λ b (p : Poke). poked b (p.page * 1024 + p.offset) p.bytes.items) bytes pokes
