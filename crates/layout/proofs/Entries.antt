-- Records taken apart.
use Rattle.std.proofs.Common.{◌≡◌, ℕ, List, drop, ap, ◌∙◌}
use Rattle.octets.specs.Numbers.{big}
use Rattle.octets.specs.Parts.{part}
use Rattle.layout.specs.declared.header.Slot.{Slot}
use Rattle.layout.specs.Pages.{Entry, entry_of, key_of, value_of}

pub entry_is : (page b v : List ℕ) (s : Slot) (k : ℕ) → b ≡ part page s.offset s.length → k ≡ big (part b 0 4) → v ≡ drop 4 b
    → ◌≡◌ {A = Entry} (record { key = k; slot = s; value = v }) (entry_of page s)
unfolding key_of value_of
entry_is page b v s k e p q =
    let p' : k ≡ key_of page s = p ∙ ap (λ x. big (part x 0 4)) e in
    let q' : v ≡ value_of page s = q ∙ ap (drop 4) e in
    λ i. record { key = p' i; slot = s; value = q' i }
