-- Clearing the numbers of changes that were never saved, on a medium.
use Rattle.std.specs.Prelude.{◌≡◌, ℕ, ◌+◌, Bool, true, false, cond, ◌⊎◌, List, [], ◌∷◌, Some, None, Ok, Err, Option, Result, ◌==◌}
use Rattle.medium.specs.declared.fault.MediumFault.{MediumFault}
use Rattle.medium.specs.Meaning.{Meaning, Wrote}
use Rattle.layout.specs.declared.header.Side.{Side}
use Rattle.layout.specs.declared.header.Side.TheVariants.{A, B}
use Rattle.layout.specs.Pages.{start}
use Rattle.draft.specs.Drafts.{begun_side}
use Rattle.store.specs.declared.refusal.Refusal.{Refusal}
use Rattle.store.specs.declared.refusal.Refusal.TheVariants.{Medium}
use Rattle.store.specs.declared.refusal.Step.TheVariants.{Write}
use Rattle.store.specs.Access.{Grants, ReadDenied}

-- of the numbers of headers A and B, the side of the one that is one more than the counter
abbrev pub begun_by : ℕ → ℕ → ℕ → Option Side
begun_by counter a b = cond (a == counter + 1) (Some A) (cond (b == counter + 1) (Some B) None)

-- a number of zero
abbrev pub zeros : List ℕ
zeros = 0 ∷ 0 ∷ 0 ∷ 0 ∷ []

-- clearing one page: whether a number was put to zero. Both numbers are read, and the one that was begun is overwritten
abbrev pub ClearsPage : {M : Type 0} → (M → Meaning) → ℕ → ℕ → M → M → Result Bool Refusal → Type 0
ClearsPage meaning counter q a b (Ok false) = Grants (meaning a) q × (begun_side counter ((meaning a).shown q) ≡ None) × (b ≡ a)
ClearsPage meaning counter q a b (Ok true) =
    Grants (meaning a) q
    × ((s : Side) × (begun_side counter ((meaning a).shown q) ≡ Some s) × Wrote (meaning a) (meaning b) q (start s) zeros (Ok tt))
ClearsPage meaning counter q a b (Err e) =
    (ReadDenied (meaning a) q e × (b ≡ a))
    ⊎ ((s : Side) × (f : MediumFault) × (begun_side counter ((meaning a).shown q) ≡ Some s) × (e ≡ Medium Write q f) × Wrote (meaning a) (meaning b) q (start s) zeros (Err f))
