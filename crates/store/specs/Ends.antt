-- The two ends of an edit: saving it and abandoning it.
use Rattle.std.specs.Prelude.{◌≡◌, ℕ, ◌⊎◌, Ok, Err, Result}
use Rattle.octets.specs.Numbers.{spell}
use Rattle.medium.specs.declared.fault.MediumFault.{MediumFault}
use Rattle.medium.specs.Meaning.{Meaning, Settled, Wrote}
use Rattle.layout.specs.declared.first.FirstPage.{FirstPage}
use Rattle.store.specs.declared.refusal.Refusal.{Refusal}
use Rattle.store.specs.declared.refusal.Refusal.TheVariants.{Medium, NoEdit}
use Rattle.store.specs.declared.refusal.Step.TheVariants.{Settle, Write}
use Rattle.store.specs.declared.state.Edit.{Edit}
use Rattle.store.specs.declared.state.State.{State}
use Rattle.store.specs.declared.state.State.TheVariants.{Open, Shut}
use Rattle.store.specs.Edits.{Matches, touched_by}
use Rattle.store.specs.Opening.{Clears, ClearsUntil}

-- the open edit is not of this number
abbrev pub Unmatched : State → ℕ → Type 0
Unmatched s number = (first : FirstPage) → Matches s number first → ⊥

-- spending a slip of this number: the edit is the open one, and the store is shut; or it is not, and nothing changes
abbrev pub SpendsOr : ℕ → State → State → Result FirstPage Refusal → Type 0
SpendsOr number s t (Ok first) = Matches s number first × (t ≡ Shut)
SpendsOr number s t (Err x) = (x ≡ NoEdit) × Unmatched s number × (t ≡ s)

-- a settle, or the medium's refusal of it
abbrev pub SettlesOr : Meaning → Meaning → Result (Unit {0}) Refusal → Type 0
SettlesOr m n (Ok _) = Settled m n (Ok tt)
SettlesOr m n (Err e) = (f : MediumFault) × (e ≡ Medium Settle 0 f) × Settled m n (Err f)

-- a write of the counter, or the medium's refusal of it
abbrev pub CountsOr : ℕ → Meaning → Meaning → Result (Unit {0}) Refusal → Type 0
CountsOr number m n (Ok _) = Wrote m n 0 8 (spell 4 number) (Ok tt)
CountsOr number m n (Err e) = (f : MediumFault) × (e ≡ Medium Write 0 f) × Wrote m n 0 8 (spell 4 number) (Err f)

-- the counter is written between two settles: all done, or refused in one of the three
abbrev pub Commits : {M : Type 0} → (M → Meaning) → ℕ → M → M → Result (Unit {0}) Refusal → Type 0
Commits {M} meaning number a b (Ok _) =
    (x : M) × (y : M) × Settled (meaning a) (meaning x) (Ok tt) × Wrote (meaning x) (meaning y) 0 8 (spell 4 number) (Ok tt) × Settled (meaning y) (meaning b) (Ok tt)
Commits {M} meaning number a b (Err e) =
    ((f : MediumFault) × (e ≡ Medium Settle 0 f) × Settled (meaning a) (meaning b) (Err f))
    ⊎ (((x : M) × Settled (meaning a) (meaning x) (Ok tt) × ((f : MediumFault) × (e ≡ Medium Write 0 f) × Wrote (meaning x) (meaning b) 0 8 (spell 4 number) (Err f)))
    ⊎ ((x : M) × (y : M) × Settled (meaning a) (meaning x) (Ok tt) × Wrote (meaning x) (meaning y) 0 8 (spell 4 number) (Ok tt)
    × ((f : MediumFault) × (e ≡ Medium Settle 0 f) × Settled (meaning y) (meaning b) (Err f))))

-- saving: the new counter and the number of changes, or refused; refused by the medium, the store is shut
abbrev pub Saves : {M : Type 0} → (M → Meaning) → ℕ → M → M → State → State → Edit → Result (ℕ × ℕ) Refusal → Type 0
Saves meaning number a b s t e (Ok r) =
    ((first : FirstPage) × Matches s number first
    × ((now : FirstPage) × (t ≡ Open now) × (now.pages ≡ first.pages) × (now.counter ≡ number)))
    × Commits meaning number a b (Ok tt) × (r.0 ≡ number) × (r.1 ≡ e.changes)
Saves meaning number a b s t e (Err x) =
    ((x ≡ NoEdit) × Unmatched s number × (b ≡ a) × (t ≡ s))
    ⊎ (((first : FirstPage) × Matches s number first) × Commits meaning number a b (Err x) × (t ≡ Shut))

-- abandoning: the touched pages are cleared, in order; refused by the medium, the store is shut
abbrev pub Abandons : {M : Type 0} → (M → Meaning) → ℕ → M → M → State → State → Edit → Result (Unit {0}) Refusal → Type 0
Abandons meaning number a b s t e (Ok _) =
    (first : FirstPage) × Matches s number first × (t ≡ Open first) × ((n : ℕ) × Clears meaning first.counter (touched_by e) a b n)
Abandons meaning number a b s t e (Err x) =
    ((x ≡ NoEdit) × Unmatched s number × (b ≡ a) × (t ≡ s))
    ⊎ ((first : FirstPage) × Matches s number first × (t ≡ Shut) × ClearsUntil meaning first.counter (touched_by e) a b x)
