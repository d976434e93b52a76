-- Going over the saved keys.
use Rattle.std.specs.Prelude.{◌≡◌, ℕ, ◌-◌, ◌<◌, ◌≤◌, cond, ◌⊎◌, List, length, Some, None, Ok, Err, Option, Result, ◌==◌, ◌≢◌}
use Rattle.medium.specs.Meaning.{Meaning}
use Rattle.layout.specs.declared.first.FirstPage.{FirstPage}
use Rattle.layout.specs.Pages.{Entry}
use Rattle.layout.specs.Walks.{keyed}
use Rattle.store.specs.declared.refusal.Refusal.{Refusal}
use Rattle.store.specs.declared.refusal.Refusal.TheVariants.{NoSuchKey}
use Rattle.store.specs.declared.state.State.{State}
use Rattle.store.specs.Access.{Grants, ReadDenied}
use Rattle.store.specs.Looks.{Readable, saved_on}

-- some page after the first has a saved record of this key
abbrev pub SavedKey : Meaning → FirstPage → ℕ → Type 0
SavedKey m first key = (q : ℕ) × (1 ≤ q) × (q < first.pages) × (saved_on first key (m.shown q) ≢ None)

-- every page after the first can be read, and the work page has the last
abbrev pub ReadsAll : Meaning → FirstPage → List ℕ → Type 0
ReadsAll m first new = ((q : ℕ) → 1 ≤ q → q < first.pages → Grants m q) × (new ≡ m.shown (first.pages - 1))

-- the lowest page that cannot be read; the work page has the one before it, if that is not the first
abbrev pub ReadsUntil : Meaning → FirstPage → List ℕ → List ℕ → Refusal → Type 0
ReadsUntil m first work new e =
    (q : ℕ) × (1 ≤ q) × (q < first.pages) × ReadDenied m q e × ((j : ℕ) → 1 ≤ j → j < q → Grants m j)
    × (new ≡ cond (q == 1) work (m.shown (q - 1)))

-- the least saved key that is not below a given one
abbrev pub Nexts : Meaning → State → ℕ → List ℕ → List ℕ → Result ℕ Refusal → Type 0
Nexts m s least work new (Ok key) =
    (first : FirstPage) × Readable s (length work) (Ok first) × ReadsAll m first new
    × SavedKey m first key × (least ≤ key) × ((k : ℕ) → SavedKey m first k → least ≤ k → key ≤ k)
Nexts m s least work new (Err x) =
    (Readable s (length work) (Err x) × (new ≡ work))
    ⊎ ((first : FirstPage) × Readable s (length work) (Ok first)
    × (ReadsUntil m first work new x
    ⊎ ((x ≡ NoSuchKey) × ReadsAll m first new × ((k : ℕ) → SavedKey m first k → least ≤ k → ⊥))))

-- the least of some numbers, if there are any
abbrev pub Least : (ℕ → Type 0) → Option ℕ → Type 0
Least P None = (k : ℕ) → P k → ⊥
Least P (Some key) = P key × ((k : ℕ) → P k → key ≤ k)

-- a number is the best so far, or a key of some records that is not below a given one
abbrev pub Offered : ℕ → Option ℕ → List Entry → ℕ → Type 0
Offered least best es k = (best ≡ Some k) ⊎ ((keyed k es ≢ None) × (least ≤ k))

-- the least saved key that is not below a given one, if there is one; or a page cannot be read
abbrev pub Sweeps : Meaning → FirstPage → ℕ → List ℕ → List ℕ → Result (Option ℕ) Refusal → Type 0
Sweeps m first least work new (Ok best) = ReadsAll m first new × Least (λ k. SavedKey m first k × (least ≤ k)) best
Sweeps m first least work new (Err e) = ReadsUntil m first work new e
