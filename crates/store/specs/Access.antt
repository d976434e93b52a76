-- What a medium grants and denies, page by page.
use Rattle.std.specs.Prelude.{◌≡◌, ℕ, ◌<◌, ◌≤◌, true, false, List, Ok, Err, Result}
use Rattle.medium.specs.declared.fault.MediumFault.{MediumFault}
use Rattle.medium.specs.declared.fault.MediumFault.TheVariants.{BadRun, Stopped}
use Rattle.medium.specs.Meaning.{Meaning}
use Rattle.layout.specs.declared.header.Side.{Side}
use Rattle.layout.specs.Pages.{number_of}
use Rattle.store.specs.declared.refusal.Refusal.{Refusal}
use Rattle.store.specs.declared.refusal.Refusal.TheVariants.{Medium}
use Rattle.store.specs.declared.refusal.Step.TheVariants.{Read}

-- page q can be read: it is there, and the medium runs
abbrev pub Grants : Meaning → ℕ → Type 0
Grants m q = (q < m.pages) × (m.stopped ≡ false)

-- page q cannot be read, and so the medium says: it is not there, or the medium has stopped
abbrev pub Denies : Meaning → ℕ → MediumFault → Type 0
Denies m q BadRun = m.pages ≤ q
Denies m q Stopped = (q < m.pages) × (m.stopped ≡ true)

-- a refusal by the medium of a read of page q
abbrev pub ReadDenied : Meaning → ℕ → Refusal → Type 0
ReadDenied m q e = (f : MediumFault) × (e ≡ Medium Read q f) × Denies m q f

-- page q as a whole, or refused with the caller's bytes left alone
abbrev pub Loads : Meaning → ℕ → List ℕ → List ℕ → Result (Unit {0}) Refusal → Type 0
Loads m q old new (Ok _) = Grants m q × (new ≡ m.shown q)
Loads m q old new (Err e) = ReadDenied m q e × (new ≡ old)

-- an edit number of page q
abbrev pub ReadsNumber : Meaning → ℕ → Side → Result ℕ Refusal → Type 0
ReadsNumber m q s (Ok n) = Grants m q × (n ≡ number_of (m.shown q) s)
ReadsNumber m q s (Err e) = ReadDenied m q e
