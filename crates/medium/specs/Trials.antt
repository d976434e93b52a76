-- The trial medium: bytes as a medium that stops in a chosen call.
use Rattle.std.specs.Prelude.{◌≡◌, ℕ, ◌+◌, ◌-◌, ◌*◌, ◌/◌, ◌%◌, ◌^◌, ◌<◌, ◌≤◌, Bool, true, false, cond, ◌⊎◌, List, length, Ok, Err, Result, ◌==◌, ◌≢◌, slice_index}
use Rattle.octets.specs.Files.{file_of}
use Rattle.octets.specs.Parts.{patched}
use Rattle.medium.specs.declared.fault.MediumFault.{MediumFault}
use Rattle.medium.specs.declared.fault.MediumFault.TheVariants.{BadRun, Stopped}
use Rattle.medium.specs.declared.trial.Trial.{Trial}
use Rattle.medium.specs.Meaning.{good}

-- bit k modulo 64 of a pattern stands, bit 0 the lowest
abbrev pub stands : ℕ → ℕ → Bool
stands pattern k = pattern / 2 ^ (k % 64) % 2 == 1

-- bytes in which, of the run y from `start` on, just the words have been put whose bit stands: word k of the run, counted
-- from 0, by bit k
pub record Partly (pattern start : ℕ) (y old new : List ℕ) : Type 0 where
  pub long : length new ≡ length old
  pub inside : (k : ℕ) → k < length y → slice_index new (start + k) ≡ cond (stands pattern (k / 4)) (slice_index y k) (slice_index old (start + k))
  pub beside : (k : ℕ) → (k < start) ⊎ (start + length y ≤ k) → slice_index new k ≡ slice_index old k

-- nothing of a trial medium has changed
abbrev pub Unchanged : Trial → Trial → Type 0
Unchanged t u = (u.bytes.now ≡ t.bytes.now) × (u.left ≡ t.left) × (u.pattern ≡ t.pattern) × (u.stopped ≡ t.stopped)

-- one call is counted: those left before it stops, 0 for never
abbrev pub Counted : Trial → Trial → Type 0
Counted t u = (t.stopped ≡ false) × (t.left ≢ 1) × (u.stopped ≡ false) × (u.left ≡ t.left - 1) × (u.pattern ≡ t.pattern)

-- the call in which it stops
abbrev pub StopsNow : Trial → Trial → Type 0
StopsNow t u = (t.stopped ≡ false) × (t.left ≡ 1) × (u.stopped ≡ true)

-- once a call has stopped it, it counts no more, and keeps its pattern
abbrev pub CountsNoMore : Trial → Trial → Type 0
CountsNoMore t u = t.stopped ≡ false → u.stopped ≡ true → (u.left ≡ 0) × (u.pattern ≡ t.pattern)

-- exactly what a write does
abbrev pub TrialWrote : Trial → Trial → ℕ → ℕ → List ℕ → Result (Unit {0}) MediumFault → Type 0
TrialWrote t u p s y (Ok _) =
    (good (file_of t.bytes.now).count p s (length y) ≡ true) × Counted t u × (u.bytes.now ≡ patched t.bytes.now (p * 1024 + s) y)
TrialWrote t u p s y (Err BadRun) = (good (file_of t.bytes.now).count p s (length y) ≡ false) × Unchanged t u
TrialWrote t u p s y (Err Stopped) =
    (good (file_of t.bytes.now).count p s (length y) ≡ true)
    × (((t.stopped ≡ true) × Unchanged t u) ⊎ (StopsNow t u × Partly t.pattern (p * 1024 + s) y t.bytes.now u.bytes.now))

-- exactly what a settle does: no byte changes
abbrev pub TrialSettled : Trial → Trial → Result (Unit {0}) MediumFault → Type 0
TrialSettled t u (Ok _) = Counted t u × (u.bytes.now ≡ t.bytes.now)
TrialSettled t u (Err e) =
    (e ≡ Stopped) × (((t.stopped ≡ true) × Unchanged t u) ⊎ (StopsNow t u × (u.bytes.now ≡ t.bytes.now)))

-- exactly what a cut does: it runs again and never stops, and no byte changes
abbrev pub TrialCuts : Trial → Trial → Type 0
TrialCuts t u = (u.bytes.now ≡ t.bytes.now) × (u.left ≡ 0) × (u.pattern ≡ t.pattern) × (u.stopped ≡ false)
