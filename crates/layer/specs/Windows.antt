-- Some pages of a medium, as a medium of their own.
use Rattle.std.specs.Prelude.{◌≡◌, ℕ, ◌+◌, ◌-◌, min, true, false, List, length, Ok, Err, Result}
use Rattle.std.proofs.Common.{arith}
use Rattle.std.specs.Borrow.{MutBor}
use Rattle.medium.specs.declared.fault.MediumFault.{MediumFault}
use Rattle.medium.specs.declared.fault.MediumFault.TheVariants.{BadRun}
use Rattle.medium.specs.Cuts.{CutMedium}
use Rattle.medium.specs.Meaning.{Meaning, Sized, Shows, Wrote, good}
use Rattle.layer.specs.declared.window.Window.{Window}

-- the pages from page `first` on, as many as asked for and there are
abbrev pub windowed : Meaning → ℕ → ℕ → Meaning
windowed m first count = record {
  pages = min count (m.pages - first);
  stopped = m.stopped;
  shown = λ p. m.shown (first + p);
  possible = λ p k w. m.possible (first + p) k w;
}

-- every page of them has 1,024 bytes
pub windowed_sized : (m : Meaning) (first count : ℕ) → Sized m → Sized (windowed m first count)
windowed_sized m first count h = record { full = λ p l. h.full (first + p) (omega arith) }

-- what is shown of them may be left, while the medium runs
pub windowed_shows : (m : Meaning) (first count : ℕ) → Shows m → Shows (windowed m first count)
windowed_shows m first count h = record { shown_possible = λ runs p k l less. h.shown_possible runs (first + p) k (omega arith) less }

-- a window onto a medium, with what that medium means
abbrev pub seen : {M : Type 0} → (M → Meaning) → Window M → Meaning
seen meaning w = windowed (meaning w.medium) w.first w.count

-- the page below on which a run of n bytes lies, from byte s of page p of such a window on; a bad run lies on none
abbrev pub LiesBelow : Meaning → ℕ → ℕ → ℕ → ℕ → Result ℕ MediumFault → Type 0
LiesBelow m first p s n (Ok q) = (good m.pages p s n ≡ true) × (q ≡ first + p)
LiesBelow m first p s n (Err e) = (good m.pages p s n ≡ false) × (e ≡ BadRun)

-- the window lies where it lay
pub record SamePlace {M : Type 0} (v w : Window M) : Type 0 where
  pub first : w.first ≡ v.first
  pub count : w.count ≡ v.count

-- what a write through a window does below: a good run is written to page first + page at the same byte, with the same
-- answer, and a bad run changes nothing
pub record PassedOn {M : Type 0} (meaning : M → Meaning) (v w : Window M) (page at : ℕ) (bytes : List ℕ) (r : Result (Unit {0}) MediumFault) : Type 0 where
  pub place : SamePlace v w
  pub good_run : good (seen meaning v).pages page at (length bytes) ≡ true → Wrote (meaning v.medium) (meaning w.medium) (v.first + page) at bytes r
  pub bad_run : good (seen meaning v).pages page at (length bytes) ≡ false → w.medium ≡ v.medium

-- exactly what a cut of a window does: the medium below is cut, as that medium is, and the window lies where it lay
pub record WindowCuts {M : Type 0} (meaning : M → Meaning) (cuts : M → M → Type 0) (v w : Window M) : Type 0 where
  pub place : SamePlace v w
  pub below : CutMedium (meaning v.medium) (meaning w.medium)
  pub exactly : cuts v.medium w.medium

-- what is run through a window, with a state lent to it: it was given a window that lies so, and below what it left is what
-- is there now
abbrev pub Through : {M S R : Type 0} → (Window M → MutBor S → Window M × R → MutBor S → Type 0) → ℕ → ℕ → M → S → M × R → S → Type 0
Through {M} {S} ran first count m s (n, r) t =
    (v : Window M) × (w : Window M) × (x : MutBor S) × (y : MutBor S) × (v.medium ≡ m) × (v.first ≡ first) × (v.count ≡ count)
    × (w.medium ≡ n) × (x.now ≡ s) × (y.now ≡ t) × ran v x (w, r) y
