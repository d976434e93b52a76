-- What a medium means, and what reading, writing and settling do to that.
use Rattle.std.specs.Prelude.{◌≡◌, ℕ, ◌+◌, ◌*◌, ◌%◌, ◌<◌, ◌≤◌, Bool, true, false, ◌&&◌, ◌⊎◌, List, length, Ok, Err, Result, ◌==◌, ◌≢◌, nat_le, nat_lt}
use Rattle.octets.specs.Files.{word}
use Rattle.octets.specs.Parts.{part, patched}
use Rattle.medium.specs.declared.fault.MediumFault.{MediumFault}
use Rattle.medium.specs.declared.fault.MediumFault.TheVariants.{BadRun, Stopped}

-- how many pages there are, whether the medium has stopped, what it shows of each page,
-- and what a cut may leave of each word of each page
pub record Meaning : Type 1 where
  pub pages : ℕ
  pub stopped : Bool
  pub shown : ℕ → List ℕ
  pub possible : ℕ → ℕ → List ℕ → Type 0

-- every page has 1,024 bytes
pub record Sized (m : Meaning) : Type 0 where
  pub full : (p : ℕ) → p < m.pages → length (m.shown p) ≡ 1024

-- while the medium runs, each word's shown content is among its possible ones
pub record Shows (m : Meaning) : Type 0 where
  pub shown_possible : m.stopped ≡ false → (p k : ℕ) → p < m.pages → k < 256 → m.possible p k (word (m.shown p) k)

-- a run of n bytes from byte s of page p on is good: the page is there, and it is some whole words inside the page
abbrev pub good : ℕ → ℕ → ℕ → ℕ → Bool
good pages p s n = nat_lt p pages && (nat_lt 0 n && (s % 4 == 0 && (n % 4 == 0 && nat_le (s + n) 1024)))

-- whether a run of n bytes may be read or written: a bad run is refused first, and then every run of a stopped medium
abbrev pub Admits : Meaning → ℕ → ℕ → ℕ → Result (Unit {0}) MediumFault → Type 0
Admits m p s n (Ok _) = (good m.pages p s n ≡ true) × (m.stopped ≡ false)
Admits m p s n (Err BadRun) = good m.pages p s n ≡ false
Admits m p s n (Err Stopped) = (good m.pages p s n ≡ true) × (m.stopped ≡ true)

-- no word may be left otherwise than before
pub record NoGain (m n : Meaning) : Type 0 where
  pub pages : n.pages ≡ m.pages
  pub within : (p k : ℕ) (w : List ℕ) → n.possible p k w → m.possible p k w

-- each word may be left as before, and not otherwise
pub record Frozen (m n : Meaning) : Type 0 where
  pub none : NoGain m n
  pub keeps : (p k : ℕ) (w : List ℕ) → m.possible p k w → n.possible p k w

-- nothing has changed
pub record Same (m n : Meaning) : Type 0 where
  pub frozen : Frozen m n
  pub stopped : n.stopped ≡ m.stopped
  pub shown : (p : ℕ) → n.shown p ≡ m.shown p

-- word k lies in the run of n bytes from byte s on
abbrev pub InRun : ℕ → ℕ → ℕ → Type 0
InRun s n k = (s ≤ 4 * k) × (4 * k < s + n)

-- a word of the run may at most be left as before or as written, and every other word at most as before
pub record Gains (m n : Meaning) (p s : ℕ) (b : List ℕ) : Type 0 where
  pub pages : n.pages ≡ m.pages
  pub within : (q k : ℕ) (w : List ℕ) → n.possible q k w
      → m.possible q k w ⊎ ((q ≡ p) × InRun s (length b) k × (w ≡ word (patched (m.shown p) s b) k))

-- page p is shown with the bytes b from byte s on, and every other page as before
pub record Patches (m n : Meaning) (p s : ℕ) (b : List ℕ) : Type 0 where
  pub gains : Gains m n p s b
  pub here : n.shown p ≡ patched (m.shown p) s b
  pub others : (q : ℕ) → (q ≢ p) → n.shown q ≡ m.shown q

-- a read of as many bytes as `old` has: as shown, or refused with the caller's bytes left alone
abbrev pub Read : Meaning → ℕ → ℕ → List ℕ → List ℕ → Result (Unit {0}) MediumFault → Type 0
Read m p s old new (Ok _) = (good m.pages p s (length old) ≡ true) × (m.stopped ≡ false) × (new ≡ part (m.shown p) s (length old))
Read m p s old new (Err BadRun) = (good m.pages p s (length old) ≡ false) × (new ≡ old)
Read m p s old new (Err Stopped) = (good m.pages p s (length old) ≡ true) × (m.stopped ≡ true) × (new ≡ old)

-- a write: done; a bad run, where nothing changes; or refused by a medium that has stopped, or stops in this very call
abbrev pub Wrote : Meaning → Meaning → ℕ → ℕ → List ℕ → Result (Unit {0}) MediumFault → Type 0
Wrote m n p s b (Ok _) = (good m.pages p s (length b) ≡ true) × (m.stopped ≡ false) × (n.stopped ≡ false) × Patches m n p s b
Wrote m n p s b (Err BadRun) = (good m.pages p s (length b) ≡ false) × Same m n
Wrote m n p s b (Err Stopped) =
    (good m.pages p s (length b) ≡ true) × (n.stopped ≡ true) × Gains m n p s b × (m.stopped ≡ true → Frozen m n)

-- only what is shown may be left
abbrev pub Settles : Meaning → Type 0
Settles m = (p k : ℕ) (w : List ℕ) → m.possible p k w → w ≡ word (m.shown p) k

-- a settle: nothing but what is shown may be left from now on; or refused by a medium that has stopped, or stops in this very call
abbrev pub Settled : Meaning → Meaning → Result (Unit {0}) MediumFault → Type 0
Settled m n (Ok _) =
    (m.stopped ≡ false) × (n.stopped ≡ false) × (n.pages ≡ m.pages) × ((p : ℕ) → n.shown p ≡ m.shown p) × Settles n
Settled m n (Err e) = (e ≡ Stopped) × (n.stopped ≡ true) × NoGain m n × (m.stopped ≡ true → Frozen m n)
