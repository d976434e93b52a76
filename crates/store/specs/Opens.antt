-- What opening a file does.
use Rattle.std.specs.Prelude.{◌≡◌, ℕ, ◌-◌, ◌<◌, ◌≤◌, ◌⊎◌, List, length, Ok, Err, Result, ◌≢◌}
use Rattle.medium.specs.declared.fault.MediumFault.{MediumFault}
use Rattle.medium.specs.Meaning.{Meaning, Settled}
use Rattle.layout.specs.declared.first.FirstPage.{FirstPage}
use Rattle.layout.specs.Sound.{FirstSound, pages_of, counter_of}
use Rattle.store.specs.declared.refusal.Refusal.{Refusal}
use Rattle.store.specs.declared.refusal.Refusal.TheVariants.{WorkPage, PageCount, NotAShowFile, Unsound, Medium, NotOpen, EditOpen, NoEdit, LastCounter, TooLong, TooMany, KeyInDraft, NoSuchKey, DraftFull, NoPlace}
use Rattle.store.specs.declared.refusal.Step.TheVariants.{Settle}
use Rattle.store.specs.declared.state.Opened.{Opened}
use Rattle.store.specs.declared.state.State.{State}
use Rattle.store.specs.declared.state.State.TheVariants.{Shut, Open, Editing}
use Rattle.store.specs.Access.{Grants, ReadDenied}
use Rattle.store.specs.Opening.{Clears, ClearsUntil, SoundOn, later_pages}

-- no edit is open
abbrev pub Idle : State → Type 0
Idle Shut = Unit {0}
Idle (Open first) = Unit {0}
Idle (Editing first) = ⊥

-- whether no edit is open, asked of the state
abbrev pub IdleOr : State → Result (Unit {0}) Refusal → Type 0
IdleOr s (Ok _) = Idle s
IdleOr s (Err e) = (e ≡ EditOpen) × (Idle s → ⊥)

-- a first page that is read, and what it tells
abbrev pub First : Meaning → FirstPage → Type 0
First m first =
    Grants m 0 × FirstSound m.pages (m.shown 0) × (first.pages ≡ pages_of (m.shown 0)) × (first.counter ≡ counter_of (m.shown 0))

-- all pages were read and found sound, and the work page has the last
abbrev pub Checked : Meaning → FirstPage → List ℕ → Type 0
Checked m first work =
    First m first × ((q : ℕ) → 1 ≤ q → q < first.pages → SoundOn m first q) × (work ≡ m.shown (first.pages - 1))

-- the call came as far as the medium: the work page is a page, no edit is open, and there are two pages
abbrev pub Begun : Meaning → State → List ℕ → Type 0
Begun m s work = (length work ≡ 1024) × Idle s × (2 ≤ m.pages)

-- the medium refused: the first page could not be read, or, once all was checked, a number could not be cleared or the
-- medium not settled
abbrev pub OpenStopped : {M : Type 0} → (M → Meaning) → M → M → List ℕ → List ℕ → Refusal → Type 0
OpenStopped {M} meaning a b work new e =
    (ReadDenied (meaning a) 0 e × (b ≡ a) × (new ≡ work))
    ⊎ ((first : FirstPage) × Checked (meaning a) first new
    × (ClearsUntil meaning first.counter (later_pages first.pages) a b e
    ⊎ ((x : M) × ((n : ℕ) × Clears meaning first.counter (later_pages first.pages) a x n)
    × ((f : MediumFault) × (e ≡ Medium Settle 0 f) × Settled (meaning x) (meaning b) (Err f)))))

-- opening: a and b are the medium before and after, s and t the state, work and new the work page
abbrev pub Opens : {M : Type 0} → (M → Meaning) → M → M → State → State → List ℕ → List ℕ → Result Opened Refusal → Type 0
Opens {M} meaning a b s t work new (Ok o) =
    Begun (meaning a) s work
    × ((first : FirstPage) × Checked (meaning a) first new
    × ((x : M) × Clears meaning first.counter (later_pages first.pages) a x o.cleared × Settled (meaning x) (meaning b) (Ok tt))
    × (t ≡ Open first) × (o.counter ≡ first.counter) × (o.pages ≡ first.pages))
Opens meaning a b s t work new (Err WorkPage) = (length work ≢ 1024) × (b ≡ a) × (t ≡ s) × (new ≡ work)
Opens meaning a b s t work new (Err EditOpen) = (length work ≡ 1024) × (Idle s → ⊥) × (b ≡ a) × (t ≡ s) × (new ≡ work)
Opens meaning a b s t work new (Err PageCount) =
    (length work ≡ 1024) × Idle s × ((meaning a).pages < 2) × (b ≡ a) × (t ≡ Shut) × (new ≡ work)
Opens meaning a b s t work new (Err NotAShowFile) =
    Begun (meaning a) s work × Grants (meaning a) 0 × (FirstSound (meaning a).pages ((meaning a).shown 0) → ⊥) × (b ≡ a) × (t ≡ Shut) × (new ≡ (meaning a).shown 0)
Opens meaning a b s t work new (Err (Unsound q)) =
    Begun (meaning a) s work
    × ((first : FirstPage) × First (meaning a) first × (1 ≤ q) × (q < first.pages) × (SoundOn (meaning a) first q → ⊥)
    × ((j : ℕ) → 1 ≤ j → j < q → SoundOn (meaning a) first j))
    × (b ≡ a) × (t ≡ Shut) × (new ≡ (meaning a).shown q)
Opens meaning a b s t work new (Err (Medium step p f)) = Begun (meaning a) s work × OpenStopped meaning a b work new (Medium step p f) × (t ≡ Shut)
Opens meaning a b s t work new (Err NotOpen) = ⊥
Opens meaning a b s t work new (Err NoEdit) = ⊥
Opens meaning a b s t work new (Err LastCounter) = ⊥
Opens meaning a b s t work new (Err TooLong) = ⊥
Opens meaning a b s t work new (Err TooMany) = ⊥
Opens meaning a b s t work new (Err KeyInDraft) = ⊥
Opens meaning a b s t work new (Err NoSuchKey) = ⊥
Opens meaning a b s t work new (Err DraftFull) = ⊥
Opens meaning a b s t work new (Err NoPlace) = ⊥
