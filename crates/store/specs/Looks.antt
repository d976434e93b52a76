-- Looking at saved records.
use Rattle.std.specs.Prelude.{◌≡◌, ℕ, ◌+◌, ◌-◌, cond, ◌⊎◌, List, [], length, Some, None, Ok, Err, Option, Result, ◌≢◌, nat_le}
use Rattle.octets.specs.Parts.{part}
use Rattle.medium.specs.Meaning.{Meaning}
use Rattle.layout.specs.declared.first.FirstPage.{FirstPage}
use Rattle.layout.specs.Pages.{Entry, page_of, records}
use Rattle.layout.specs.Walks.{keyed}
use Rattle.store.specs.declared.refusal.Refusal.{Refusal}
use Rattle.store.specs.declared.refusal.Refusal.TheVariants.{WorkPage, NoSuchKey, NotOpen}
use Rattle.store.specs.declared.state.Place.{Place}
use Rattle.store.specs.declared.state.State.{State}
use Rattle.store.specs.declared.state.State.TheVariants.{Shut, Open, Editing}
use Rattle.store.specs.Access.{Grants, Loads}

-- what the first page told, if the store is opened
abbrev pub opened : State → Option FirstPage
opened Shut = None
opened (Open first) = Some first
opened (Editing first) = Some first

-- whether a read can be taken up: the work page, then the state
abbrev pub Readable : State → ℕ → Result FirstPage Refusal → Type 0
Readable s size (Ok first) = (size ≡ 1024) × (opened s ≡ Some first)
Readable s size (Err e) = ((e ≡ WorkPage) × (size ≢ 1024)) ⊎ ((e ≡ NotOpen) × (size ≡ 1024) × (opened s ≡ None))

-- the saved record of a key on a page
abbrev pub saved_on : FirstPage → ℕ → List ℕ → Option Entry
saved_on first key page = keyed key (records first.counter page)

-- looking: where the value of the saved record lies in the work page, which has the key's page
abbrev pub Looks : Meaning → State → ℕ → List ℕ → List ℕ → Result Place Refusal → Type 0
Looks m s key work new (Ok p) =
    (first : FirstPage) × Readable s (length work) (Ok first) × Grants m (page_of first.pages key) × (new ≡ m.shown (page_of first.pages key))
    × ((e : Entry) × (saved_on first key (m.shown (page_of first.pages key)) ≡ Some e) × (p.at ≡ e.slot.offset + 4) × (p.length ≡ e.slot.length - 4))
Looks m s key work new (Err x) =
    (Readable s (length work) (Err x) × (new ≡ work))
    ⊎ ((first : FirstPage) × Readable s (length work) (Ok first)
    × (Loads m (page_of first.pages key) work new (Err x)
    ⊎ (Grants m (page_of first.pages key) × (new ≡ m.shown (page_of first.pages key)) × (x ≡ NoSuchKey)
    × (saved_on first key (m.shown (page_of first.pages key)) ≡ None))))

-- looking, and the page of the key beside the place
abbrev pub Finds : Meaning → State → ℕ → List ℕ → List ℕ → Result (ℕ × Place) Refusal → Type 0
Finds m s key work new (Ok r) = Looks m s key work new (Ok r.1) × ((first : FirstPage) × (opened s ≡ Some first) × (r.0 ≡ page_of first.pages key))
Finds m s key work new (Err x) = Looks m s key work new (Err x)

-- the part of some bytes at a place; none if it passes their end
abbrev pub value_at : List ℕ → Place → List ℕ
value_at bytes p = cond (nat_le (p.at + p.length) (length bytes)) (part bytes p.at p.length) []
