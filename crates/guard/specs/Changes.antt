-- What a change does to a page's draft, and what saving it gives.
use Rattle.std.specs.Prelude.{◌≡◌, ℕ, ◌+◌, ◌^◌, ◌<◌, ◌≤◌, cond, ◌⊎◌, List, length, Some, None, Ok, Option, ◌==◌}
use Rattle.std.specs.Option.{option_map}
use Rattle.layout.specs.Pages.{Entry, page_of, records}
use Rattle.layout.specs.Sound.{Fits}
use Rattle.layout.specs.Walks.{keyed}
use Rattle.draft.specs.Drafts.{begun_side, draft_records, slots_on, target}
use Rattle.draft.specs.Images.{PutPage, ChangedPage, RemovedPage}
use Rattle.guard.specs.Guard.{Base, Near}
use Rattle.guard.specs.Clears.{cleared}

-- the value of a key in some records
abbrev pub value_in : List Entry → ℕ → Option (List ℕ)
value_in es key = option_map (λ e. e.value) (keyed key es)

-- a page of an open edit: near its base, with at most one header begun, the one to be written over, and a draft that fits
pub record Drafted (counter pages q : ℕ) (base page : List ℕ) : Type 0 where
  pub base_fits : Base counter pages q base
  pub near : Near counter base page
  pub begun : (begun_side counter page ≡ None) ⊎ (begun_side counter page ≡ Some (target counter base))
  pub fits : Fits pages q page (slots_on counter page (begun_side counter page))

-- a page at which no change was made yet is a page of the edit, and its draft is what is saved
abbrev pub Begins : Type 0
Begins = (counter pages q : ℕ) (base : List ℕ) → Base counter pages q base
    → Drafted counter pages q base base × (draft_records counter base ≡ records counter base)

-- after a change the page is still one of the edit, its header is begun, and the draft has changed at that key and no other
abbrev pub Changes : ℕ → ℕ → ℕ → List ℕ → List ℕ → List ℕ → ℕ → Option (List ℕ) → Type 0
Changes counter pages q base page new key value =
    Drafted counter pages q base new × (begun_side counter new ≡ Some (target counter base))
    × ((k : ℕ) → value_in (draft_records counter new) k ≡ cond (k == key) value (value_in (draft_records counter page) k))

-- a put gives the draft the key with its value
abbrev pub Puts : Type 0
Puts = (counter pages q : ℕ) (base page new : List ℕ) (key : ℕ) (value : List ℕ)
    → counter + 1 < 2 ^ 32 → key < 2 ^ 32 → length value ≤ 200 → page_of pages key ≡ q → Drafted counter pages q base page
    → PutPage counter page new key value (Ok tt) → Changes counter pages q base page new key (Some value)

-- a change gives the key another value
abbrev pub Replaces : Type 0
Replaces = (counter pages q : ℕ) (base page new : List ℕ) (key : ℕ) (value : List ℕ)
    → counter + 1 < 2 ^ 32 → key < 2 ^ 32 → length value ≤ 200 → page_of pages key ≡ q → Drafted counter pages q base page
    → ChangedPage counter page new key value (Ok tt) → Changes counter pages q base page new key (Some value)

-- a remove takes the key out of the draft
abbrev pub Removes : Type 0
Removes = (counter pages q : ℕ) (base page new : List ℕ) (key : ℕ)
    → counter + 1 < 2 ^ 32 → Drafted counter pages q base page
    → RemovedPage counter page new key (Ok tt) → Changes counter pages q base page new key None

-- clearing a page of the edit takes its draft back
abbrev pub TakesBack : Type 0
TakesBack = (counter pages q : ℕ) (base page : List ℕ) → Drafted counter pages q base page
    → Drafted counter pages q base (cleared counter page) × (begun_side counter (cleared counter page) ≡ None)

-- and the draft is what was saved, then
abbrev pub TakesDraftBack : Type 0
TakesDraftBack = (counter pages q : ℕ) (base page : List ℕ) → Drafted counter pages q base page
    → draft_records counter (cleared counter page) ≡ records counter base

-- with the counter one more, a page of the edit is one at which the next edit can begin, and its records are the draft's
abbrev pub Saves : Type 0
Saves = (counter pages q : ℕ) (base page : List ℕ) → Drafted counter pages q base page
    → Base (counter + 1) pages q page × (records (counter + 1) page ≡ draft_records counter page)
