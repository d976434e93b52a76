-- Edits: beginning one, and the changes under its slip.
use Rattle.std.specs.Prelude.{◌≡◌, ℕ, ◌+◌, ◌^◌, ◌<◌, ◌≤◌, Bool, true, false, ◌⊎◌, List, [], length, Ok, Err, Result}
use Rattle.medium.specs.declared.fault.MediumFault.{MediumFault}
use Rattle.medium.specs.Meaning.{Meaning, Wrote}
use Rattle.layout.specs.declared.first.FirstPage.{FirstPage}
use Rattle.layout.specs.Pages.{page_of}
use Rattle.draft.specs.declared.refusal.PageRefusal.{PageRefusal}
use Rattle.draft.specs.declared.refusal.PageRefusal.TheVariants.{KeyInDraft as InDraft, NoSuchKey as NoKey, DraftFull as Full, NoPlace as Nowhere}
use Rattle.draft.specs.Images.{ChangedPage, PutPage, RemovedPage}
use Rattle.store.specs.declared.change.Change.{Change}
use Rattle.store.specs.declared.change.Change.TheVariants.{Put, Replace, Remove}
use Rattle.store.specs.declared.refusal.Refusal.{Refusal}
use Rattle.store.specs.declared.refusal.Refusal.TheVariants.{WorkPage, PageCount, NotAShowFile, Unsound, Medium, NotOpen, EditOpen, NoEdit, LastCounter, TooLong, TooMany, KeyInDraft, NoSuchKey, DraftFull, NoPlace}
use Rattle.store.specs.declared.refusal.Step.TheVariants.{Write}
use Rattle.store.specs.declared.slip.Slip.{Slip}
use Rattle.store.specs.declared.state.Edit.{Edit}
use Rattle.store.specs.declared.state.State.{State}
use Rattle.store.specs.declared.state.State.TheVariants.{Shut, Open, Editing}
use Rattle.store.specs.Access.{Grants, Loads}
use Rattle.store.specs.Touches.{added}

-- the pages that an edit has touched
abbrev pub touched_by : Edit → List ℕ
touched_by e = e.touched.pages.items

-- the open edit is the one of this number
abbrev pub Matches : State → ℕ → FirstPage → Type 0
Matches s number first = (s ≡ Editing first) × (number ≡ first.counter + 1)

-- beginning: an edit of the number after the counter, with nothing changed yet
abbrev pub Begins : State → State → Edit → Edit → Result Slip Refusal → Type 0
Begins s t e f (Ok slip) =
    (first : FirstPage) × (s ≡ Open first) × (first.counter + 1 < 2 ^ 32) × (slip.number ≡ first.counter + 1)
    × (t ≡ Editing first) × (f.changes ≡ 0) × (touched_by f ≡ [])
Begins s t e f (Err NotOpen) = (s ≡ Shut) × (t ≡ s) × (f ≡ e)
Begins s t e f (Err EditOpen) = ((first : FirstPage) × (s ≡ Editing first)) × (t ≡ s) × (f ≡ e)
Begins s t e f (Err LastCounter) = ((first : FirstPage) × (s ≡ Open first) × (2 ^ 32 ≤ first.counter + 1)) × (t ≡ s) × (f ≡ e)
Begins s t e f (Err WorkPage) = ⊥
Begins s t e f (Err PageCount) = ⊥
Begins s t e f (Err NotAShowFile) = ⊥
Begins s t e f (Err (Unsound q)) = ⊥
Begins s t e f (Err (Medium step q x)) = ⊥
Begins s t e f (Err NoEdit) = ⊥
Begins s t e f (Err TooLong) = ⊥
Begins s t e f (Err TooMany) = ⊥
Begins s t e f (Err KeyInDraft) = ⊥
Begins s t e f (Err NoSuchKey) = ⊥
Begins s t e f (Err DraftFull) = ⊥
Begins s t e f (Err NoPlace) = ⊥

-- whether a change can be taken up, in the order of the refusals: the work page, the slip, the value's length, the count
abbrev pub Ready : State → ℕ → ℕ → ℕ → Bool → Result FirstPage Refusal → Type 0
Ready s changes size number long (Ok first) = (size ≡ 1024) × Matches s number first × (long ≡ false) × (changes < 64) × (number < 2 ^ 32)
Ready s changes size number long (Err WorkPage) = size ≡ 1024 → ⊥
Ready s changes size number long (Err NoEdit) = (size ≡ 1024) × ((first : FirstPage) → Matches s number first → ⊥)
Ready s changes size number long (Err TooLong) = (size ≡ 1024) × ((first : FirstPage) × Matches s number first) × (long ≡ true)
Ready s changes size number long (Err TooMany) = (size ≡ 1024) × ((first : FirstPage) × Matches s number first) × (long ≡ false) × (64 ≤ changes)
Ready s changes size number long (Err PageCount) = ⊥
Ready s changes size number long (Err NotAShowFile) = ⊥
Ready s changes size number long (Err (Unsound q)) = ⊥
Ready s changes size number long (Err (Medium step q x)) = ⊥
Ready s changes size number long (Err NotOpen) = ⊥
Ready s changes size number long (Err EditOpen) = ⊥
Ready s changes size number long (Err LastCounter) = ⊥
Ready s changes size number long (Err KeyInDraft) = ⊥
Ready s changes size number long (Err NoSuchKey) = ⊥
Ready s changes size number long (Err DraftFull) = ⊥
Ready s changes size number long (Err NoPlace) = ⊥

-- a page's refusal as the store's
abbrev pub passed_up : PageRefusal → Refusal
passed_up InDraft = KeyInDraft
passed_up NoKey = NoSuchKey
passed_up Full = DraftFull
passed_up Nowhere = NoPlace

abbrev pub passed : Result (Unit {0}) PageRefusal → Result (Unit {0}) Refusal
passed (Ok x) = Ok x
passed (Err k) = Err (passed_up k)

-- one change more, on page q
abbrev pub Noted : Edit → Edit → ℕ → Type 0
Noted e f q = (f.changes ≡ e.changes + 1) × (touched_by f ≡ added q (touched_by e))

-- a whole page is offered to the medium: written and noted, or refused
abbrev pub Offers : {M : Type 0} → (M → Meaning) → M → M → Edit → Edit → ℕ → List ℕ → Result (Unit {0}) Refusal → Type 0
Offers meaning a b e f q image (Ok _) = Wrote (meaning a) (meaning b) q 0 image (Ok tt) × Noted e f q
Offers meaning a b e f q image (Err x) =
    ((y : MediumFault) × (x ≡ Medium Write q y) × Wrote (meaning a) (meaning b) q 0 image (Err y)) × (f ≡ e)

-- what a change does to a page: under a counter, from an image to another, or a refusal
abbrev pub PageChange : Type 1
PageChange = ℕ → List ℕ → List ℕ → Result (Unit {0}) PageRefusal → Type 0

-- the change of a key on a page, by its kind; a remove has no value
abbrev pub page_change : Change → ℕ → List ℕ → PageChange
page_change Put key value = λ counter page new x. PutPage counter page new key value x
page_change Replace key value = λ counter page new x. ChangedPage counter page new key value x
page_change Remove key value = λ counter page new x. RemovedPage counter page new key x

-- once the page of the key is read: it is changed and written, or refused by the page or by the medium
abbrev pub Applies : {M : Type 0} → (M → Meaning) → PageChange → ℕ → ℕ → M → M → Edit → Edit → List ℕ → Result (Unit {0}) Refusal → Type 0
Applies meaning change counter q a b e f new (Ok r) =
    Grants (meaning a) q × change counter ((meaning a).shown q) new (Ok tt) × Offers meaning a b e f q new (Ok r)
Applies meaning change counter q a b e f new (Err x) =
    Grants (meaning a) q
    × (((k : PageRefusal) × (x ≡ passed_up k) × change counter ((meaning a).shown q) new (Err k) × (b ≡ a) × (f ≡ e))
    ⊎ (change counter ((meaning a).shown q) new (Ok tt) × Offers meaning a b e f q new (Err x)))

-- a change under a slip, in the order of the refusals
abbrev pub Edits : {M : Type 0} → (M → Meaning) → PageChange → ℕ → ℕ → Bool → M → M → State → Edit → Edit → List ℕ → List ℕ → Result (Unit {0}) Refusal → Type 0
Edits meaning change key number long a b s e f work new (Ok r) =
    (first : FirstPage) × Ready s e.changes (length work) number long (Ok first)
    × Applies meaning change first.counter (page_of first.pages key) a b e f new (Ok r)
Edits meaning change key number long a b s e f work new (Err x) =
    (Ready s e.changes (length work) number long (Err x) × (b ≡ a) × (f ≡ e) × (new ≡ work))
    ⊎ ((first : FirstPage) × Ready s e.changes (length work) number long (Ok first)
    × ((Loads (meaning a) (page_of first.pages key) work new (Err x) × (b ≡ a) × (f ≡ e))
    ⊎ Applies meaning change first.counter (page_of first.pages key) a b e f new (Err x)))
