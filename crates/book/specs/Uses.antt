-- A use: calls one after another on one store, with the slips that were given and a work page.
use Rattle.std.specs.Prelude.{◌≡◌, ℕ, ◌^◌, ◌<◌, ◌⊎◌, List, [], ◌∷◌, ◌++◌, length, Some, None, Ok, Err, vec_items, Option, Result, nat_lt, slice_index_or, slice_set}
use Rattle.medium.specs.Meaning.{Meaning}
use Rattle.form.specs.declared.form.BadByte.{BadByte}
use Rattle.layout.specs.declared.first.FirstPage.{FirstPage}
use Rattle.layout.specs.Pages.{page_of}
use Rattle.store.specs.declared.change.Change.{Change}
use Rattle.store.specs.declared.change.Change.TheVariants.{Put as Putting, Replace as Replacing, Remove as Removing}
use Rattle.store.specs.declared.refusal.Refusal.{Refusal}
use Rattle.store.specs.declared.slip.Slip.{Slip}
use Rattle.store.specs.declared.state.Opened.{Opened}
use Rattle.store.specs.declared.state.Place.{Place}
use Rattle.store.specs.declared.store.Store.{Store}
use Rattle.store.specs.Edits.{Begins, Edits, page_change}
use Rattle.store.specs.Ends.{Abandons, Saves}
use Rattle.store.specs.Looks.{Looks, opened, value_at}
use Rattle.store.specs.Nexts.{Nexts}
use Rattle.store.specs.Opens.{Opens}
use Rattle.book.specs.declared.desk.Desk.{Desk}
use Rattle.book.specs.declared.slips.Slips.{Slips}
use Rattle.book.specs.declared.call.Call.{Call}
use Rattle.book.specs.declared.call.Call.TheVariants.{Open, Begin, Put, Change as ChangeTo, Remove, Look, Next, Save, Abandon, PutForm, ChangeForm, LookForm}
use Rattle.book.specs.declared.call.Denied.{Denied}
use Rattle.book.specs.declared.call.Denied.TheVariants.{NoSlip, Store as ByStore, Form as ByForm, NotOfForm}
use Rattle.book.specs.declared.call.Done.{Done}
use Rattle.book.specs.declared.call.Done.TheVariants.{Opened as HasOpened, Begun, Changed, Looked, Key, Saved, Abandoned, Value}

-- a moment of a use: the store, the slips that were given, in order, each there until it is spent, and the work page
pub record Moment (M : Type 0) : Type 0 where
  pub store : Store M
  pub slips : List (Option Slip)
  pub work : List ℕ

-- the moment of these
abbrev pub moment : {M : Type 0} → Store M → Slips → List ℕ → Moment M
moment store slips work = record { store = store; slips = vec_items slips.given; work = work }

-- the moment at a desk
abbrev pub at_desk : {M : Type 0} → Desk M → Moment M
at_desk desk = moment desk.store.now desk.slips.now desk.work.now

-- a desk is of the same store, slips and work page
pub record SameDesk {M : Type 0} (a b : Desk M) : Type 0 where
  pub store : b.store.ghost_name ≡ a.store.ghost_name
  pub slips : b.slips.ghost_name ≡ a.slips.ghost_name
  pub work : b.work.ghost_name ≡ a.work.ghost_name

-- what a call answers
abbrev pub Answer : Type 0 → Type 0
Answer F = Result (Done F) Denied

-- the store's answer as the use tells it
abbrev pub told : {F T : Type 0} → (T → Done F) → Result T Refusal → Answer F
told done (Ok x) = Ok (done x)
told done (Err e) = Err (ByStore e)

-- and under a form, with the key
abbrev pub told_of : {F T : Type 0} → ℕ → (T → Done F) → Result T Refusal → Answer F
told_of key done (Ok x) = Ok (done x)
told_of key done (Err e) = Err (ByForm key e)

-- the slip that was given as number i, counted from 0, if it is not spent
abbrev pub slip_at : {M : Type 0} → Moment M → ℕ → Option Slip
slip_at a i = slice_index_or a.slips i None

-- no such slip: no call is made
abbrev pub Slipless : {M F : Type 0} → ℕ → Moment M → Moment M → Answer F → Type 0
Slipless i a b r = (slip_at a i ≡ None) × (r ≡ Err NoSlip) × (b ≡ a)

-- a change is made under a slip
abbrev pub MakesEdit : {M : Type 0} → (M → Meaning) → Change → ℕ → List ℕ → Slip → Moment M → Moment M → Result (Unit {0}) Refusal → Type 0
MakesEdit meaning change key value slip a b x =
    (key < 2 ^ 32)
    × Edits meaning (page_change change key value) key slip.number (nat_lt 200 (length value))
    a.store.medium b.store.medium a.store.state a.store.edit b.store.edit a.work b.work x
    × (b.store.state ≡ a.store.state) × (b.slips ≡ a.slips)

-- a change under the slip given as number i, told
abbrev pub Edited : {M F : Type 0} → (M → Meaning) → (Result (Unit {0}) Refusal → Answer F) → ℕ → Change → ℕ → List ℕ → Moment M → Moment M → Answer F → Type 0
Edited meaning tells i change key value a b r =
    Slipless i a b r
    ⊎ ((slip : Slip) × (slip_at a i ≡ Some slip) × ((x : Result (Unit {0}) Refusal) × (r ≡ tells x) × MakesEdit meaning change key value slip a b x))

-- the slip given as number i is spent, and the edit noted stays
abbrev pub Spends : {M : Type 0} → ℕ → Moment M → Moment M → Type 0
Spends i a b = (b.slips ≡ slice_set a.slips i None) × (b.store.edit ≡ a.store.edit) × (b.work ≡ a.work)

-- an accepted begin adds its slip to those given
abbrev pub Gives : {M F : Type 0} → Moment M → Moment M → Result Slip Refusal → Answer F → Type 0
Gives a b (Ok slip) r = (r ≡ Ok (Begun (length a.slips) slip.number)) × (b.slips ≡ a.slips ++ Some slip ∷ [])
Gives a b (Err e) r = (r ≡ Err (ByStore e)) × (b.slips ≡ a.slips)

-- what a look under a form tells of the bytes it found in the work page
abbrev pub Reads : {M F : Type 0} → (List ℕ → Result F BadByte) → ℕ → Moment M → Moment M → Result Place Refusal → Answer F → Type 0
Reads {M} {F} reads key a b (Ok p) r =
    ((v : F) × (reads (value_at b.work p) ≡ Ok v) × (r ≡ Ok (Value v)))
    ⊎ ((bad : BadByte) × (reads (value_at b.work p) ≡ Err bad)
    × ((first : FirstPage) × (opened a.store.state ≡ Some first) × (r ≡ Err (NotOfForm key (page_of first.pages key) bad))))
Reads reads key a b (Err e) r = r ≡ Err (ByForm key e)

-- a look under a form
abbrev pub LooksUnder : {M F : Type 0} → (M → Meaning) → (List ℕ → Result F BadByte) → ℕ → Moment M → Moment M → Answer F → Type 0
LooksUnder meaning reads key a b r =
    (x : Result Place Refusal) × Reads reads key a b x r × Looks (meaning a.store.medium) a.store.state key a.work b.work x

-- nothing but the work page changes
abbrev pub OnlyReads : {M : Type 0} → Moment M → Moment M → Type 0
OnlyReads a b = (b.store ≡ a.store) × (b.slips ≡ a.slips)

-- what a call does from one moment to the next, and what it answers: each as the store's own call promises. `bytes` and `reads`
-- are those of the forms.
abbrev pub Makes : {M F K : Type 0} → (M → Meaning) → (F → List ℕ) → (K → List ℕ → Result F BadByte) → Call F K → Answer F → Moment M → Moment M → Type 0
Makes meaning bytes reads Open r a b =
    (x : Result Opened Refusal) × (r ≡ told HasOpened x)
    × Opens meaning a.store.medium b.store.medium a.store.state b.store.state a.work b.work x
    × (b.store.edit ≡ a.store.edit) × (b.slips ≡ a.slips)
Makes meaning bytes reads Begin r a b =
    (x : Result Slip Refusal) × Gives a b x r × Begins a.store.state b.store.state a.store.edit b.store.edit x
    × (b.store.medium ≡ a.store.medium) × (b.work ≡ a.work)
Makes meaning bytes reads (Put i key value) r a b = Edited meaning (told (λ _. Changed)) i Putting key (vec_items value) a b r
Makes meaning bytes reads (ChangeTo i key value) r a b = Edited meaning (told (λ _. Changed)) i Replacing key (vec_items value) a b r
Makes meaning bytes reads (Remove i key) r a b = Edited meaning (told (λ _. Changed)) i Removing key [] a b r
Makes meaning bytes reads (Look key) r a b =
    (x : Result Place Refusal) × (r ≡ told Looked x) × Looks (meaning a.store.medium) a.store.state key a.work b.work x × OnlyReads a b
Makes meaning bytes reads (Next least) r a b =
    (x : Result ℕ Refusal) × (r ≡ told Key x) × Nexts (meaning a.store.medium) a.store.state least a.work b.work x × OnlyReads a b
Makes meaning bytes reads (Save i) r a b =
    Slipless i a b r
    ⊎ ((slip : Slip) × (slip_at a i ≡ Some slip)
    × ((x : Result (ℕ × ℕ) Refusal) × (r ≡ told (λ p. Saved p.0 p.1) x)
    × Saves meaning slip.number a.store.medium b.store.medium a.store.state b.store.state a.store.edit x × Spends i a b))
Makes meaning bytes reads (Abandon i) r a b =
    Slipless i a b r
    ⊎ ((slip : Slip) × (slip_at a i ≡ Some slip)
    × ((x : Result (Unit {0}) Refusal) × (r ≡ told (λ _. Abandoned) x)
    × Abandons meaning slip.number a.store.medium b.store.medium a.store.state b.store.state a.store.edit x × Spends i a b))
Makes meaning bytes reads (PutForm i key value) r a b = Edited meaning (told_of key (λ _. Changed)) i Putting key (bytes value) a b r
Makes meaning bytes reads (ChangeForm i key value) r a b = Edited meaning (told_of key (λ _. Changed)) i Replacing key (bytes value) a b r
Makes meaning bytes reads (LookForm key kind) r a b =
    (x : Result Place Refusal) × Reads (reads kind) key a b x r × Looks (meaning a.store.medium) a.store.state key a.work b.work x × OnlyReads a b

-- calls made one after the other, each with its answer
abbrev pub Ran : {M F K : Type 0} → (M → Meaning) → (F → List ℕ) → (K → List ℕ → Result F BadByte) → List (Call F K) → List (Answer F) → Moment M → Moment M → Type 0
Ran meaning bytes reads [] [] a b = b ≡ a
Ran meaning bytes reads [] (r ∷ rs) a b = ⊥
Ran meaning bytes reads (c ∷ cs) [] a b = ⊥
Ran {M} meaning bytes reads (c ∷ cs) (r ∷ rs) a b = (x : Moment M) × Makes meaning bytes reads c r a x × Ran meaning bytes reads cs rs x b
