-- No cut betrays a use: what the book is fed, and what every cut then leaves.
use Rattle.std.specs.Prelude.{◌≡◌, ℕ, ◌<◌, true, false, ◌⊎◌, List, [], ◌∷◌, length, Some, None, Ok, Err, vec_items, Option, Result}
use Rattle.std.specs.List.{AllByRecursion}
use Rattle.octets.specs.Files.{File}
use Rattle.medium.specs.declared.fault.MediumFault.{MediumFault}
use Rattle.medium.specs.declared.fault.MediumFault.TheVariants.{Stopped}
use Rattle.medium.specs.Cuts.{CutFile, CutMedium, shown_file}
use Rattle.medium.specs.Meaning.{Meaning}
use Rattle.form.specs.declared.form.BadByte.{BadByte}
use Rattle.store.specs.declared.refusal.Refusal.{Refusal}
use Rattle.store.specs.declared.refusal.Refusal.TheVariants.{Medium}
use Rattle.store.specs.declared.refusal.Step.{Step}
use Rattle.store.specs.declared.state.Opened.{Opened}
use Rattle.store.specs.declared.state.State.{State}
use Rattle.store.specs.declared.state.State.TheVariants.{Shut}
use Rattle.store.specs.Edits.{touched_by}
use Rattle.store.specs.Opens.{Opens}
use Rattle.book.specs.declared.call.Call.{Call}
use Rattle.book.specs.declared.call.Call.TheVariants.{Open, Begin, Put, Change as ChangeTo, Remove, Look, Next, Save, Abandon, PutForm, ChangeForm, LookForm}
use Rattle.book.specs.declared.call.Denied.TheVariants.{NoSlip, Store as ByStore, Form as ByForm, NotOfForm}
use Rattle.book.specs.declared.call.Done.TheVariants.{Value}
use Rattle.book.specs.Books.{Book, Faithful, Says, Values, doubted, opening, with}
use Rattle.book.specs.Keeps.{Found, Keeps}
use Rattle.book.specs.Uses.{Answer, Makes, Moment}

-- an accepted call changes the book, and a refused one does not
abbrev pub if_taken : {F : Type 0} → Answer F → Book → Book → Book
if_taken (Ok done) changed before = changed
if_taken (Err denied) changed before = before

-- the draft with a value, or none, for a key
abbrev pub drafted : Book → ℕ → Option (List ℕ) → Book
drafted k key value = record { saved = k.saved; draft = with k.draft key value; either = k.either }

-- a save copies the draft to what is saved; refused by the medium, it may have
abbrev pub after_save : {F : Type 0} → Book → Answer F → Book
after_save k (Ok done) = record { saved = k.draft; draft = k.draft; either = k.either }
after_save k (Err NoSlip) = k
after_save k (Err (ByStore e)) = doubted k e
after_save k (Err (ByForm key e)) = k
after_save k (Err (NotOfForm key page bad)) = k

-- the book is fed a call and its answer, and nothing else
abbrev pub fed : {F K : Type 0} → (F → List ℕ) → Book → Call F K → Answer F → Book
fed bytes k Open r = k
fed bytes k Begin r = if_taken r (record { saved = k.saved; draft = k.saved; either = k.either }) k
fed bytes k (Put i key value) r = if_taken r (drafted k key (Some (vec_items value))) k
fed bytes k (ChangeTo i key value) r = if_taken r (drafted k key (Some (vec_items value))) k
fed bytes k (Remove i key) r = if_taken r (drafted k key None) k
fed bytes k (Look key) r = k
fed bytes k (Next least) r = k
fed bytes k (Save i) r = after_save k r
fed bytes k (Abandon i) r = k
fed bytes k (PutForm i key value) r = if_taken r (drafted k key (Some (bytes value))) k
fed bytes k (ChangeForm i key value) r = if_taken r (drafted k key (Some (bytes value))) k
fed bytes k (LookForm key kind) r = k

-- and so call by call
abbrev pub fed_all : {F K : Type 0} → (F → List ℕ) → Book → List (Call F K) → List (Answer F) → Book
fed_all bytes k [] rs = k
fed_all bytes k (c ∷ cs) [] = k
fed_all bytes k (c ∷ cs) (r ∷ rs) = fed_all bytes (fed bytes k c r) cs rs

-- at this moment the store keeps to the book
abbrev pub Kept : {M : Type 0} → (M → Meaning) → Moment M → Book → Type 0
Kept meaning a k = Keeps (meaning a.store.medium) a.store.state (touched_by a.store.edit) k

-- a use begins: the store is shut, on a sound file at rest that says these values
abbrev pub UseBegins : {M : Type 0} → (M → Meaning) → Moment M → Values → Type 0
UseBegins meaning a v = (a.store.state ≡ Shut) × Found (meaning a.store.medium) v

-- whatever a cut leaves of the medium at this moment is sound and says what the book has saved (after a save that the medium
-- refused, that or the draft, whole)
abbrev pub Survives : {M : Type 0} → (M → Meaning) → Moment M → Book → Type 0
Survives meaning b k = (f : File) → CutFile (meaning b.store.medium) f → Faithful k f

-- a medium as a cut leaves it, opened: the store shut on n answers an opening with acceptance, and then the medium is o and the
-- state t
abbrev pub Reopens : {M : Type 0} → (M → Meaning) → M → M → State → Type 0
Reopens meaning n o t = (work : List ℕ) × (new : List ℕ) × (x : Opened) × Opens meaning n o Shut t work new (Ok x)

-- an opening changes no byte and a cut in it or after it leaves the same bytes, if before it was an accepted opening and then a
-- cut, with no call between: a was opened to b, n is what a cut left of b, and n is opened to o, accepted or not
abbrev pub OpensAlike : {M : Type 0} → (M → Meaning) → Type 0
OpensAlike {M} meaning = (a b n o : M) (s t u : State) (touched work new page again : List ℕ) (x : Opened) (r : Result Opened Refusal) (k : Book)
    → Keeps (meaning a) s touched k → Opens meaning a b s t work new (Ok x) → CutMedium (meaning b) (meaning n) → Opens meaning n o Shut u page again r
    → ((f : File) → CutFile (meaning o) f → (p : ℕ) → p < (meaning n).pages → f.page p ≡ (meaning n).shown p)
    × ((meaning o).stopped ≡ false → (p : ℕ) → p < (meaning n).pages → (meaning o).shown p ≡ (meaning n).shown p)

-- what is left after a cut is read under its forms: of the values that the book says (or, in doubt, of the draft's, whole), each
-- that is the bytes of a form's value v is read, under the form of v, as v, on a medium opened after the cut that has not stopped
abbrev pub ReadsForms : {M F K : Type 0} → (M → Meaning) → (F → K) → (F → List ℕ) → (K → List ℕ → Result F BadByte) → M → Book → Type 0
ReadsForms {M} {F} meaning kind bytes reads m k =
    (n o : M) (t : State) → CutMedium (meaning m) (meaning n) → Reopens meaning n o t
    → (v : Values) × ((v ≡ k.saved) ⊎ ((k.either ≡ true) × (v ≡ k.draft))) × Says (shown_file (meaning n)) v
    × ((a b : Moment M) (key : ℕ) (value : F) (r : Answer F) → a.store.medium ≡ o → a.store.state ≡ t → (meaning o).stopped ≡ false
    → length a.work ≡ 1024 → v key ≡ Some (bytes value)
    → Makes meaning bytes reads (LookForm key (kind value)) r a b → r ≡ Ok (Value value))

-- where a call is refused because the medium refused (5), the medium refused as stopped, and not for a bad run
abbrev pub AsStopped : {F : Type 0} → Answer F → Type 0
AsStopped r = (step : Step) (page : ℕ) (fault : MediumFault)
    → (r ≡ Err (ByStore (Medium step page fault))) ⊎ ((key : ℕ) × (r ≡ Err (ByForm key (Medium step page fault)))) → fault ≡ Stopped

-- the cut theorem of a run, from moment a to moment b, by these calls with these answers
pub record Secure {M F K : Type 0} (meaning : M → Meaning) (kind : F → K) (bytes : F → List ℕ) (reads : K → List ℕ → Result F BadByte)
    (cs : List (Call F K)) (rs : List (Answer F)) (a b : Moment M) : Type 0 where
  -- where a use begins, the store keeps to the book of the file as it is found
  pub begins : (v : Values) → UseBegins meaning a v → Kept meaning a (opening v)
  -- it goes on keeping to the book, which is fed the calls and their answers: so a use can be run in pieces
  pub keeps : (k : Book) → Kept meaning a k → Kept meaning b (fed_all bytes k cs rs)
  -- and whatever a cut then leaves is what the book says
  pub survives : (k : Book) → Kept meaning a k → Survives meaning b (fed_all bytes k cs rs)
  -- no call is refused with 5 but by a medium that refuses as stopped
  pub stops : (k : Book) → Kept meaning a k → AllByRecursion AsStopped rs
  -- after an accepted opening and a cut, a second opening changes no byte
  pub reopens : OpensAlike meaning
  -- after any cut, what the book has from a form is read under it as the value handed in
  pub rereads : (k : Book) → Kept meaning a k → ReadsForms meaning kind bytes reads b.store.medium (fed_all bytes k cs rs)
