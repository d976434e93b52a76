-- Each call of a use keeps the store to its book.
use Rattle.std.proofs.Common.{◌≡◌, ℕ, List, [], ◌∷◌, Err, vec_items, Option, Result, inl, inr, rules}
use Rattle.medium.specs.Meaning.{Meaning, Sized}
use Rattle.form.specs.declared.form.BadByte.{BadByte}
use Rattle.store.specs.declared.change.Change.{Change}
use Rattle.store.specs.declared.change.Change.TheVariants.{Put as Putting, Replace as Replacing, Remove as Removing}
use Rattle.store.specs.declared.refusal.Refusal.{Refusal}
use Rattle.store.specs.declared.slip.Slip.{Slip}
use Rattle.store.specs.Edits.{touched_by}
use Rattle.book.specs.declared.call.Call.{Call}
use Rattle.book.specs.declared.call.Call.TheVariants.{Open, Begin, Put, Change as ChangeTo, Remove, Look, Next, Save, Abandon, PutForm, ChangeForm, LookForm}
use Rattle.book.specs.declared.call.Denied.TheVariants.{NoSlip}
use Rattle.book.specs.declared.call.Done.{Done}
use Rattle.book.specs.declared.call.Done.TheVariants.{Changed}
use Rattle.book.specs.Books.{Book, begun, edited, saved_by}
use Rattle.book.specs.Theorem.{Kept, Survives, after_save, drafted, fed, fed_all, if_taken}
use Rattle.book.specs.Uses.{Answer, Edited, Gives, Makes, Moment, OnlyReads, Ran, Slipless, told, told_of}
use Rattle.book.proofs.Abandoning.{abandon_keeps}
use Rattle.book.proofs.Beginning.{begin_keeps}
use Rattle.book.proofs.Cutting.{survives}
use Rattle.book.proofs.Editing.{edit_keeps, entered}
use Rattle.book.proofs.Opening.{open_keeps}
use Rattle.book.proofs.Saving.{save_keeps}

-- the answer of a change, as it is told, says what the change did to the draft
abbrev TellsEdit : {F : Type 0} → (Result (Unit {0}) Refusal → Answer F) → Type 0
TellsEdit tells = (k : Book) (key : ℕ) (entry : Option (List ℕ)) (x : Result (Unit {0}) Refusal) → edited k key entry x ≡ if_taken (tells x) (drafted k key entry) k

-- it does as the store tells it
told_edit : (F : Type 0) → TellsEdit {F = F} (told (λ _. Changed))
told_edit F k key entry x = search rules

-- and under a form
told_form : (F : Type 0) (at : ℕ) → TellsEdit {F = F} (told_of at (λ _. Changed))
told_form F at k key entry x = search rules

-- the answer of a save says what the save did to the book
told_save : {F T : Type 0} (done : T → Done F) (k : Book) (x : Result T Refusal) → saved_by k x ≡ after_save k (told done x)
told_save done k x = search rules

module _ {M F K : Type 0} (meaning : M → Meaning) (sized : (x : M) → Sized (meaning x)) (bytes : F → List ℕ) (reads : K → List ℕ → Result F BadByte) where
  -- the answer of a begin says what the begin did to the book
  gives_begun : (a b : Moment M) (x : Result Slip Refusal) (r : Answer F) (k : Book) → Gives a b x r → begun k x ≡ fed {K = K} bytes k Begin r
  gives_begun a b x r k gives = search rules

  -- without a slip no call is made
  slipless_keeps : (i : ℕ) (a b : Moment M) (r : Answer F) (book : Answer F → Book) → Slipless i a b r → Kept meaning a (book (Err NoSlip)) → Kept meaning b (book r)
  slipless_keeps i a b r book (_, is, same) kept = rw (same, is) kept

  -- a change under a slip
  edited_keeps : (tells : Result (Unit {0}) Refusal → Answer F) → TellsEdit tells
      → (i : ℕ) (change : Change) (key : ℕ) (value : List ℕ) (r : Answer F) (a b : Moment M) (k : Book)
      → Edited meaning tells i change key value a b r → Kept meaning a k → Kept meaning b (if_taken r (drafted k key (entered change value)) k)
  edited_keeps tells tell i change key value r a b k (inl none) kept =
      slipless_keeps i a b r (λ r. if_taken r (drafted k key (entered change value)) k) none kept
  edited_keeps tells tell i change key value r a b k (inr (slip, _, (x, is, (small, edits, same, _)))) kept =
      rw (same, is, ← tell k key (entered change value) x)
      (edit_keeps meaning sized a.store.medium b.store.medium a.store.state a.store.edit b.store.edit change key slip.number value
      a.work b.work x k small kept edits)

  -- a call that only reads
  reads_keeps : (a b : Moment M) (k : Book) → OnlyReads a b → Kept meaning a k → Kept meaning b k
  reads_keeps a b k (same, _) kept = rw same kept

  -- every call keeps the store to the book that is fed it
  pub makes_keeps : (c : Call F K) (r : Answer F) (a b : Moment M) (k : Book) → Makes meaning bytes reads c r a b → Kept meaning a k → Kept meaning b (fed bytes k c r)
  makes_keeps Open r a b k (x, _, opens, same, _) kept =
      rw same
      (open_keeps meaning sized a.store.medium b.store.medium a.store.state b.store.state (touched_by a.store.edit) a.work b.work x k kept opens)
  makes_keeps Begin r a b k (x, gives, begins, same, _) kept =
      rw (same, ← gives_begun a b x r k gives)
      (begin_keeps meaning sized a.store.medium a.store.state b.store.state a.store.edit b.store.edit x k kept begins)
  makes_keeps (Put i key value) r a b k makes kept = edited_keeps (told (λ _. Changed)) (told_edit F) i Putting key (vec_items value) r a b k makes kept
  makes_keeps (ChangeTo i key value) r a b k makes kept = edited_keeps (told (λ _. Changed)) (told_edit F) i Replacing key (vec_items value) r a b k makes kept
  makes_keeps (Remove i key) r a b k makes kept = edited_keeps (told (λ _. Changed)) (told_edit F) i Removing key [] r a b k makes kept
  makes_keeps (Look key) r a b k (_, _, _, only) kept = reads_keeps a b k only kept
  makes_keeps (Next least) r a b k (_, _, _, only) kept = reads_keeps a b k only kept
  makes_keeps (Save i) r a b k (inl none) kept = slipless_keeps i a b r (after_save k) none kept
  makes_keeps (Save i) r a b k (inr (slip, _, (x, is, saves, (_, same, _)))) kept =
      rw (same, is, ← told_save _ k x)
      (save_keeps meaning sized a.store.medium b.store.medium a.store.state b.store.state a.store.edit slip.number x k kept saves)
  makes_keeps (Abandon i) r a b k (inl none) kept = slipless_keeps i a b r (λ _. k) none kept
  makes_keeps (Abandon i) r a b k (inr (slip, _, (x, _, abandons, (_, same, _)))) kept =
      rw same
      (abandon_keeps meaning sized a.store.medium b.store.medium a.store.state b.store.state a.store.edit slip.number x k kept abandons)
  makes_keeps (PutForm i key value) r a b k makes kept = edited_keeps (told_of key (λ _. Changed)) (told_form F key) i Putting key (bytes value) r a b k makes kept
  makes_keeps (ChangeForm i key value) r a b k makes kept = edited_keeps (told_of key (λ _. Changed)) (told_form F key) i Replacing key (bytes value) r a b k makes kept
  makes_keeps (LookForm key kind) r a b k (_, _, _, only) kept = reads_keeps a b k only kept

  -- and so every run of calls
  pub ran_keeps : (cs : List (Call F K)) (rs : List (Answer F)) (a b : Moment M) (k : Book) → Ran meaning bytes reads cs rs a b → Kept meaning a k
      → Kept meaning b (fed_all bytes k cs rs)
  ran_keeps [] [] a b k same kept = rw same kept
  ran_keeps [] (r ∷ rs) a b k ran kept = absurd ran
  ran_keeps (c ∷ cs) [] a b k ran kept = absurd ran
  ran_keeps (c ∷ cs) (r ∷ rs) a b k (x, makes, ran) kept = ran_keeps cs rs x b (fed bytes k c r) ran (makes_keeps c r a x k makes kept)

  -- whatever a cut leaves after a run is what the book says
  pub ran_survives : (cs : List (Call F K)) (rs : List (Answer F)) (a b : Moment M) (k : Book) → Ran meaning bytes reads cs rs a b → Kept meaning a k
      → Survives meaning b (fed_all bytes k cs rs)
  ran_survives cs rs a b k ran kept =
      survives meaning sized b.store.medium b.store.state (touched_by b.store.edit) (fed_all bytes k cs rs) (ran_keeps cs rs a b k ran kept)
