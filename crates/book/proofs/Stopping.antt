-- A call of a use is never refused for a bad run.
use Rattle.std.proofs.Common.{◌≡◌, ℕ, ◌^◌, ◌<◌, ◌≤◌, false, ltb, List, [], ◌∷◌, length, get_or, take, Some, Ok, Err, vec_items, Result, sym, refl, subst, inl, inr, arith, rules}
use Rattle.std.specs.List.{AllByRecursion}
use Rattle.std.proofs.lemmas.Bool.{both_ways, ltb-false}
use Rattle.std.proofs.lemmas.Grind.{common_steps}
use Rattle.medium.specs.declared.fault.MediumFault.{MediumFault}
use Rattle.medium.specs.declared.fault.MediumFault.TheVariants.{Stopped}
use Rattle.medium.specs.Meaning.{Meaning, Sized, Wrote, good}
use Rattle.form.specs.declared.form.BadByte.{BadByte}
use Rattle.layout.specs.declared.first.FirstPage.{FirstPage}
use Rattle.layout.specs.Pages.{page_of}
use Rattle.store.specs.declared.change.Change.{Change}
use Rattle.store.specs.declared.change.Change.TheVariants.{Put as Putting, Replace as Replacing, Remove as Removing}
use Rattle.store.specs.declared.refusal.Refusal.{Refusal}
use Rattle.store.specs.declared.refusal.Refusal.TheVariants.{Medium}
use Rattle.store.specs.declared.refusal.Step.{Step}
use Rattle.store.specs.declared.refusal.Step.TheVariants.{Write}
use Rattle.store.specs.declared.slip.Slip.{Slip}
use Rattle.store.specs.declared.state.Edit.{Edit}
use Rattle.store.specs.declared.state.Opened.{Opened}
use Rattle.store.specs.declared.state.Place.{Place}
use Rattle.store.specs.declared.state.State.{State}
use Rattle.store.specs.declared.state.State.TheVariants.{Editing}
use Rattle.store.specs.Access.{ReadDenied}
use Rattle.store.specs.Clearing.{ClearsPage}
use Rattle.store.specs.Edits.{Applies, Begins, Edits, page_change, touched_by}
use Rattle.store.specs.Ends.{Abandons, Commits, Saves, SettlesOr}
use Rattle.store.specs.Looks.{Looks, opened}
use Rattle.store.specs.Nexts.{Nexts}
use Rattle.store.specs.Opening.{Clears, ClearsUntil, later_pages}
use Rattle.store.specs.Opens.{OpenStopped, Opens}
use Rattle.book.specs.declared.call.Call.{Call}
use Rattle.book.specs.declared.call.Call.TheVariants.{Open, Begin, Put, Change as ChangeTo, Remove, Look, Next, Save, Abandon, PutForm, ChangeForm, LookForm}
use Rattle.book.specs.declared.call.Done.{Done}
use Rattle.book.specs.declared.call.Done.TheVariants.{Changed}
use Rattle.book.specs.Books.{Book}
use Rattle.book.specs.Keeps.{Keeps, Later, Rests}
use Rattle.book.specs.Theorem.{AsStopped, Kept, fed}
use Rattle.book.specs.Uses.{Answer, Edited, Gives, Makes, Moment, Ran, Reads, Slipless, told, told_of}
use Rattle.book.proofs.Abandoning.{within}
use Rattle.book.proofs.Clearing.{later_at}
use Rattle.book.proofs.Editing.{changes, good_whole, page_later}
use Rattle.book.proofs.Making.{makes_keeps}
use Rattle.book.proofs.Runs.{number_bad}
use Rattle.book.proofs.Saving.{counter_good}

-- a refusal that is no bad run: where the medium refused, it has stopped
abbrev Stops : Refusal → Type 0
Stops e = (step : Step) (page : ℕ) (fault : MediumFault) → e ≡ Medium step page fault → fault ≡ Stopped

-- the same of an answer of the store
abbrev Sure : {T : Type 0} → Result T Refusal → Type 0
Sure (Ok _) = Unit {0}
Sure (Err e) = Stops e

-- a page that is there is not denied for a bad run
denied_stops : (m : Meaning) (q : ℕ) (e : Refusal) → q < m.pages → ReadDenied m q e → Stops e
denied_stops m q e l denied step page fault is = search rules

-- nor is a good run refused
wrote_stops : (m n : Meaning) (q s : ℕ) (b : List ℕ) (f : MediumFault) (e : Refusal) → (good m.pages q s (length b) ≡ false → ⊥)
    → e ≡ Medium Write q f → Wrote m n q s b (Err f) → Stops e
wrote_stops m n q s b f e fine at wrote step page fault is = search rules

-- a settle is refused only by a medium that has stopped
settles_stop : (m n : Meaning) (e : Refusal) → SettlesOr m n (Err e) → Stops e
settles_stop m n e settles step page fault is = search rules

module _ {M : Type 0} (meaning : M → Meaning) (counter : ℕ) where
  -- a page that is there is cleared, or the medium has stopped
  page_stops : (q : ℕ) (a b : M) (e : Refusal) → q < (meaning a).pages → ClearsPage meaning counter q a b (Err e) → Stops e
  page_stops q a b e l clears = search (rules, denied_stops, wrote_stops, number_bad)

  -- clearing leaves the pages there
  clears_count : (qs : List ℕ) (a b : M) (n : ℕ) → Clears meaning counter qs a b n → (meaning b).pages ≡ (meaning a).pages
  clears_count [] a b n clears = search rules
  clears_count (q ∷ qs) a b n clears = search (rules, clears_count qs)

  -- so of pages that are there none is refused for a bad run
  until_stops : (qs : List ℕ) (a b : M) (e : Refusal) → ((i : ℕ) → i < length qs → get_or qs i 0 < (meaning a).pages)
      → ClearsUntil meaning counter qs a b e → Stops e
  until_stops qs a b e there (i, l, (x, (n, c), page)) =
      page_stops (get_or qs i 0) x b e (subst (λ p. get_or qs i 0 < p) (sym (clears_count (take i qs) a x n c)) (there i l)) page

-- what holds of all holds of each
all_at : (P : ℕ → Type 0) (qs : List ℕ) (i : ℕ) → AllByRecursion P qs → i < length qs → P (get_or qs i 0)
all_at P qs i all l = search (rules, common_steps)

-- an opened store rests on the pages that its first page tells
opened_rests : (m : Meaning) (s : State) (touched : List ℕ) (k : Book) (first : FirstPage) → Keeps m s touched k → opened s ≡ Some first
    → (base : ℕ → List ℕ) × Rests m first base k.saved
opened_rests m s touched k first keeps is = search rules

-- so its later pages are there
opened_there : (m : Meaning) (s : State) (touched : List ℕ) (k : Book) (first : FirstPage) (q : ℕ) → Keeps m s touched k → opened s ≡ Some first
    → Later first.pages q → q < m.pages
opened_there m s touched k first q keeps is l = let r = opened_rests m s touched k first keeps is in within m first r.0 k.saved q r.1 l

-- the page of a key among them
key_there : (m : Meaning) (s : State) (touched : List ℕ) (k : Book) (first : FirstPage) (key : ℕ) → Keeps m s touched k → opened s ≡ Some first
    → page_of first.pages key < m.pages
key_there m s touched k first key keeps is =
    let r = opened_rests m s touched k first keeps is in
    within m first r.0 k.saved (page_of first.pages key) r.1 (page_later m first r.0 k.saved key r.1)

-- looking
looks_stop : (m : Meaning) (s : State) (touched : List ℕ) (k : Book) (key : ℕ) (work new : List ℕ) (x : Result Place Refusal) → Keeps m s touched k
    → Looks m s key work new x → Sure x
looks_stop m s touched k key work new x keeps looks = search (rules, key_there, denied_stops)

-- going over the keys
nexts_stop : (m : Meaning) (s : State) (touched : List ℕ) (k : Book) (least : ℕ) (work new : List ℕ) (x : Result ℕ Refusal) → Keeps m s touched k
    → Nexts m s least work new x → Sure x
nexts_stop m s touched k least work new x keeps nexts = search (rules, opened_there, denied_stops)

-- beginning, which asks nothing of the medium
begins_stop : (s t : State) (e f : Edit) (x : Result Slip Refusal) → Begins s t e f x → Sure x
begins_stop s t e f x begins = search rules

module _ {M : Type 0} (meaning : M → Meaning) where
  -- the medium's refusal of an opening
  open_stops : (a b : M) (work new : List ℕ) (e : Refusal) → 2 ≤ (meaning a).pages → OpenStopped meaning a b work new e → Stops e
  open_stops a b work new e two (inr (first, (fs, _, _), inl until)) =
      until_stops meaning first.counter (later_pages first.pages) a b e
      (λ i l. omega (arith, (later_at first.pages i l).1, fs.1.there, fs.2)) until
  open_stops a b work new e two (inl h) = search (rules, denied_stops)
  open_stops a b work new e two (inr (first, _, inr h)) = search (rules, settles_stop)

  -- opening
  opens_stop : (a b : M) (s t : State) (work new : List ℕ) (x : Result Opened Refusal) → Opens meaning a b s t work new x → Sure x
  opens_stop a b s t work new (Ok o) opens = tt
  opens_stop a b s t work new (Err e) opens = λ step page fault is.
      let o = subst (λ e. Opens meaning a b s t work new (Err e)) is opens in
      open_stops a b work new (Medium step page fault) o.0.2 o.1 step page fault refl

  -- the writing of the counter between two settles
  commits_stop : (number : ℕ) (a b : M) (e : Refusal) → 0 < (meaning a).pages → Commits meaning number a b (Err e) → Stops e
  commits_stop number a b e there commits = search (rules, settles_stop, wrote_stops, both_ways, counter_good)

  -- saving
  saves_stop : (number : ℕ) (a b : M) (s t : State) (e : Edit) (k : Book) (x : Result (ℕ × ℕ) Refusal) → Keeps (meaning a) s (touched_by e) k
      → Saves meaning number a b s t e x → Sure x
  saves_stop number a b s t e k x keeps saves = search (rules, opened_rests, commits_stop)

  -- abandoning
  abandons_stop : (number : ℕ) (a b : M) (s t : State) (e : Edit) (k : Book) (x : Result (Unit {0}) Refusal) → Keeps (meaning a) s (touched_by e) k
      → Abandons meaning number a b s t e x → Sure x
  abandons_stop number a b s t e k (Ok r) keeps abandons = tt
  abandons_stop number a b s t e k (Err x) keeps (inl h) = search rules
  abandons_stop number a b s t e k (Err x) keeps (inr (first, (is, _), _, until)) =
      let held : Keeps (meaning a) (Editing first) (touched_by e) k = subst (λ s. Keeps (meaning a) s (touched_by e) k) is keeps in
      until_stops meaning first.counter (touched_by e) a b x
      (λ i l. within (meaning a) first held.0 k.saved (get_or (touched_by e) i 0) held.1 (all_at (Later first.pages) (touched_by e) i held.3 l)) until

  -- a change of the key's page
  applies_stop : (sized : (x : M) → Sized (meaning x)) (a b : M) (first : FirstPage) (e f : Edit) (change : Change) (key : ℕ) (value new : List ℕ) (k : Book) (x : Refusal)
      → key < 2 ^ 32 → length value ≤ 200 → Keeps (meaning a) (Editing first) (touched_by e) k
      → Applies meaning (page_change change key value) first.counter (page_of first.pages key) a b e f new (Err x) → Stops x
  applies_stop sized a b first e f change key value new k x small short keeps (grants, inl h) = search rules
  applies_stop sized a b first e f change key value new k x small short keeps (grants, inr (done, ((y, at, wrote), _))) =
      let c = changes (meaning a) (meaning b) first (touched_by e) k change key value new (sized a) small short grants done keeps in
      wrote_stops (meaning a) (meaning b) (page_of first.pages key) 0 new y x
      (λ bad. both_ways _ bad (good_whole (meaning a).pages (page_of first.pages key) (length new) grants.0 c.0.near.long)) at wrote

  -- a change under a slip
  edits_stop : (sized : (x : M) → Sized (meaning x)) (a b : M) (s : State) (e f : Edit) (change : Change) (key number : ℕ) (value work new : List ℕ) (k : Book)
      (x : Result (Unit {0}) Refusal) → key < 2 ^ 32 → Keeps (meaning a) s (touched_by e) k
      → Edits meaning (page_change change key value) key number (ltb 200 (length value)) a b s e f work new x → Sure x
  edits_stop sized a b s e f change key number value work new k (Err x) small keeps (inr (first, ready, inr applies)) =
      applies_stop sized a b first e f change key value new k x small (ltb-false 200 (length value) ready.2)
      (subst (λ s. Keeps (meaning a) s (touched_by e) k) ready.1.0 keeps) applies
  edits_stop sized a b s e f change key number value work new k (Err x) small keeps (inl h) = search rules
  edits_stop sized a b s e f change key number value work new k (Err x) small keeps (inr (first, ready, inl h)) = search (rules, key_there, denied_stops)
  edits_stop sized a b s e f change key number value work new k (Ok u) small keeps edits = tt

-- what is told of an answer is no bad run where the answer is none
abbrev TellsSure : {F T : Type 0} → (Result T Refusal → Answer F) → Type 0
TellsSure {F} {T} tells = (x : Result T Refusal) (r : Answer F) → r ≡ tells x → Sure x → AsStopped r

-- so it is as the store tells it
told_sure : {F T : Type 0} (done : T → Done F) → TellsSure (told done)
told_sure done x r at sure step page fault is = search rules

-- and under a form
told_of_sure : {F T : Type 0} (at : ℕ) (done : T → Done F) → TellsSure (told_of at done)
told_of_sure at done x r tells sure step page fault is = search rules

-- without a slip the medium is not asked
slipless_stopped : {M F : Type 0} (i : ℕ) (a b : Moment M) (r : Answer F) → Slipless i a b r → AsStopped r
slipless_stopped i a b r none step page fault is = search rules

-- the answer of a begin
gives_stopped : {M F : Type 0} (a b : Moment M) (x : Result Slip Refusal) (r : Answer F) → Gives a b x r → Sure x → AsStopped r
gives_stopped a b x r gives sure step page fault is = search rules

-- the answer of a look under a form
reads_stopped : {M F : Type 0} (reads : List ℕ → Result F BadByte) (at : ℕ) (a b : Moment M) (x : Result Place Refusal) (r : Answer F) → Reads reads at a b x r
    → Sure x → AsStopped r
reads_stopped reads at a b x r told sure step page fault is = search rules

module _ {M F K : Type 0} (meaning : M → Meaning) (sized : (x : M) → Sized (meaning x)) (bytes : F → List ℕ) (reads : K → List ℕ → Result F BadByte) where
  -- a change under a slip, or none
  edited_stopped : (tells : Result (Unit {0}) Refusal → Answer F) → TellsSure tells
      → (i : ℕ) (change : Change) (key : ℕ) (value : List ℕ) (r : Answer F) (a b : Moment M) (k : Book)
      → Edited meaning tells i change key value a b r → Kept meaning a k → AsStopped r
  edited_stopped tells sure i change key value r a b k (inl none) kept = slipless_stopped i a b r none
  edited_stopped tells sure i change key value r a b k (inr (slip, _, (x, is, (small, edits, _, _)))) kept =
      sure x r is
      (edits_stop meaning sized a.store.medium b.store.medium a.store.state a.store.edit b.store.edit change key slip.number value
      a.work b.work k x small kept edits)

  -- no call that keeps to the book is refused for a bad run
  pub makes_stopped : (c : Call F K) (r : Answer F) (a b : Moment M) (k : Book) → Makes meaning bytes reads c r a b → Kept meaning a k → AsStopped r
  makes_stopped Open r a b k (x, is, opens, _, _) kept =
      told_sure _ x r is (opens_stop meaning a.store.medium b.store.medium a.store.state b.store.state a.work b.work x opens)
  makes_stopped Begin r a b k (x, gives, begins, _, _) kept =
      gives_stopped a b x r gives (begins_stop a.store.state b.store.state a.store.edit b.store.edit x begins)
  makes_stopped (Put i key value) r a b k makes kept = edited_stopped _ (told_sure (λ _. Changed)) i Putting key (vec_items value) r a b k makes kept
  makes_stopped (ChangeTo i key value) r a b k makes kept = edited_stopped _ (told_sure (λ _. Changed)) i Replacing key (vec_items value) r a b k makes kept
  makes_stopped (Remove i key) r a b k makes kept = edited_stopped _ (told_sure (λ _. Changed)) i Removing key [] r a b k makes kept
  makes_stopped (Look key) r a b k (x, is, looks, _) kept =
      told_sure _ x r is (looks_stop (meaning a.store.medium) a.store.state (touched_by a.store.edit) k key a.work b.work x kept looks)
  makes_stopped (Next least) r a b k (x, is, nexts, _) kept =
      told_sure _ x r is (nexts_stop (meaning a.store.medium) a.store.state (touched_by a.store.edit) k least a.work b.work x kept nexts)
  makes_stopped (Save i) r a b k (inl none) kept = slipless_stopped i a b r none
  makes_stopped (Save i) r a b k (inr (slip, _, (x, is, saves, _))) kept =
      told_sure _ x r is
      (saves_stop meaning slip.number a.store.medium b.store.medium a.store.state b.store.state a.store.edit k x kept saves)
  makes_stopped (Abandon i) r a b k (inl none) kept = slipless_stopped i a b r none
  makes_stopped (Abandon i) r a b k (inr (slip, _, (x, is, abandons, _))) kept =
      told_sure _ x r is
      (abandons_stop meaning slip.number a.store.medium b.store.medium a.store.state b.store.state a.store.edit k x kept abandons)
  makes_stopped (PutForm i key value) r a b k makes kept = edited_stopped _ (told_of_sure key (λ _. Changed)) i Putting key (bytes value) r a b k makes kept
  makes_stopped (ChangeForm i key value) r a b k makes kept = edited_stopped _ (told_of_sure key (λ _. Changed)) i Replacing key (bytes value) r a b k makes kept
  makes_stopped (LookForm key kind) r a b k (x, told, looks, _) kept =
      reads_stopped (reads kind) key a b x r told
      (looks_stop (meaning a.store.medium) a.store.state (touched_by a.store.edit) k key a.work b.work x kept looks)

  -- and so of a run of calls
  pub ran_stopped : (cs : List (Call F K)) (rs : List (Answer F)) (a b : Moment M) (k : Book) → Ran meaning bytes reads cs rs a b → Kept meaning a k → AllByRecursion AsStopped rs
  ran_stopped [] [] a b k ran kept = tt
  ran_stopped [] (r ∷ rs) a b k ran kept = absurd ran
  ran_stopped (c ∷ cs) [] a b k ran kept = absurd ran
  ran_stopped (c ∷ cs) (r ∷ rs) a b k (x, makes, ran) kept = (
    makes_stopped c r a x k makes kept,
    ran_stopped cs rs x b (fed bytes k c r) ran (makes_keeps meaning sized bytes reads c r a x k makes kept),
  )
