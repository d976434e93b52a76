-- A change under a slip keeps the store to its book.
use Rattle.std.proofs.Common.{rules, ◌≡◌, ℕ, ◌+◌, ◌^◌, ◌<◌, ◌≤◌, true, cond, eqb, ltb, List, [], ◌∷◌, ◌++◌, length, Ok, Err, Result, sym, refl, ap, ◌∙◌, subst, inl, inr, arith, Some, None, Option}
use Rattle.std.specs.List.{AllByRecursion}
use Rattle.std.proofs.lemmas.List.{append-nil, drop_all}
use Rattle.std.proofs.lemmas.Bool.{and_from, cases_eq, cond_both, cond-false, lt-ltb, ltb-false, ne_eqb, true≢false}
use Rattle.std.proofs.lemmas.Bool.Decides.{nat_tests}
use Rattle.octets.specs.Parts.{patched}
use Rattle.medium.specs.declared.fault.MediumFault.{MediumFault}
use Rattle.medium.specs.declared.fault.MediumFault.TheVariants.{BadRun, Stopped}
use Rattle.medium.specs.Meaning.{Gains, Meaning, Patches, Sized, Wrote, good}
use Rattle.layout.specs.declared.first.FirstPage.{FirstPage}
use Rattle.layout.specs.Pages.{page_of}
use Rattle.draft.specs.Drafts.{draft_records}
use Rattle.guard.specs.Changes.{Changes, Drafted, value_in}
use Rattle.guard.proofs.Changed.{puts, removes, replaces}
use Rattle.guard.proofs.Nearby.{near_words}
use Rattle.store.specs.declared.change.Change.{Change}
use Rattle.store.specs.declared.change.Change.TheVariants.{Put, Replace, Remove}
use Rattle.store.specs.declared.refusal.Refusal.{Refusal}
use Rattle.store.specs.declared.state.Edit.{Edit}
use Rattle.store.specs.declared.state.State.{State}
use Rattle.store.specs.declared.state.State.TheVariants.{Editing}
use Rattle.store.specs.Access.{Grants}
use Rattle.store.specs.Edits.{Applies, Ready, page_change, touched_by, Edits}
use Rattle.store.specs.Touches.{added}
use Rattle.book.specs.Books.{Book, Values, edited, with}
use Rattle.book.specs.Keeps.{CleanBut, Drafts, Has, Keeps, Later, Rests}
use Rattle.book.proofs.Ranges.{key_later}
use Rattle.book.proofs.Resting.{rests_gains, stands_patched}

-- the value that a change enters
abbrev pub entered : Change → List ℕ → Option (List ℕ)
entered Put value = Some value
entered Replace value = Some value
entered Remove value = None

-- a page is among those it was added to
has_added : (q : ℕ) (ts : List ℕ) → Has q (added q ts)
has_added q [] = inl refl
has_added q (t ∷ ts) = search (rules, has_added q ts, nat_tests)

-- and the others are still among them
has_before : (p q : ℕ) (ts : List ℕ) → Has p ts → Has p (added q ts)
has_before p q [] h = elim h [ ]
has_before p q (t ∷ ts) h = search (rules, has_before p q ts, nat_tests)

-- what holds of all of them and of the page added holds of all
all_added : (P : ℕ → Type 0) (q : ℕ) (ts : List ℕ) → P q → AllByRecursion P ts → AllByRecursion P (added q ts)
all_added P q [] x h = (x, tt)
all_added P q (t ∷ ts) x h = search (rules, all_added P q ts, cond_both)

-- a whole page put in place of another
patched_whole : (page new : List ℕ) → length page ≤ length new → patched page 0 new ≡ new
patched_whole page new h = ap (λ l. new ++ l) (drop_all (0 + length new) page (omega arith)) ∙ append-nil new

-- a run of a whole page that is there is good
pub good_whole : (pages q n : ℕ) → q < pages → n ≡ 1024 → good pages q 0 n ≡ true
good_whole pages q n h e = rw e (and_from (ltb q pages) true (lt-ltb q pages h) refl)

-- what each kind of change does to the draft of the key's page
changed : (change : Change) (counter pages : ℕ) (base page new : List ℕ) (key : ℕ) (value : List ℕ)
    → counter + 1 < 2 ^ 32 → key < 2 ^ 32 → length value ≤ 200 → Drafted counter pages (page_of pages key) base page
    → page_change change key value counter page new (Ok tt) → Changes counter pages (page_of pages key) base page new key (entered change value)
changed Put counter pages base page new key value small key-small short d c =
    puts counter pages (page_of pages key) base page new key value small key-small short refl d c
changed Replace counter pages base page new key value small key-small short d c =
    replaces counter pages (page_of pages key) base page new key value small key-small short refl d c
changed Remove counter pages base page new key value small key-small short d c =
    removes counter pages (page_of pages key) base page new key small d c

-- the page of a key is a later page
pub page_later : (m : Meaning) (first : FirstPage) (base : ℕ → List ℕ) (saved : Values) (key : ℕ) → Rests m first base saved
    → Later first.pages (page_of first.pages key)
page_later m first base saved key rests = key_later first.pages key (omega (arith, rests.sound.least, rests.pages))

-- a change of the key's page, in an edit that keeps to its book, is offered to the medium as a whole page
module _ (m n : Meaning) (first : FirstPage) (touched : List ℕ) (b : Book) (change : Change) (key : ℕ) (value new : List ℕ)
    (sized : Sized m) (key-small : key < 2 ^ 32) (short : length value ≤ 200) (grants : Grants m (page_of first.pages key))
    (done : page_change change key value first.counter (m.shown (page_of first.pages key)) new (Ok tt))
    (keeps : Keeps m (Editing first) touched b) where
  abbrev q : ℕ
  q = page_of first.pages key

  -- it is a later page
  later : Later first.pages q
  later = page_later m first keeps.0 b.saved key keeps.1

  -- what it does to the draft
  pub changes : Changes first.counter first.pages q (keeps.0 q) (m.shown q) new key (entered change value)
  changes =
      changed change first.counter first.pages (keeps.0 q) (m.shown q) new key value keeps.2 key-small short ((keeps.4 grants.1).0.drafted q later) done

  -- the page with the new one put in is the new one
  whole : patched (m.shown q) 0 new ≡ new
  whole = patched_whole (m.shown q) new (omega (arith, sized.full q grants.0, changes.0.near.long))

  -- whatever of it comes down, what is saved rests
  rests_offered : Gains m n q 0 new → Rests n first keeps.0 b.saved
  rests_offered g =
      rests_gains m n first keeps.0 b.saved q 0 new g later
      (λ k l _. rw whole (near_words first.counter (keeps.0 q) new changes.0.near k l)) keeps.1

  -- once it is written, no change is shown but on this page and those touched before
  clean_offered : Patches m n q 0 new → CleanBut n first (added q touched)
  clean_offered p r l = elim (cases_eq r q) [
    | inl e ↦ inr (rw e (has_added q touched))
    | inr ne ↦ elim ((keeps.4 grants.1).1 r l) [
      | inl none ↦ inl (rw (p.others r ne) none)
      | inr h ↦ inr (has_before r q touched h)
    ]
  ]

  -- and the drafts shown have the key's new value
  drafts_offered : Patches m n q 0 new → Drafts n first (with b.draft key (entered change value))
  drafts_offered p k = elim (cases_eq (page_of first.pages k) q) [
    | inl e ↦
        rw (e, p.here, whole)
        (changes.2 k ∙ ap (cond (eqb k key) (entered change value))
        (ap (λ r. value_in (draft_records first.counter (m.shown r)) k) (sym e) ∙ (keeps.4 grants.1).2 k))
    | inr ne ↦
        rw (p.others (page_of first.pages k) ne)
        ((keeps.4 grants.1).2 k ∙ sym (cond-false (eqb k key) (entered change value) (b.draft k) (ne_eqb k key (λ e. ne (ap (page_of first.pages) e)))))
  ]

  -- the medium takes it
  taken : Wrote m n q 0 new (Ok tt) → Keeps n (Editing first) (added q touched) (edited b key (entered change value) (Ok tt))
  taken w = (
    keeps.0,
    rests_offered w.3.gains,
    keeps.2,
    all_added (Later first.pages) q touched later keeps.3,
    λ _. (
      stands_patched m n first keeps.0 q 0 new w.3 later (rw (w.3.here, whole) changes.0) (keeps.4 grants.1).0,
      clean_offered w.3,
      drafts_offered w.3,
    ),
  )

  -- the medium refuses it: not for a bad run, and so it has stopped
  refused : (y : MediumFault) → Wrote m n q 0 new (Err y) → Keeps n (Editing first) touched b
  refused BadRun w = absurd (true≢false (sym (good_whole m.pages q (length new) grants.0 changes.0.near.long) ∙ w.0))
  refused Stopped w =
      (keeps.0, rests_offered w.2, keeps.2, keeps.3, λ runs. absurd cc)

module _ {M : Type 0} (meaning : M → Meaning) (sized : (x : M) → Sized (meaning x)) where
  -- once the page of the key is read: it is changed and written, or refused
  applied : (a b : M) (first : FirstPage) (e f : Edit) (change : Change) (key : ℕ) (value new : List ℕ) (r : Result (Unit {0}) Refusal) (k : Book)
      → key < 2 ^ 32 → length value ≤ 200 → Keeps (meaning a) (Editing first) (touched_by e) k
      → Applies meaning (page_change change key value) first.counter (page_of first.pages key) a b e f new r
      → Keeps (meaning b) (Editing first) (touched_by f) (edited k key (entered change value) r)
  applied a b first e f change key value new (Ok u) k small short keeps h =
      rw h.2.1.1
      (taken (meaning a) (meaning b) first (touched_by e) k change key value new (sized a) small short h.0 h.1 keeps h.2.0)
  applied a b first e f change key value new (Err x) k small short keeps h = elim h.1 [
    | inl (_, _, _, is, same) ↦ rw (is, same) keeps
    | inr (done, offers) ↦
        rw offers.1
        (refused (meaning a) (meaning b) first (touched_by e) k change key value new (sized a) small short h.0 done keeps offers.0.0 offers.0.2)
  ]

  -- the same under a slip, which is the open edit's
  ready_applied : (a b : M) (s : State) (first : FirstPage) (e f : Edit) (change : Change) (key number size : ℕ) (value new : List ℕ)
      (r : Result (Unit {0}) Refusal) (k : Book)
      → key < 2 ^ 32 → Keeps (meaning a) s (touched_by e) k → Ready s e.changes size number (ltb 200 (length value)) (Ok first)
      → Applies meaning (page_change change key value) first.counter (page_of first.pages key) a b e f new r
      → Keeps (meaning b) s (touched_by f) (edited k key (entered change value) r)
  ready_applied a b s first e f change key number size value new r k small keeps ready h =
      rw ready.1.0
      (applied a b first e f change key value new r k small (ltb-false 200 (length value) ready.2)
      (subst (λ s. Keeps (meaning a) s (touched_by e) k) ready.1.0 keeps) h)

-- a change keeps the store to its book, whatever it answers
pub edit_keeps : {M : Type 0} (meaning : M → Meaning) → ((x : M) → Sized (meaning x)) → (a b : M) (s : State) (e f : Edit) (change : Change)
    (key number : ℕ) (value work new : List ℕ) (r : Result (Unit {0}) Refusal) (k : Book) → key < 2 ^ 32 → Keeps (meaning a) s (touched_by e) k
    → Edits meaning (page_change change key value) key number (ltb 200 (length value)) a b s e f work new r
    → Keeps (meaning b) s (touched_by f) (edited k key (entered change value) r)
edit_keeps meaning sized a b s e f change key number value work new (Ok u) k small keeps h =
    ready_applied meaning sized a b s h.0 e f change key number (length work) value new (Ok u) k small keeps h.1 h.2
edit_keeps meaning sized a b s e f change key number value work new (Err x) k small keeps h = elim h [
  | inl (_, is, same, _) ↦ rw (is, same) keeps
  | inr (first, ready, way) ↦ elim way [
    | inl (_, is, same) ↦ rw (is, same) keeps
    | inr applies ↦ ready_applied meaning sized a b s first e f change key number (length work) value new (Err x) k small keeps ready applies
  ]
]
