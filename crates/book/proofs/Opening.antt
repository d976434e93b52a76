-- Opening keeps the store to its book.
use Rattle.std.proofs.Common.{Result, rules, ◌⊎◌, ◌≡◌, ℕ, ◌<◌, ◌≤◌, true, false, List, None, Ok, Err, sym, refl, ap, ◌∙◌, inl, inr, arith}
use Rattle.octets.specs.Files.{File}
use Rattle.octets.proofs.Words.{words_same}
use Rattle.medium.specs.declared.fault.MediumFault.TheVariants.{BadRun, Stopped}
use Rattle.medium.specs.Cuts.{CutFile, shown_file}
use Rattle.medium.specs.Meaning.{Meaning, Settled, Sized}
use Rattle.layout.specs.declared.first.FirstPage.{FirstPage}
use Rattle.layout.specs.Pages.{page_of, records}
use Rattle.layout.specs.Sound.{FirstSound, SoundFile, counter_of, pages_of}
use Rattle.draft.specs.Drafts.{begun_side}
use Rattle.guard.specs.Changes.{value_in}
use Rattle.guard.specs.Clears.{cleared}
use Rattle.guard.specs.Guard.{Base}
use Rattle.guard.proofs.Cleared.{clears}
use Rattle.guard.proofs.Nearby.{near_words}
use Rattle.store.specs.declared.refusal.Refusal.{Refusal}
use Rattle.store.specs.declared.refusal.Refusal.TheVariants.{WorkPage, PageCount, NotAShowFile, Unsound, Medium, NotOpen, EditOpen, NoEdit, LastCounter, TooLong, TooMany, KeyInDraft, NoSuchKey, DraftFull, NoPlace}
use Rattle.store.specs.declared.state.Opened.{Opened}
use Rattle.store.specs.declared.state.State.{State}
use Rattle.store.specs.declared.state.State.TheVariants.{Shut, Open, Editing}
use Rattle.store.specs.Access.{Grants}
use Rattle.store.specs.Opening.{Clears, SoundOn, later_pages}
use Rattle.store.specs.Opens.{Begun, Checked, First, Idle, OpenStopped, Opens}
use Rattle.book.specs.Books.{Book, Says, Values}
use Rattle.book.specs.Keeps.{Found, Keeps, Later, Rests, Safe, Stands}
use Rattle.book.proofs.Clearing.{Going, Spread, cleared_base, cleared_none, clears_all, clears_until, spread_on}
use Rattle.book.proofs.Cutting.{file_says, rests_safe, survives}
use Rattle.book.proofs.Ranges.{key_later}
use Rattle.book.proofs.Resting.{drafted_reads, rests_spread}
use Rattle.book.proofs.SavedPages.{settled_keeps}

-- what an opening found is not sound: the first page, or a later one
abbrev Faulty : Meaning → Type 0
Faulty m =
    (FirstSound m.pages (m.shown 0) → ⊥)
    ⊎ ((q : ℕ) × (first : FirstPage) × First m first × (1 ≤ q) × (q < first.pages) × (SoundOn m first q → ⊥))

-- then the file is not
faulty_unsound : (m : Meaning) → Faulty m → SoundFile (shown_file m) → ⊥
faulty_unsound m (inl never) sound = never sound.first
faulty_unsound m (inr (q, first, (_, _, p, c), one, less, never)) sound =
    never (rw (c, p) (sound.pages q one (omega (arith, less, p))))

-- a refused opening: nothing changed; or the store is shut, on fewer than two pages or on a file that is not sound; or the medium
-- refused
pub open_refused : {M : Type 0} (meaning : M → Meaning) (a b : M) (s t : State) (work new : List ℕ) (e : Refusal) → Opens meaning a b s t work new (Err e)
    → ((b ≡ a) × (t ≡ s)) ⊎ (((b ≡ a) × (t ≡ Shut) × Idle s × ((meaning a).pages < 2))
    ⊎ (((b ≡ a) × Idle s × Grants (meaning a) 0 × Faulty (meaning a)) ⊎ (Begun (meaning a) s work × OpenStopped meaning a b work new e × (t ≡ Shut))))
open_refused meaning a b s t work new WorkPage (_, is, same, _) = inl (is, same)
open_refused meaning a b s t work new EditOpen (_, _, is, same, _) = inl (is, same)
open_refused meaning a b s t work new PageCount (_, idle, few, is, shut, _) = inr (inl (is, shut, idle, few))
open_refused meaning a b s t work new NotAShowFile (begun, grants, never, is, _, _) = inr (inr (inl (is, begun.1, grants, inl never)))
open_refused meaning a b s t work new (Unsound q) (begun, (first, fs, one, less, never, _), is, _, _) = inr (inr (inl (is, begun.1, fs.0, inr (q, first, fs, one, less, never))))
open_refused meaning a b s t work new (Medium step p f) h = inr (inr (inr h))
open_refused meaning a b s t work new NotOpen o = absurd o
open_refused meaning a b s t work new NoEdit o = absurd o
open_refused meaning a b s t work new LastCounter o = absurd o
open_refused meaning a b s t work new TooLong o = absurd o
open_refused meaning a b s t work new TooMany o = absurd o
open_refused meaning a b s t work new KeyInDraft o = absurd o
open_refused meaning a b s t work new NoSuchKey o = absurd o
open_refused meaning a b s t work new DraftFull o = absurd o
open_refused meaning a b s t work new NoPlace o = absurd o

-- while the medium runs and no edit is open, the file shown is sound and says what is saved
idle_shows : (m : Meaning) (s : State) (touched : List ℕ) (k : Book) → Keeps m s touched k → Idle s → m.stopped ≡ false
    → SoundFile (shown_file m) × Says (shown_file m) k.saved
idle_shows m Shut touched k (_, found) idle runs = let f = found runs in (f.sound, f.says)
idle_shows m (Editing first) touched k keeps idle runs = absurd idle
idle_shows m (Open first) touched k (base, rests, shows) idle runs =
    let stands = (shows runs).0 in
    file_says (shown_file m) first.pages first.counter base k.saved
    (rw stands.zero rests.sound) (ap pages_of stands.zero ∙ rests.pages) (ap counter_of stands.zero ∙ rests.counter)
    (λ q l. drafted_reads first.counter first.pages q (base q) (m.shown q) (stands.drafted q l)) rests.said

-- clearing an opened file leaves what is saved resting
spread_rests : (m n : Meaning) (first : FirstPage) (base : ℕ → List ℕ) (v : Values) → Rests m first base v → Stands m first base
    → ((q : ℕ) → Later first.pages q → begun_side first.counter (m.shown q) ≡ None) → Spread first.counter first.pages m n
    → Rests n first base v
spread_rests m n first base v r stands none s =
    rests_spread m n first base v (λ q. cleared first.counter (m.shown q)) s.count s.within
    (λ q l k h. rw (cleared_none first.counter (m.shown q) (none q l))
    (near_words first.counter (base q) (m.shown q) (stands.drafted q l).near k h)) r

-- clearing a file as it was found leaves a sound one that says the same
spread_found : (m n : Meaning) (v : Values) → Sized m → Found m v → Spread (counter_of (m.shown 0)) (pages_of (m.shown 0)) m n
    → (f : File) → CutFile n f → SoundFile f × Says f v
spread_found m n v sized found s f c =
    let counter : ℕ = counter_of (m.shown 0) in
    let pages : ℕ = pages_of (m.shown 0) in
    let first = found.sound.first in
    let there : (q : ℕ) → q < pages → q < m.pages = λ q l. omega (arith, first.there) in
    let within : (q : ℕ) → q < pages → q < n.pages = λ q l. omega (arith, there q l, s.count) in
    let zero : f.page 0 ≡ m.shown 0 =
    words_same 256 (f.page 0) (m.shown 0) (c.sized 0 (within 0 (omega (arith, first.least)))) (sized.full 0 (there 0 (omega (arith, first.least))))
    (λ k h. elim (s.within 0 k _ (c.possible 0 k (within 0 (omega (arith, first.least))) h)) [
      | inl before ↦ found.only 0 k _ before
      | inr (later, _) ↦ absurd (omega (arith, later.0))
    ]) in
    file_says f pages counter m.shown v
    (rw (zero, c.count, s.count) first)
    (ap pages_of zero) (ap counter_of zero)
    (λ q l. (clears counter pages q (m.shown q) (sized.full q (there q l.1)) (found.sound.pages q l.0 l.1)).0
    (f.page q) (c.sized q (within q l.1))
    (λ k h. elim (s.within q k _ (c.possible q k (within q l.1) h)) [
      | inl before ↦ inl (found.only q k _ before)
      | inr (_, is) ↦ inr is
    ]))
    found.says

-- so clearing is safe
spread_safe : (m n : Meaning) (s : State) (touched : List ℕ) (k : Book) (first : FirstPage) → Sized m → Keeps m s touched k → Idle s → First m first
    → Spread first.counter first.pages m n → Safe n k
spread_safe m n Shut touched k first sized (_, found) idle ((_, runs), _, p, c) s =
    λ f cut. let r = spread_found m n k.saved sized (found runs) (rw (c, p) at s) f cut in (r.0, inl r.1)
spread_safe m n (Editing _) touched k first sized keeps idle f s = absurd idle
spread_safe m n (Open old) touched k first sized (base, rests, shows) idle ((_, runs), _, p, c) s =
    let stands = (shows runs).0 in
    let clean = (shows runs).1 in
    rests_safe n old base k
    (spread_rests m n old base k.saved rests stands (λ q l. elim (clean q l) [ inl none ↦ none | inr h ↦ absurd h ])
    (rw (c ∙ ap counter_of stands.zero ∙ rests.counter, p ∙ ap pages_of stands.zero ∙ rests.pages) at s))

-- a file whose later pages are cleared and settled is open
going_open : (m n b : Meaning) (touched new : List ℕ) (k : Book) (first : FirstPage) → Sized m → Sized b → Checked m first new
    → Says (shown_file m) k.saved → Going first.counter first.pages (λ _. ⊥) m n → Settled n b (Ok tt) → Keeps b (Open first) touched k
going_open m n b touched new k first sized sized_b (((_, runs), fs, p, c), sound, _) says g (_, still, count, shown, only) =
    let C : ℕ = first.counter in
    let P : ℕ = first.pages in
    let there : P ≤ m.pages = omega (arith, fs.there) in
    let pages : b.pages ≡ m.pages = count ∙ g.spread.count in
    let zero : b.shown 0 ≡ m.shown 0 = shown 0 ∙ g.zero in
    let is : (q : ℕ) → Later P q → b.shown q ≡ cleared C (m.shown q) =
    λ q l. elim (g.each q l) [ inl e ↦ shown q ∙ e | inr (_, h) ↦ absurd h ] in
    let base : (q : ℕ) → Later P q → Base C P q (cleared C (m.shown q)) = cleared_base C P m there sized sound in
    let same : (q : ℕ) → Later P q → records C (b.shown q) ≡ records C (m.shown q) =
    λ q l. ap (records C) (is q l) ∙
    ((clears C P q (m.shown q) (sized.full q (omega (arith, there, l.1))) (sound q l.0 l.1)).0
    (cleared C (m.shown q)) (base q l).long (λ k h. inr refl)).1 in
    settled_keeps b first touched k only (sized_b.full 0 (omega (arith, pages, fs.least, fs.there))) (rw (zero, pages) fs)
    (ap pages_of zero ∙ sym p) (ap counter_of zero ∙ sym c) (λ q l. rw (is q l) (base q l))
    (λ key.
    let l = key_later P key (omega (arith, p, fs.least)) in
    ap (λ es. value_in es key) (same (page_of P key) l) ∙ (λ i. value_in (records (c i) (m.shown (page_of (p i) key))) key) ∙ says key)

module _ {M : Type 0} (meaning : M → Meaning) (sized : (x : M) → Sized (meaning x)) (a b : M) (s : State) (touched work new : List ℕ) (k : Book)
    (keeps : Keeps (meaning a) s touched k) (begun : Begun (meaning a) s work) where
  -- a refusal by the medium leaves it stopped and safe
  open_stops : (e : Refusal) → OpenStopped meaning a b work new e → Safe (meaning b) k × ((meaning b).stopped ≡ true)
  open_stops e (inl ((BadRun, _, none), _, _)) = absurd (omega (arith, none, begun.2))
  open_stops e (inl ((Stopped, _, (_, stop)), is, _)) =
      rw is (survives meaning sized a s touched k keeps, stop)
  open_stops e (inr (first, (fs, sound, _), inl until)) =
      let r = clears_until meaning first.counter first.pages a (omega (arith, fs.1.there, fs.2)) (sized a) sound b e until in
      (spread_safe (meaning a) (meaning b) s touched k first (sized a) keeps begun.1 fs r.1, r.0)
  open_stops e (inr (first, (fs, sound, _), inr (x, (n, c), (f, _, (_, stop, none, _))))) =
      let g = clears_all meaning first.counter first.pages a (omega (arith, fs.1.there, fs.2)) (sized a) sound x n c in (
        spread_safe (meaning a) (meaning b) s touched k first (sized a) keeps begun.1 fs
            (spread_on first.counter first.pages (meaning a) (meaning x) (meaning b) g.spread none),
        stop,
      )

  -- once all is cleared and settled, the file is open
  open_opens : (first : FirstPage) (x : M) (n : ℕ) → Checked (meaning a) first new → Clears meaning first.counter (later_pages first.pages) a x n
      → Settled (meaning x) (meaning b) (Ok tt) → Keeps (meaning b) (Open first) touched k
  open_opens first x n (fs, sound, work') c settled =
      let says = (idle_shows (meaning a) s touched k keeps begun.1 fs.0.1).1 in
      going_open (meaning a) (meaning x) (meaning b) touched new k first (sized a) (sized b) (fs, sound, work') says
      (clears_all meaning first.counter first.pages a (omega (arith, fs.1.there, fs.2)) (sized a) sound x n c) settled

-- fewer than two pages: only a store that was shut can meet them
few_keeps : (m : Meaning) (s : State) (touched : List ℕ) (k : Book) → Keeps m s touched k → Idle s → m.pages < 2 → Keeps m Shut touched k
few_keeps m s touched k keeps idle few = search rules

-- opening changes nothing of the book, whatever it answers
pub open_keeps : {M : Type 0} (meaning : M → Meaning) → ((x : M) → Sized (meaning x)) → (a b : M) (s t : State) (touched work new : List ℕ)
    (r : Result Opened Refusal) (k : Book) → Keeps (meaning a) s touched k → Opens meaning a b s t work new r → Keeps (meaning b) t touched k
open_keeps meaning sized a b s t touched work new (Ok o) k keeps (begun, (first, checked, (x, c, settled), is, _, _)) =
    rw is
    (open_opens meaning sized a b s touched work new k keeps begun first x o.cleared checked c settled)
open_keeps meaning sized a b s t touched work new (Err e) k keeps opens = elim (open_refused meaning a b s t work new e opens) [
  | inl (is, same) ↦ rw (is, same) keeps
  | inr (inl (is, shut, idle, few)) ↦ rw (is, shut) (few_keeps (meaning a) s touched k keeps idle few)
  | inr (inr (inl (_, idle, grants, faulty))) ↦
      absurd (faulty_unsound (meaning a) faulty (idle_shows (meaning a) s touched k keeps idle grants.1).0)
  | inr (inr (inr (begun, stopped, shut))) ↦
      let r = open_stops meaning sized a b s touched work new k keeps begun e stopped in rw shut (r.0, λ runs. absurd cc)
]
