-- An edit that is saved: what the pages then say.
use Rattle.std.proofs.Common.{◌≡◌, ℕ, ◌+◌, ◌^◌, ◌<◌, ◌≤◌, Bool, ◌⊎◌, List, length, Ok, sym, refl, ap, ◌∙◌, subst, inl, inr, arith}
use Rattle.octets.specs.Files.{File}
use Rattle.octets.specs.Numbers.{spell}
use Rattle.medium.specs.Cuts.{CutFile}
use Rattle.medium.specs.Meaning.{Gains, Meaning, Settled, Settles, Sized, Wrote}
use Rattle.layout.specs.declared.first.FirstPage.{FirstPage}
use Rattle.layout.specs.Pages.{page_of, records}
use Rattle.layout.specs.Sound.{FirstSound, SoundFile, counter_of, pages_of}
use Rattle.draft.specs.Drafts.{draft_records}
use Rattle.guard.specs.Changes.{value_in}
use Rattle.guard.specs.Guard.{Allowed, Base}
use Rattle.guard.proofs.Nearby.{base_low, near_itself, near_words}
use Rattle.guard.proofs.Sided.{begun_none}
use Rattle.guard.proofs.Stages.{begins, saves}
use Rattle.store.specs.declared.state.State.TheVariants.{Open}
use Rattle.book.specs.Books.{Book, Says, Values}
use Rattle.book.specs.Keeps.{Drafts, Keeps, Later, Rests, Stands}
use Rattle.book.proofs.Cutting.{file_says}
use Rattle.book.proofs.Ranges.{key_later}
use Rattle.book.proofs.Resting.{drafted_reads}
use Rattle.book.proofs.SavedFirst.{cut_first, cut_later, recounted, recounted_counter, recounted_long, recounted_pages, recounted_sound}

-- a settled medium whose later pages are bases keeps, opened, to what they say
pub settled_keeps : (b : Meaning) (now : FirstPage) (touched : List ℕ) (k : Book) → Settles b
    → length (b.shown 0) ≡ 1024 → FirstSound b.pages (b.shown 0) → pages_of (b.shown 0) ≡ now.pages → counter_of (b.shown 0) ≡ now.counter
    → ((q : ℕ) → Later now.pages q → Base now.counter now.pages q (b.shown q))
    → ((key : ℕ) → value_in (records now.counter (b.shown (page_of now.pages key))) key ≡ k.saved key)
    → Keeps b (Open now) touched k
settled_keeps b now touched k only long sound pages counter bases said = (
  b.shown,
  record {
    long = long;
    sound = sound;
    pages = pages;
    counter = counter;
    zero = λ k _ w p. only 0 k w p;
    bases = bases;
    words = λ q l k h w p. subst (Allowed now.counter (b.shown q) k) (sym (only q k w p))
        (near_words now.counter (b.shown q) (b.shown q) (near_itself now.counter now.pages q (b.shown q) (bases q l)) k h);
    said = said;
  },
  λ _. (
    record { zero = refl; drafted = λ q l. (begins now.counter now.pages q (b.shown q) (bases q l)).0 },
    λ q l. inl (begun_none now.counter (b.shown q) (λ s e. omega (arith, base_low now.counter now.pages q (b.shown q) (bases q l) s))),
  ),
)

-- an edit of a running medium, about to be saved
module _ (a : Meaning) (first : FirstPage) (base : ℕ → List ℕ) (saved draft : Values) (r : Rests a first base saved)
    (room : first.counter + 1 < 2 ^ 32) (s : Stands a first base) (d : Drafts a first draft) where
  -- under the new counter each page shown is a base, with the draft's records
  next : (q : ℕ) → Later first.pages q
      → Base (first.counter + 1) first.pages q (a.shown q) × (records (first.counter + 1) (a.shown q) ≡ draft_records first.counter (a.shown q))
  next q l = saves first.counter first.pages q (base q) (a.shown q) (s.drafted q l)

  -- under the new counter the pages shown say the draft
  next_said : (key : ℕ) → value_in (records (first.counter + 1) (a.shown (page_of first.pages key))) key ≡ draft key
  next_said key =
      ap (λ es. value_in es key) (next (page_of first.pages key) (key_later first.pages key (omega (arith, r.pages, r.sound.least)))).1 ∙ d key

  -- a file with the old first page and the pages shown says what was saved
  old_says : (f : File) → f.count ≡ a.pages → f.page 0 ≡ base 0 → ((q : ℕ) → Later first.pages q → f.page q ≡ a.shown q)
      → SoundFile f × Says f saved
  old_says f count zero same =
      file_says f first.pages first.counter base saved
      (rw (zero, count) r.sound) (ap pages_of zero ∙ r.pages) (ap counter_of zero ∙ r.counter)
      (λ q l. rw (same q l) (drafted_reads first.counter first.pages q (base q) (a.shown q) (s.drafted q l))) r.said

  -- and with the new counter it says the draft
  new_says : (f : File) → f.count ≡ a.pages → f.page 0 ≡ recounted (base 0) (first.counter + 1)
      → ((q : ℕ) → Later first.pages q → f.page q ≡ a.shown q) → SoundFile f × Says f draft
  new_says f count zero same =
      file_says f first.pages (first.counter + 1) a.shown draft
      (rw zero (recounted_sound (base 0) (first.counter + 1) r.long f.count (rw count r.sound)))
      (ap pages_of zero ∙ recounted_pages (base 0) (first.counter + 1) r.long ∙ r.pages)
      (ap counter_of zero ∙ recounted_counter (base 0) (first.counter + 1) r.long room)
      (λ q l. rw (same q l) ((next q l).0.sound, refl))
      next_said

  -- while the counter may have been written or not, a cut leaves what was saved or the draft
  pub between_says : (x n : Meaning) → Sized x → Settled a x (Ok tt) → Gains x n 0 8 (spell 4 (first.counter + 1))
      → (f : File) → CutFile n f → SoundFile f × (Says f saved ⊎ Says f draft)
  between_says x n sized (_, _, pages, shown, only) g f c =
      let count : f.count ≡ a.pages = c.count ∙ g.pages ∙ pages in
      let same : (q : ℕ) → Later first.pages q → f.page q ≡ a.shown q =
      λ q l. cut_later x n sized only (first.counter + 1) g f c q (l.0, omega (arith, l.1, pages, r.pages, r.sound.there)) ∙ shown q in
      let zero : x.shown 0 ≡ base 0 = shown 0 ∙ s.zero in
      elim (cut_first x n sized only (first.counter + 1) g f c (omega (arith, pages, r.sound.least, r.sound.there))) [
        | inl e ↦ let says = old_says f count (e ∙ zero) same in (says.0, inl says.1)
        | inr e ↦ let says = new_says f count (e ∙ ap (λ p. recounted p (first.counter + 1)) zero) same in (says.0, inr says.1)
      ]

  -- once the counter is down, the draft is what is saved
  pub saved_keeps : (x y b : Meaning) (now : FirstPage) (touched : List ℕ) (either : Bool)
      → Settled a x (Ok tt) → Wrote x y 0 8 (spell 4 (first.counter + 1)) (Ok tt) → Settled y b (Ok tt)
      → now.pages ≡ first.pages → now.counter ≡ first.counter + 1
      → Keeps b (Open now) touched (record { saved = draft; draft = draft; either = either })
  saved_keeps x y b now touched either (_, _, pages-x, shown-x, _) (_, _, _, w) (_, _, pages-b, shown_b, only) pages counter =
      let zero : b.shown 0 ≡ recounted (base 0) (first.counter + 1) =
      shown_b 0 ∙ w.here ∙ ap (λ p. recounted p (first.counter + 1)) (shown-x 0 ∙ s.zero) in
      let same : (q : ℕ) → Later first.pages q → b.shown q ≡ a.shown q =
      λ q l. shown_b q ∙ w.others q (λ e. omega (arith, l.0, e)) ∙ shown-x q in
      let count : b.pages ≡ a.pages = pages-b ∙ w.gains.pages ∙ pages-x in
      let least : 2 ≤ first.pages = omega (arith, r.pages, r.sound.least) in
      settled_keeps b now touched (record { saved = draft; draft = draft; either = either }) only
      (ap length zero ∙ recounted_long (base 0) (first.counter + 1) r.long)
      (rw zero (recounted_sound (base 0) (first.counter + 1) r.long b.pages (rw count r.sound)))
      (ap pages_of zero ∙ recounted_pages (base 0) (first.counter + 1) r.long ∙ r.pages ∙ sym pages)
      (ap counter_of zero ∙ recounted_counter (base 0) (first.counter + 1) r.long room ∙ sym counter)
      (rw (counter, pages) (λ q l. rw (same q l) (next q l).0))
      (rw (counter, pages) (λ key. rw (same (page_of first.pages key) (key_later first.pages key least)) (next_said key)))
