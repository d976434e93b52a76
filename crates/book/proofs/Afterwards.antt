-- What comes after a cut.
use Rattle.std.proofs.Common.{rules, ◌≡◌, ℕ, ◌<◌, ◌≤◌, true, false, List, [], ◌∷◌, length, Some, None, Ok, Err, Result, refl, ap, ◌∙◌, subst, inl, inr, arith}
use Rattle.octets.specs.Files.{File, word}
use Rattle.octets.proofs.Words.{words_same}
use Rattle.medium.specs.Cuts.{CutFile, shown_file}
use Rattle.medium.specs.Meaning.{Meaning, Settles, Sized}
use Rattle.medium.proofs.Cutting.{settled_leaves}
use Rattle.form.specs.declared.form.BadByte.{BadByte}
use Rattle.layout.specs.declared.first.FirstPage.{FirstPage}
use Rattle.layout.specs.Sound.{counter_of, pages_of}
use Rattle.draft.specs.Drafts.{begun_side}
use Rattle.store.specs.declared.refusal.Refusal.{Refusal}
use Rattle.store.specs.declared.state.Opened.{Opened}
use Rattle.store.specs.declared.state.Place.{Place}
use Rattle.store.specs.declared.state.State.{State}
use Rattle.store.specs.declared.state.State.TheVariants.{Shut, Open}
use Rattle.store.specs.Edits.{touched_by}
use Rattle.store.specs.Looks.{Looks, value_at}
use Rattle.store.specs.Opening.{Clears, later_pages}
use Rattle.store.specs.Opens.{First, OpenStopped, Opens}
use Rattle.book.specs.declared.call.Call.TheVariants.{LookForm}
use Rattle.book.specs.declared.call.Done.TheVariants.{Value}
use Rattle.book.specs.Books.{Book, Says, Values, opening}
use Rattle.book.specs.Keeps.{Found, Has, Keeps, Later}
use Rattle.book.specs.Theorem.{Kept, OpensAlike, ReadsForms, Reopens}
use Rattle.book.specs.Uses.{Answer, Makes, Moment, Reads}
use Rattle.book.proofs.Beginning.{clean}
use Rattle.book.proofs.Clearing.{Spread, cleared_none, clears_all, clears_until, later_has, spread_on}
use Rattle.book.proofs.Cutting.{starts, survives}
use Rattle.book.proofs.Looking.{look_says}
use Rattle.book.proofs.Opening.{open_keeps, open_refused}

-- no page shows a change that was begun
abbrev Calm : Meaning → Type 0
Calm n = (q : ℕ) → Later (pages_of (n.shown 0)) q → begun_side (counter_of (n.shown 0)) (n.shown q) ≡ None

-- only what n shows may be left of o
abbrev Leaves : Meaning → Meaning → Type 0
Leaves n o = (f : File) → CutFile o f → (p : ℕ) → p < n.pages → f.page p ≡ n.shown p

-- and that is what o shows, while it runs
abbrev Alike : Meaning → Meaning → Type 0
Alike n o = Leaves n o × (o.stopped ≡ false → (p : ℕ) → p < n.pages → o.shown p ≡ n.shown p)

-- where a cut leaves no word but those that n shows
words_leave : (n o : Meaning) → Sized n → o.pages ≡ n.pages → ((q k : ℕ) (w : List ℕ) → o.possible q k w → w ≡ word (n.shown q) k) → Leaves n o
words_leave n o sized count only f c p l =
    words_same 256 (f.page p) (n.shown p) (c.sized p (omega arith)) (sized.full p l) (λ k h. only p k _ (c.possible p k (omega arith) h))

-- a medium at rest that stays as it is
alike_itself : (n : Meaning) → Sized n → Settles n → Alike n n
alike_itself n sized only = (settled_leaves n sized only, λ _ p l. refl)

-- a stopped medium shows nothing
alike_stopped : (n o : Meaning) → Leaves n o → o.stopped ≡ true → Alike n o
alike_stopped n o leaves stop = (leaves, λ runs. absurd cc)

-- clearing pages that show no change leaves the words shown
spread_leaves : (n o : Meaning) (first : FirstPage) → Sized n → Settles n
    → ((q : ℕ) → Later first.pages q → begun_side first.counter (n.shown q) ≡ None) → Spread first.counter first.pages n o → Leaves n o
spread_leaves n o first sized only none s =
    words_leave n o sized s.count (λ q k w p. elim (s.within q k w p) [
      | inl before ↦ only q k w before
      | inr (l, is) ↦ is ∙ ap (λ page. word page k) (cleared_none first.counter (n.shown q) (none q l))
    ])

-- what a cut leaves of an opened file shows no change
open_calm : (b n : Meaning) (first : FirstPage) (touched : List ℕ) (k : Book) → Sized b → Keeps b (Open first) touched k → b.stopped ≡ false → Settles b
    → CutFile b (shown_file n) → Calm n
open_calm b n first touched k sized (base, rests, shows) runs only cut q l =
    let now = shows runs in
    let is : (p : ℕ) → p < b.pages → n.shown p ≡ b.shown p = settled_leaves b sized only (shown_file n) cut in
    let there : first.pages ≤ b.pages = omega (arith, rests.pages, rests.sound.there) in
    let zero : n.shown 0 ≡ base 0 = is 0 (omega (arith, rests.sound.least, rests.sound.there)) ∙ now.0.zero in
    let pages : pages_of (n.shown 0) ≡ first.pages = ap pages_of zero ∙ rests.pages in
    let counter : counter_of (n.shown 0) ≡ first.counter = ap counter_of zero ∙ rests.counter in
    let l' : Later first.pages q = (l.0, omega (arith, l.1, pages)) in
    (λ i. begun_side (counter i) (is q (omega (arith, there, l'.1)) i)) ∙ clean b first now.1 q l'

-- pages that show no change are cleared as they stand
clears_none : {M : Type 0} (meaning : M → Meaning) (counter : ℕ) (qs : List ℕ) (a x : M) (n : ℕ)
    → ((q : ℕ) → Has q qs → begun_side counter ((meaning a).shown q) ≡ None) → Clears meaning counter qs a x n → x ≡ a
clears_none meaning counter [] a x n none (is, _) = is
clears_none meaning counter (q ∷ qs) a x n none (y, false, k, (_, _, is), rest, _) =
    clears_none meaning counter qs y x k (λ r h. rw is (none r (inr h))) rest ∙ is
clears_none meaning counter (q ∷ qs) a x n none (y, true, k, (_, (s, some, _)), rest, _) =
    let no : begun_side counter ((meaning a).shown q) ≡ None = none q (inl refl) in
    absurd cc

module _ {M : Type 0} (meaning : M → Meaning) (n o : M) (sized : Sized (meaning n)) (only : Settles (meaning n)) (calm : Calm (meaning n)) where
  -- what stays as it is
  alike_stays : o ≡ n → Alike (meaning n) (meaning o)
  alike_stays is = rw is (alike_itself (meaning n) sized only)

  -- under the first page that is read
  calm_first : (first : FirstPage) → First (meaning n) first → (q : ℕ) → Later first.pages q → begun_side first.counter ((meaning n).shown q) ≡ None
  calm_first first (_, _, p, c) q l = ap (λ i. begun_side i ((meaning n).shown q)) c ∙ calm q (l.0, omega (arith, l.1, p))

  -- a refusal by the medium
  alike_refused : (page again : List ℕ) (e : Refusal) → OpenStopped meaning n o page again e → Alike (meaning n) (meaning o)
  alike_refused page again e (inl (_, is, _)) = alike_stays is
  alike_refused page again e (inr (first, (fs, sound, _), inl until)) =
      let r = clears_until meaning first.counter first.pages n (omega (arith, fs.1.there, fs.2)) sized sound o e until in
      alike_stopped (meaning n) (meaning o) (spread_leaves (meaning n) (meaning o) first sized only (calm_first first fs) r.1) r.0
  alike_refused page again e (inr (first, (fs, sound, _), inr (x, (i, c), (f, _, (_, stop, none, _))))) =
      let g = clears_all meaning first.counter first.pages n (omega (arith, fs.1.there, fs.2)) sized sound x i c in
      alike_stopped (meaning n) (meaning o)
      (spread_leaves (meaning n) (meaning o) first sized only (calm_first first fs)
      (spread_on first.counter first.pages (meaning n) (meaning x) (meaning o) g.spread none)) stop

  -- an opening of such a file changes no byte, whatever it answers
  alike_opens : (u : State) (page again : List ℕ) (r : Result Opened Refusal) → Opens meaning n o Shut u page again r → Alike (meaning n) (meaning o)
  alike_opens u page again (Ok x) (_, (first, (fs, _, _), (y, c, (_, _, count, shown, rest)), _, _, _)) =
      let is : y ≡ n = clears_none meaning first.counter (later_pages first.pages) n y x.cleared
      (λ q h. calm_first first fs q (later_has first.pages q h)) c in
      let same : (p : ℕ) → (meaning o).shown p ≡ (meaning n).shown p = λ p. shown p ∙ ap (λ z. (meaning z).shown p) is in (
        words_leave (meaning n) (meaning o) sized (count ∙ ap (λ z. (meaning z).pages) is) (λ q k w p. rest q k w p ∙ ap (λ page. word page k) (same q)),
        λ _ p _. same p,
      )
  alike_opens u page again (Err e) opens = elim (open_refused meaning n o Shut u page again e opens) [
    | inl (is, _) ↦ alike_stays is
    | inr (inl (is, _, _, _)) ↦ alike_stays is
    | inr (inr (inl (is, _, _, _))) ↦ alike_stays is
    | inr (inr (inr (_, stopped, _))) ↦ alike_refused page again e stopped
  ]

-- an opening after an opening and a cut changes no byte
pub opens_alike : {M : Type 0} (meaning : M → Meaning) → ((x : M) → Sized (meaning x)) → OpensAlike meaning
opens_alike meaning sized a b n o s t u touched work new page again x r k keeps (begun, (first, checked, (y, c, settled), is, counter, pages)) cut second =
    let kept : Keeps (meaning b) t touched k = open_keeps meaning sized a b s t touched work new (Ok x) k keeps (begun, (first, checked, (y, c, settled), is, counter, pages)) in
    alike_opens meaning n o (sized n) cut.only
    (open_calm (meaning b) (meaning n) first touched k (sized b) (subst (λ u. Keeps (meaning b) u touched k) is kept) settled.1 settled.4 cut.left)
    u page again r second

-- bytes that a form reads as a value are told as that value
reads_value : {M F : Type 0} (reads : List ℕ → Result F BadByte) (key : ℕ) (a b : Moment M) (bytes : List ℕ) (value : F) (x : Result Place Refusal) (r : Answer F)
    → reads bytes ≡ Ok value → (p : Place) × (x ≡ Ok p) × (value_at b.work p ≡ bytes) → Reads reads key a b x r → r ≡ Ok (Value value)
reads_value reads key a b bytes value x r there found told = search rules

module _ {M F K : Type 0} (meaning : M → Meaning) (sized : (x : M) → Sized (meaning x)) (kind : F → K) (bytes : F → List ℕ)
    (reads : K → List ℕ → Result F BadByte) (there : (v : F) → reads (kind v) (bytes v) ≡ Ok v) where
  -- a file that says some values, once it is opened, is read under its forms
  after_reads : (n o : M) (t : State) (v : Values) → Found (meaning n) v → Reopens meaning n o t
      → (a b : Moment M) (key : ℕ) (value : F) (r : Answer F) → a.store.medium ≡ o → a.store.state ≡ t → (meaning o).stopped ≡ false
      → length a.work ≡ 1024 → v key ≡ Some (bytes value) → Makes meaning bytes reads (LookForm key (kind value)) r a b → r ≡ Ok (Value value)
  after_reads n o t v found (work, new, x, (begun, (first, checked, cleared, is, counter, pages))) a b key value r medium state runs long said (y, told, looks, _) =
      let kept : Keeps (meaning o) t [] (opening v) =
      open_keeps meaning sized n o Shut t [] work new (Ok x) (opening v) (starts meaning sized n v [] found) (begun, (first, checked, cleared, is, counter, pages)) in
      let now : Keeps (meaning o) (Open first) [] (opening v) = subst (λ u. Keeps (meaning o) u [] (opening v)) is kept in
      let look : Looks (meaning o) (Open first) key a.work b.work y =
      subst (λ u. Looks (meaning o) u key a.work b.work y) (state ∙ is)
      (subst (λ z. Looks (meaning z) a.store.state key a.work b.work y) medium looks) in
      reads_value (reads (kind value)) key a b (bytes value) value y r (there value)
      (look_says (meaning o) first now.0 v key a.work b.work (bytes value) now.1 (now.2 runs).0 runs long said y look) told

-- what a cut leaves is read under its forms
pub reads_forms : {M F K : Type 0} (meaning : M → Meaning) → ((x : M) → Sized (meaning x)) → (kind : F → K) (bytes : F → List ℕ) (reads : K → List ℕ → Result F BadByte)
    → ((v : F) → reads (kind v) (bytes v) ≡ Ok v) → (a : Moment M) (k : Book) → Kept meaning a k
    → ReadsForms meaning kind bytes reads a.store.medium k
reads_forms meaning sized kind bytes reads there a k kept n o t cut again =
    let left = survives meaning sized a.store.medium a.store.state (touched_by a.store.edit) k kept (shown_file (meaning n)) cut.left in
    let told = λ (v : Values) (says : Says (shown_file (meaning n)) v).
    after_reads meaning sized kind bytes reads there n o t v (record { only = cut.only; sound = left.0; says = says }) again in
    elim left.1 [
      | inl says ↦ (k.saved, inl refl, says, told k.saved says)
      | inr (either, says) ↦ (k.draft, inr (either, refl), says, told k.draft says)
    ]
