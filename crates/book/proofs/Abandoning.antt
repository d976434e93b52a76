-- Abandoning an edit keeps the store to its book.
use Rattle.std.proofs.Common.{◌≡◌, ℕ, zero, suc, ◌<◌, Bool, true, false, List, [], ◌∷◌, length, get_or, take, Some, None, Ok, Err, ap, subst, inl, inr, ⊎_elim, arith, Result}
use Rattle.store.specs.declared.state.Edit.{Edit}
use Rattle.store.specs.Ends.{Abandons}
use Rattle.std.specs.List.{AllByRecursion}
use Rattle.std.proofs.lemmas.Bool.{cases_Bool, cases_eq}
use Rattle.octets.specs.Parts.{patched}
use Rattle.medium.specs.declared.fault.MediumFault.TheVariants.{BadRun, Stopped}
use Rattle.medium.specs.Meaning.{Gains, Meaning, Sized}
use Rattle.layout.specs.declared.first.FirstPage.{FirstPage}
use Rattle.layout.specs.declared.header.Side.{Side}
use Rattle.layout.specs.Pages.{start}
use Rattle.draft.specs.Drafts.{begun_side}
use Rattle.guard.specs.Changes.{Drafted}
use Rattle.guard.specs.Clears.{cleared_on, zeros}
use Rattle.guard.proofs.Nearby.{near_words}
use Rattle.guard.proofs.Stages.{takes_back}
use Rattle.store.specs.declared.refusal.Refusal.{Refusal}
use Rattle.store.specs.declared.state.State.{State}
use Rattle.store.specs.declared.state.State.TheVariants.{Editing}
use Rattle.store.specs.Clearing.{ClearsPage}
use Rattle.store.specs.Edits.{touched_by}
use Rattle.store.specs.Opening.{Clears}
use Rattle.book.specs.Books.{Book, Values}
use Rattle.book.specs.Keeps.{CleanBut, Keeps, Later, Rests, Stands}
use Rattle.book.proofs.Cutting.{rests_safe}
use Rattle.book.proofs.Resting.{rests_gains, rests_on, stands_patched}
use Rattle.book.proofs.Runs.{number_bad}

-- an edit in which some pages are yet to be taken back
pub record Leaving (m : Meaning) (first : FirstPage) (base : ℕ → List ℕ) (v : Values) (touched : List ℕ) : Type 0 where
  pub rests : Rests m first base v
  pub later : AllByRecursion (Later first.pages) touched
  pub runs : m.stopped ≡ false → Stands m first base × CleanBut m first touched

pub within : (m : Meaning) (first : FirstPage) (base : ℕ → List ℕ) (v : Values) (q : ℕ) → Rests m first base v → Later first.pages q → q < m.pages
within m first base v q rests l = omega (arith, l.1, rests.pages, rests.sound.there)

module _ {M : Type 0} (meaning : M → Meaning) (first : FirstPage) (base : ℕ → List ℕ) (v : Values) where
  -- clearing a number on page q, whatever comes of it
  module _ (a b : M) (q : ℕ) (s : Side) (l : Later first.pages q) (some : begun_side first.counter ((meaning a).shown q) ≡ Some s) where
    -- the page with its number overwritten
    abbrev back : List ℕ
    back = patched ((meaning a).shown q) (start s) zeros

    drafted_back : Stands (meaning a) first base → Drafted first.counter first.pages q (base q) back × (begun_side first.counter back ≡ None)
    drafted_back stands =
        subst (λ p. Drafted first.counter first.pages q (base q) p × (begun_side first.counter p ≡ None)) (ap (cleared_on ((meaning a).shown q)) some)
        (let t = takes_back first.counter first.pages q (base q) ((meaning a).shown q) (stands.drafted q l) in (t.0, t.1))

    rests_back : Stands (meaning a) first base → Gains (meaning a) (meaning b) q (start s) zeros → Rests (meaning a) first base v
        → Rests (meaning b) first base v
    rests_back stands g =
        rests_gains (meaning a) (meaning b) first base v q (start s) zeros g l
        (λ k h run. near_words first.counter (base q) back (drafted_back stands).0.near k h)

  -- a page is cleared: there was nothing begun, or a number is overwritten
  page_leaves : (q : ℕ) (qs : List ℕ) (a b : M) (t : Bool) → Leaving (meaning a) first base v (q ∷ qs)
      → ClearsPage meaning first.counter q a b (Ok t) → Leaving (meaning b) first base v qs
  page_leaves q qs a b false x (_, none, same) = rw same (record {
    rests = x.rests;
    later = x.later.1;
    runs = λ r. (
      (x.runs r).0,
      λ p h. elim ((x.runs r).1 p h) [ inl clean ↦ inl clean | inr (inl is) ↦ inl (rw is none) | inr (inr has) ↦ inr has ],
    );
  })
  page_leaves q qs a b true x (grants, (s, some, (_, _, _, patches))) =
      let stands = (x.runs grants.1).0 in
      let gone = drafted_back a b q s x.later.0 some stands in
      record {
        rests = rests_back a b q s x.later.0 some stands patches.gains x.rests;
        later = x.later.1;
        runs = λ _. (
          stands_patched (meaning a) (meaning b) first base q (start s) zeros patches x.later.0 (rw patches.here gone.0) stands,
          λ p h. elim (cases_eq p q) [
            | inl is ↦ inl (rw (is, patches.here) gone.1)
            | inr other ↦ elim ((x.runs grants.1).1 p h) [
              | inl clean ↦ inl (rw (patches.others p other) clean)
              | inr (inl is) ↦ absurd (other is)
              | inr (inr has) ↦ inr has
            ]
          ],
        );
      }

  -- or cannot be: the medium has stopped
  page_stops : (q : ℕ) (qs : List ℕ) (a b : M) (e : Refusal) → Leaving (meaning a) first base v (q ∷ qs)
      → ClearsPage meaning first.counter q a b (Err e) → Rests (meaning b) first base v × ((meaning b).stopped ≡ true)
  page_stops q qs a b e x (inl ((BadRun, _, denied), is)) = absurd (omega (arith, denied, within (meaning a) first base v q x.rests x.later.0))
  page_stops q qs a b e x (inl ((Stopped, _, denied), is)) = rw is (x.rests, denied.1)
  page_stops q qs a b e x (inr (s, BadRun, _, _, (bad, _))) =
      absurd (number_bad (meaning a).pages q s (within (meaning a) first base v q x.rests x.later.0) bad)
  page_stops q qs a b e x (inr (s, Stopped, some, _, (_, stopped, g, frozen))) = (
    ⊎_elim (λ t. rests_on (meaning a) (meaning b) first base v (frozen t).none x.rests)
        (λ f. rests_back a b q s x.later.0 some (x.runs f).0 g x.rests) (cases_Bool (meaning a).stopped),
    stopped,
  )

  -- page after page
  pages_leave : (qs : List ℕ) (a b : M) (n : ℕ) → Leaving (meaning a) first base v qs → Clears meaning first.counter qs a b n
      → Leaving (meaning b) first base v []
  pages_leave [] a b n x (is, _) = rw is x
  pages_leave (q ∷ qs) a b n x (y, t, k, page, rest, _) = pages_leave qs y b k (page_leaves q qs a y t x page) rest

  -- up to one that cannot be cleared
  pages_stop : (qs : List ℕ) (i : ℕ) (a x b : M) (n : ℕ) (e : Refusal) → Leaving (meaning a) first base v qs → i < length qs
      → Clears meaning first.counter (take i qs) a x n → ClearsPage meaning first.counter (get_or qs i 0) x b (Err e)
      → Rests (meaning b) first base v × ((meaning b).stopped ≡ true)
  pages_stop [] i a x b n e y l some last = absurd (omega (arith, l))
  pages_stop (q ∷ qs) zero a x b n e y l (is, _) last = page_stops q qs x b e (rw is y) last
  pages_stop (q ∷ qs) (suc i) a x b n e y l (z, t, k, page, rest, _) last =
      pages_stop qs i z x b k e (page_leaves q qs a z t y page) (omega (arith, l)) rest last

-- an edit, of which all is yet to be taken back
leaving : (m : Meaning) (s : State) (first : FirstPage) (touched : List ℕ) (k : Book) → s ≡ Editing first → Keeps m s touched k
    → (base : ℕ → List ℕ) × Leaving m first base k.saved touched
leaving m s first touched k is keeps =
    let edit : Keeps m (Editing first) touched k = subst (λ s. Keeps m s touched k) is keeps in
    (edit.0, record { rests = edit.1; later = edit.3; runs = λ going. let now = edit.4 going in (now.0, now.1) })

pub abandon_keeps : {M : Type 0} (meaning : M → Meaning) → ((x : M) → Sized (meaning x)) → (a b : M) (s t : State) (e : Edit) (number : ℕ)
    (r : Result (Unit {0}) Refusal) (k : Book) → Keeps (meaning a) s (touched_by e) k → Abandons meaning number a b s t e r
    → Keeps (meaning b) t (touched_by e) k
abandon_keeps meaning sized a b s t e number (Ok _) k keeps (first, (is, _), then, (n, clears)) =
    let z = leaving (meaning a) s first (touched_by e) k is keeps in
    let gone = pages_leave meaning first z.0 k.saved (touched_by e) a b n z.1 clears in rw then (z.0, gone.rests, gone.runs)
abandon_keeps meaning sized a b s t e number (Err x) k keeps (inl (_, _, is, then)) = rw (then, is) keeps
abandon_keeps meaning sized a b s t e number (Err x) k keeps (inr (first, (is, _), then, (i, l, (y, (n, some), last)))) =
    let z = leaving (meaning a) s first (touched_by e) k is keeps in
    let over = pages_stop meaning first z.0 k.saved (touched_by e) i a y b n x z.1 l some last in
    rw then (rests_safe (meaning b) first z.0 k over.0, λ runs. absurd cc)
