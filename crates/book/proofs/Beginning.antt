-- Beginning an edit keeps the store to its book.
use Rattle.std.proofs.Common.{◌≡◌, ℕ, ◌+◌, ◌^◌, ◌<◌, List, [], map, None, Ok, Err, ap, ◌∙◌, subst, inl, inr, arith, rules, Result}
use Rattle.store.specs.declared.slip.Slip.{Slip}
use Rattle.store.specs.declared.state.State.{State}
use Rattle.store.specs.declared.state.Edit.{Edit}
use Rattle.store.specs.declared.refusal.Refusal.{Refusal}
use Rattle.medium.specs.Meaning.{Meaning, Sized}
use Rattle.layout.specs.declared.first.FirstPage.{FirstPage}
use Rattle.layout.specs.Pages.{entry_of, page_of, records}
use Rattle.draft.specs.Drafts.{begun_side, draft_records, slots_on}
use Rattle.guard.specs.Changes.{Drafted, value_in}
use Rattle.guard.proofs.Nearby.{near_records}
use Rattle.guard.proofs.Stages.{draft_all}
use Rattle.store.specs.declared.state.State.TheVariants.{Open, Editing}
use Rattle.store.specs.Edits.{touched_by, Begins}
use Rattle.book.specs.Books.{Book, begun}
use Rattle.book.specs.Keeps.{CleanBut, Keeps, Later}
use Rattle.book.proofs.Ranges.{key_later}

-- where no header is begun, the draft is what is saved
pub unbegun_draft : (counter pages q : ℕ) (base page : List ℕ) → Drafted counter pages q base page → begun_side counter page ≡ None
    → draft_records counter page ≡ records counter base
unbegun_draft counter pages q base page d none =
    ap (map (entry_of page)) (draft_all counter pages q page d.fits ∙ ap (slots_on counter page) none)
    ∙ near_records counter pages q base page d.base_fits d.near

-- no page is named
pub clean : (m : Meaning) (first : FirstPage) → CleanBut m first [] → (q : ℕ) → Later first.pages q → begun_side first.counter (m.shown q) ≡ None
clean m first c q l = elim (c q l) [ inl none ↦ none | inr x ↦ absurd x ]

-- an edit of which nothing is changed yet
begins_edit : (m : Meaning) (first : FirstPage) (touched ts : List ℕ) (k : Book) → first.counter + 1 < 2 ^ 32 → ts ≡ []
    → Keeps m (Open first) touched k → Keeps m (Editing first) ts (record { saved = k.saved; draft = k.saved; either = k.either })
begins_edit m first touched ts k fits none (base, rests, runs) = (
  base,
  rests,
  fits,
  rw none tt,
  λ going.
      let now = runs going in
      let later : (key : ℕ) → Later first.pages (page_of first.pages key) = λ key. key_later first.pages key (omega (arith, rests.sound.least, rests.pages)) in (
        now.0,
        rw none now.1,
        λ key.
            ap (λ es. value_in es key)
            (unbegun_draft first.counter first.pages (page_of first.pages key) (base (page_of first.pages key)) (m.shown (page_of first.pages key))
            (now.0.drafted (page_of first.pages key) (later key)) (clean m first now.1 (page_of first.pages key) (later key)))
            ∙ rests.said key,
      ),
)

pub begin_keeps : {M : Type 0} (meaning : M → Meaning) → ((x : M) → Sized (meaning x)) → (a : M) (s t : State) (e f : Edit) (r : Result Slip Refusal) (k : Book)
    → Keeps (meaning a) s (touched_by e) k → Begins s t e f r → Keeps (meaning a) t (touched_by f) (begun k r)
begin_keeps meaning sized a s t e f (Ok slip) k keeps (first, is, fits, number, then, changes, none) =
    rw then
    (begins_edit (meaning a) first (touched_by e) (touched_by f) k fits none (subst (λ s. Keeps (meaning a) s (touched_by e) k) is keeps))
begin_keeps meaning sized a s t e f (Err x) k keeps begins =
    let same : (t ≡ s) × (f ≡ e) = search rules in
    rw (same.0, same.1) keeps
