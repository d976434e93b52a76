-- The ways in which a change ends.
use Rattle.std.proofs.Common.{◌≡◌, ℕ, Bool, List, length, Ok, Err, Result, sym, refl, subst, inl, inr}
use Rattle.medium.specs.Meaning.{Meaning}
use Rattle.layout.specs.declared.first.FirstPage.{FirstPage}
use Rattle.layout.specs.Pages.{page_of}
use Rattle.draft.specs.declared.refusal.PageRefusal.{PageRefusal}
use Rattle.store.specs.declared.refusal.Refusal.{Refusal}
use Rattle.store.specs.declared.state.Edit.{Edit}
use Rattle.store.specs.declared.state.State.{State}
use Rattle.store.specs.Access.{Loads}
use Rattle.store.specs.Edits.{Applies, Edits, Offers, PageChange, Ready, passed_up}

-- what was found of a work page of 1,024 bytes, of one that has as many
pub ready_at : (s : State) (changes size number : ℕ) (long : Bool) (r : Result FirstPage Refusal) → size ≡ 1024 → Ready s changes 1024 number long r → Ready s changes size number long r
ready_at s changes size number long r e = subst (λ n. Ready s changes n number long r) (sym e)

module _ {M : Type 0} (meaning : M → Meaning) (change : PageChange) (key number : ℕ) (long : Bool) (a : M) (s : State) (e : Edit) (work : List ℕ) (first : FirstPage)
    (ready : Ready s e.changes (length work) number long (Ok first)) (q : ℕ) (is : q ≡ page_of first.pages key) where
  pub edit_unread : (new : List ℕ) (x : Refusal) → Loads (meaning a) q work new (Err x) → Edits meaning change key number long a a s e e work new (Err x)
  edit_unread new x l = inr (first, ready, inl (subst (λ p. Loads (meaning a) p work new (Err x)) is l, refl, refl))

  applied : (b : M) (f : Edit) (new : List ℕ) (r : Result (Unit {0}) Refusal) → Applies meaning change first.counter q a b e f new r → Edits meaning change key number long a b s e f work new r
  applied b f new (Ok u) h = (first, ready, subst (λ p. Applies meaning change first.counter p a b e f new (Ok u)) is h)
  applied b f new (Err x) h = inr (first, ready, inr (subst (λ p. Applies meaning change first.counter p a b e f new (Err x)) is h))

  -- the page refused
  pub edit_unchanged : (image new : List ℕ) (k : PageRefusal) → Loads (meaning a) q work image (Ok tt) → change first.counter image new (Err k)
      → Edits meaning change key number long a a s e e work new (Err (passed_up k))
  edit_unchanged image new k l c =
      applied a e new (Err (passed_up k)) (l.0, inl (k, refl, subst (λ y. change first.counter y new (Err k)) l.1 c, refl, refl))

  -- the page was changed, and offered to the medium
  pub edit_offered : (b : M) (f : Edit) (image new : List ℕ) (o : Result (Unit {0}) Refusal) → Loads (meaning a) q work image (Ok tt)
      → change first.counter image new (Ok tt) → Offers meaning a b e f q new o → Edits meaning change key number long a b s e f work new o
  edit_offered b f image new (Ok v) l c h = applied b f new (Ok v) (l.0, subst (λ y. change first.counter y new (Ok tt)) l.1 c, h)
  edit_offered b f image new (Err x) l c h = applied b f new (Err x) (l.0, inr (subst (λ y. change first.counter y new (Ok tt)) l.1 c, h))
