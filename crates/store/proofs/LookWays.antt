-- The ways in which a look ends.
use Rattle.std.proofs.Common.{◌≡◌, ℕ, ◌+◌, ◌-◌, List, length, Some, None, Ok, Err, Option, Result, sym, refl, ap, ◌∙◌, subst, inl, inr}
use Rattle.std.specs.Option.{option_map}
use Rattle.medium.specs.Meaning.{Meaning}
use Rattle.layout.specs.declared.first.FirstPage.{FirstPage}
use Rattle.layout.specs.declared.record.Record.{Record}
use Rattle.layout.specs.Pages.{page_of, records}
use Rattle.layout.specs.Walks.{keyed, seen}
use Rattle.store.specs.declared.refusal.Refusal.{Refusal}
use Rattle.store.specs.declared.refusal.Refusal.TheVariants.{NoSuchKey}
use Rattle.store.specs.declared.state.Place.{Place}
use Rattle.store.specs.declared.state.State.{State}
use Rattle.store.specs.Access.{Loads}
use Rattle.store.specs.Looks.{Looks, Readable, saved_on}

-- what was found of a work page of 1,024 bytes, of one that has as many
pub readable_at : (s : State) (size : ℕ) (r : Result FirstPage Refusal) → size ≡ 1024 → Readable s 1024 r → Readable s size r
readable_at s size r e = subst (λ n. Readable s n r) (sym e)

module _ (m : Meaning) (s : State) (key : ℕ) (work new : List ℕ) (first : FirstPage) (ready : Readable s (length work) (Ok first)) (q : ℕ) (is : q ≡ page_of first.pages key) where
  pub look_unread : (x : Refusal) → Loads m q work new (Err x) → Looks m s key work new (Err x)
  look_unread x l = inr (first, ready, inl (subst (λ p. Loads m p work new (Err x)) is l))

  there : Loads m q work new (Ok tt) → Loads m (page_of first.pages key) work new (Ok tt)
  there l = subst (λ p. Loads m p work new (Ok tt)) is l

  pub look_none : (o : Option Record) → Loads m q work new (Ok tt) → option_map seen o ≡ keyed key (records first.counter new) → o ≡ None → Looks m s key work new (Err NoSuchKey)
  look_none o l f e =
      let k = there l in
      inr (first, ready, inr (k.0, k.1, refl, ap (saved_on first key) (sym k.1) ∙ sym f ∙ ap (option_map seen) e))

  pub look_found : (o : Option Record) (r : Record) (p : Place) → Loads m q work new (Ok tt) → option_map seen o ≡ keyed key (records first.counter new) → o ≡ Some r
      → p.at ≡ r.slot.offset + 4 → p.length ≡ r.slot.length - 4 → Looks m s key work new (Ok p)
  look_found o r p l f e at long =
      let k = there l in
      (first, ready, k.0, k.1, (seen r, ap (saved_on first key) (sym k.1) ∙ sym f ∙ ap (option_map seen) e, at, long))
