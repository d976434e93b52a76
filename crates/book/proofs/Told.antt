-- What a look tells of the page.
use Rattle.std.proofs.Common.{◌≡◌, ℕ, List, Ok, Err, Option, Result, unwrap_or, ap, ◌∙◌, inr}
use Rattle.std.specs.Option.{option_map}
use Rattle.medium.specs.Meaning.{Meaning}
use Rattle.form.specs.declared.form.BadByte.{BadByte}
use Rattle.store.specs.declared.state.Place.{Place}
use Rattle.store.specs.Looks.{Looks, opened, value_at}
use Rattle.book.specs.declared.call.Denied.TheVariants.{NotOfForm}
use Rattle.book.specs.Uses.{Answer, LooksUnder, Moment}
use Rattle.layout.specs.declared.first.FirstPage.{FirstPage}
use Rattle.layout.specs.Pages.{page_of}

-- a look under a form that found bytes with a bad one
pub read_bad : {M F : Type 0} (meaning : M → Meaning) (reads : List ℕ → Result F BadByte) (key page : ℕ) (a b : Moment M) (p : Place) (bad : BadByte) (r : Answer F)
    → Looks (meaning a.store.medium) a.store.state key a.work b.work (Ok p) → reads (value_at b.work p) ≡ Err bad
    → page ≡ unwrap_or (option_map (λ first. page_of first.pages key) (opened a.store.state)) 0 → r ≡ Err (NotOfForm key page bad)
    → LooksUnder meaning reads key a b r
read_bad meaning reads key page a b p bad r looks e at is = (
  Ok p,
  inr (
    bad,
    e,
    (
      looks.0,
      looks.1.1,
      is ∙ ap (λ p. Err (NotOfForm key p bad)) (at ∙ ap (λ (o : Option FirstPage). unwrap_or (option_map (λ first. page_of first.pages key) o) 0) looks.1.1),
    ),
  ),
  looks,
)
