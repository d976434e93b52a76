-- The ways in which an opening ends.
use Rattle.std.proofs.Common.{◌≡◌, ℕ, List, get_or, Ok, Err, Result, sym, refl, subst, inl, inr, ⊎_elim}
use Rattle.medium.specs.declared.fault.MediumFault.{MediumFault}
use Rattle.medium.specs.Meaning.{Meaning, Settled}
use Rattle.layout.specs.declared.first.FirstPage.{FirstPage}
use Rattle.store.specs.declared.refusal.Refusal.{Refusal}
use Rattle.store.specs.declared.refusal.Refusal.TheVariants.{Medium}
use Rattle.store.specs.declared.refusal.Step.{Step}
use Rattle.store.specs.declared.refusal.Step.TheVariants.{Read, Write, Settle}
use Rattle.store.specs.declared.state.Opened.{Opened}
use Rattle.store.specs.declared.state.State.{State}
use Rattle.store.specs.declared.state.State.TheVariants.{Open, Shut}
use Rattle.store.specs.Opening.{ChecksPages, Clears, ClearsUntil, later_pages}
use Rattle.store.specs.Opens.{Begun, Checked, First, OpenStopped, Opens}
use Rattle.store.specs.Refusals.{during}
use Rattle.store.proofs.Loading.{answered, refused}

module _ {M : Type 0} (meaning : M → Meaning) (a : M) (s : State) (work new : List ℕ) (begun : Begun (meaning a) s work) where
  pub open_unsound : (first : FirstPage) (e : Refusal) → First (meaning a) first → ChecksPages (meaning a) first new (Err e) → Opens meaning a a s Shut work new (Err e)
  open_unsound first e f c =
      subst (λ x. Opens meaning a a s Shut work new (Err x)) (sym c.1)
      (begun, (first, f, c.2, c.3, c.4, c.5), refl, refl, c.6)

  stopped : (b : M) (e : Refusal) (step : Step) (p : ℕ) (f : MediumFault) → e ≡ Medium step p f → OpenStopped meaning a b work new e → Opens meaning a b s Shut work new (Err e)
  stopped b e step p f is o =
      subst (λ x. Opens meaning a b s Shut work new (Err x)) (sym is) (begun, subst (OpenStopped meaning a b work new) is o, refl)

  pub open_until : (b : M) (first : FirstPage) (e : Refusal) → Checked (meaning a) first new → ClearsUntil meaning first.counter (later_pages first.pages) a b e
      → Opens meaning a b s Shut work new (Err e)
  open_until b first e k u =
      ⊎_elim (λ d. stopped b e Read (get_or (later_pages first.pages) u.0 0) d.0.0 d.0.1 (inr (first, k, inl u)))
      (λ w. stopped b e Write (get_or (later_pages first.pages) u.0 0) w.1 w.3 (inr (first, k, inl u))) u.2.2

  pub open_unsettled : (x b : M) (first : FirstPage) (n : ℕ) (r : Result (Unit {0}) MediumFault) (t : Result (Unit {0}) Refusal) (e : Refusal) → Checked (meaning a) first new
      → Clears meaning first.counter (later_pages first.pages) a x n → Settled (meaning x) (meaning b) r → t ≡ during Settle 0 r → t ≡ Err e
      → Opens meaning a b s Shut work new (Err e)
  open_unsettled x b first n r t e k c h d is =
      let f = refused Settle 0 r t e d is in
      stopped b e Settle 0 f.0 f.2 (inr (first, k, inr (x, (n, c), (f.0, f.2, subst (Settled (meaning x) (meaning b)) f.1 h))))

  pub open_done : (x b : M) (first : FirstPage) (r : Result (Unit {0}) MediumFault) (t : Result (Unit {0}) Refusal) (u : Unit {0}) (o : Opened) → Checked (meaning a) first new
      → Clears meaning first.counter (later_pages first.pages) a x o.cleared → Settled (meaning x) (meaning b) r → t ≡ during Settle 0 r → t ≡ Ok u
      → o.counter ≡ first.counter → o.pages ≡ first.pages → Opens meaning a b s (Open first) work new (Ok o)
  open_done x b first r t u o k c h d is p q =
      (begun, (first, k, (x, c, subst (Settled (meaning x) (meaning b)) (answered Settle 0 r t u d is) h), refl, p, q))
