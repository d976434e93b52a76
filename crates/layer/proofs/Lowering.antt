-- An image goes below, or is passed over, or the medium stops as it does.
use Rattle.std.proofs.Common.{◌≡◌, ◌<◌, ◌≤◌, Bool, true, false, ◌&&◌, length, Ok, Err, MatchBool, sym, refl, ap, ◌∙◌, subst}
use Rattle.std.proofs.lemmas.Bool.{both_ways, le-ltb, lt-ltb}
use Rattle.medium.specs.declared.fault.MediumFault.{MediumFault}
use Rattle.medium.specs.declared.fault.MediumFault.TheVariants.{BadRun, Stopped}
use Rattle.medium.specs.Meaning.{Meaning, Wrote, good}
use Rattle.layer.specs.Below.{Stuck, Went}
use Rattle.layer.specs.declared.held.Held.{Held}

module _ {M : Type 0} (meaning : M → Meaning) where
  pub went_down : (h : Held) (a b : M) → h.page < (meaning a).pages → Wrote (meaning a) (meaning b) h.page 0 h.image (Ok tt) → Went meaning h a b
  went_down h a b l w =
      subst (λ (t : Bool). MatchBool t (Wrote (meaning a) (meaning b) h.page 0 h.image (Ok tt)) (b ≡ a)) (sym (lt-ltb h.page (meaning a).pages l)) w

  pub went_past : (h : Held) (a : M) → (meaning a).pages ≤ h.page → Went meaning h a a
  went_past h a l =
      subst (λ (t : Bool). MatchBool t (Wrote (meaning a) (meaning a) h.page 0 h.image (Ok tt)) (a ≡ a)) (sym (le-ltb h.page (meaning a).pages l)) refl

  -- a whole page of the medium is no bad run
  whole_good : (h : Held) (a : M) → h.page < (meaning a).pages → good (meaning a).pages h.page 0 (length h.image) ≡ true
  whole_good h a l = ap (good (meaning a).pages h.page 0) h.full ∙ ap (λ t. t && true) (lt-ltb h.page (meaning a).pages l)

  pub stuck_at : (h : Held) (a b : M) (e : MediumFault) → h.page < (meaning a).pages → (meaning a).stopped ≡ false
      → Wrote (meaning a) (meaning b) h.page 0 h.image (Err e) → (e ≡ Stopped) × Stuck meaning h a b
  stuck_at h a b BadRun l runs w = absurd (both_ways (good (meaning a).pages h.page 0 (length h.image)) w.0 (whole_good h a l))
  stuck_at h a b Stopped l runs w = (refl, (runs, w))
