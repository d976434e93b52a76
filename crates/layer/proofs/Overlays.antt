-- A medium with images over some of its pages: what a patch of one, and one that goes below, do to it.
use Rattle.std.proofs.Common.{◌≡◌, ℕ, ◌+◌, ◌<◌, ◌≤◌, false, ◌⊎◌, List, ◌++◌, length, Some, None, Option, unwrap_or, sym, refl, ap, ◌∙◌, subst, inl, inr, ⊎_elim, arith, MatchOption}
use Rattle.std.proofs.lemmas.List.{append-nil, drop_all}
use Rattle.std.proofs.lemmas.Option.{MatchOption-at_some, MatchOption-at_none}
use Rattle.std.proofs.lemmas.Bool.{cases_eq}
use Rattle.octets.specs.Files.{word}
use Rattle.octets.specs.Parts.{patched}
use Rattle.medium.specs.Meaning.{Meaning, Shows, NoGain, Gains, Patches, InRun}
use Rattle.medium.proofs.Runs.{Good, in_run, word_beside}
use Rattle.layer.specs.Holds.{over, over_shows}

-- word k of an image, where there is one
abbrev InImage : Option (List ℕ) → ℕ → List ℕ → Type 0
InImage o k w = MatchOption o ⊥ (λ x. (k < 256) × (w ≡ word x k))

-- a page is shown with a run put in
module _ (m : Meaning) (f g : ℕ → Option (List ℕ)) (p s : ℕ) (b : List ℕ) (shows : Shows m) (runs : m.stopped ≡ false)
    (full : length ((over m f).shown p) ≡ 1024) (good : Good m.pages p s (length b))
    (here : g p ≡ Some (patched ((over m f).shown p) s b)) (others : (q : ℕ) → (q ≡ p → ⊥) → g q ≡ f q) where
  at_page : (k : ℕ) (w : List ℕ) → (k < 256) × (w ≡ word (patched ((over m f).shown p) s b) k)
      → (over m f).possible p k w ⊎ (InRun s (length b) k × (w ≡ word (patched ((over m f).shown p) s b) k))
  at_page k w h =
      ⊎_elim (λ run. inr (run, h.1))
      (λ beside. inl (subst (λ (v : List ℕ). (over m f).possible p k v)
      (sym (h.1 ∙ word_beside ((over m f).shown p) b s k good.start good.whole (omega (arith, full, good.room)) beside))
      ((over_shows m f shows).shown_possible runs p k good.page h.0)))
      (in_run s (length b) k)

  within : (q k : ℕ) (w : List ℕ) → (over m g).possible q k w
      → (over m f).possible q k w ⊎ ((q ≡ p) × InRun s (length b) k × (w ≡ word (patched ((over m f).shown p) s b) k))
  within q k w (inl h) = inl (inl h)
  within q k w (inr h) =
      ⊎_elim
      (λ is. ⊎_elim (λ old. inl (subst (λ (x : ℕ). (over m f).possible x k w) (sym is) old)) (λ new. inr (is, new.0, new.1))
      (at_page k w (MatchOption-at_some ⊥ (λ x. (k < 256) × (w ≡ word x k)) (patched ((over m f).shown p) s b) (ap g is ∙ here) h)))
      (λ ne. inl (inr (subst (λ (o : Option (List ℕ)). InImage o k w) (others q ne) h)))
      (cases_eq q p)

  pub over_patches : Patches (over m f) (over m g) p s b
  over_patches = record {
    gains = record { pages = refl; within = within };
    here = ap (λ o. unwrap_or o (m.shown p)) here;
    others = λ q ne. ap (λ o. unwrap_or o (m.shown q)) (others q ne);
  }

-- no more may be left, and all is shown as before
pub record Stays (a b : Meaning) : Type 0 where
  pub none : NoGain a b
  pub shown : (p : ℕ) → b.shown p ≡ a.shown p

pub over_same : (m : Meaning) (f g : ℕ → Option (List ℕ)) → ((q : ℕ) → g q ≡ f q) → Stays (over m f) (over m g)
over_same m f g same = record {
  none = record {
    pages = refl;
    within = λ q k w. ⊎_elim inl (λ h. inr (subst (λ (o : Option (List ℕ)). InImage o k w) (same q) h));
  };
  shown = λ q. ap (λ o. unwrap_or o (m.shown q)) (same q);
}

patched_all : (page b : List ℕ) → length page ≤ length b → patched page 0 b ≡ b
patched_all page b h = ap (λ l. b ++ l) (drop_all (0 + length b) page (omega arith)) ∙ append-nil b

-- an image goes below
module _ (m n : Meaning) (f g : ℕ → Option (List ℕ)) (p : ℕ) (x : List ℕ) (full : length x ≡ 1024) (size : length (m.shown p) ≡ 1024)
    (top : f p ≡ Some x) where
  whole : patched (m.shown p) 0 x ≡ x
  whole = patched_all (m.shown p) x (omega arith)

  below : Gains m n p 0 x → ((q : ℕ) → (g q ≡ f q) ⊎ (g q ≡ None)) → (q k : ℕ) (w : List ℕ) → (over n g).possible q k w → (over m f).possible q k w
  below gains fewer q k w (inl h) =
      ⊎_elim inl
      (λ new. inr (subst (λ (o : Option (List ℕ)). InImage o k w) (sym (ap f new.0 ∙ top)) (omega (arith, new.1.1), new.2 ∙ ap (λ l. word l k) whole)))
      (gains.within q k w h)
  below gains fewer q k w (inr h) =
      ⊎_elim (λ e. inr (subst (λ (o : Option (List ℕ)). InImage o k w) e h))
      (λ e. absurd (MatchOption-at_none ⊥ (λ y. (k < 256) × (w ≡ word y k)) e h)) (fewer q)

  -- whether it came down or not
  pub down_none : Gains m n p 0 x → ((q : ℕ) → (g q ≡ f q) ⊎ (g q ≡ None)) → NoGain (over m f) (over n g)
  down_none gains fewer = record { pages = gains.pages; within = below gains fewer }

  pub down_stays : Patches m n p 0 x → g p ≡ None → ((q : ℕ) → (q ≡ p → ⊥) → g q ≡ f q) → Stays (over m f) (over n g)
  down_stays patches gone others = record {
    none = down_none patches.gains (λ q. ⊎_elim (λ is. inr (ap g is ∙ gone)) (λ ne. inl (others q ne)) (cases_eq q p));
    shown = λ q. ⊎_elim (at q) (beside q) (cases_eq q p);
  }
    where
      at : (q : ℕ) → q ≡ p → (over n g).shown q ≡ (over m f).shown q
      at q is =
          ap (λ o. unwrap_or o (n.shown q)) (ap g is ∙ gone) ∙ ap n.shown is ∙ patches.here ∙ whole
          ∙ ap (λ o. unwrap_or o (m.shown q)) (sym (ap f is ∙ top))

      beside : (q : ℕ) → (q ≡ p → ⊥) → (over n g).shown q ≡ (over m f).shown q
      beside q ne = ap (λ o. unwrap_or o (n.shown q)) (others q ne) ∙ ap (unwrap_or (f q)) (patches.others q ne)
