-- Making room for one more image, and holding it.
use Rattle.std.proofs.Common.{◌≡◌, ℕ, ◌<◌, Bool, true, false, ◌||◌, ltb, List, [], ◌∷◌, ◌++◌, length, get_or, set, is_some, Some, None, Ok, Err, MatchBool, Result, unwrap_or, sym, refl, ap, ◌∙◌, subst, arith}
use Rattle.std.proofs.lemmas.List.{take_all}
use Rattle.std.proofs.lemmas.Bool.{cond_both, cond-true, lt-ltb}
use Rattle.octets.specs.Parts.{part, patched}
use Rattle.medium.specs.declared.fault.MediumFault.{MediumFault}
use Rattle.medium.specs.declared.fault.MediumFault.TheVariants.{Stopped}
use Rattle.medium.specs.Meaning.{Meaning}
use Rattle.layer.specs.Below.{MadeRoom, Puts, room}
use Rattle.layer.specs.Distinct.{look}
use Rattle.layer.specs.Holds.{Placed, holds, image_of}
use Rattle.layer.specs.declared.held.Held.{Held}
use Rattle.layer.proofs.Images.{look_rest, put_last}

-- a page that is not held has no image
pub no_image : (m : Meaning) (hs : List Held) (p : ℕ) → look hs p ≡ None → image_of m hs p ≡ None
no_image m hs p e = cond_both (ltb p m.pages) (look hs p) None (λ o. o ≡ None) (λ _. e) (λ _. refl)

module _ {M : Type 0} (meaning : M → Meaning) (hs : List Held) (a : M) (gs : List Held) (b : M) where
  -- once room is made, none is held that was not
  pub made_new : (t : Bool) (hs : List Held) (p : ℕ) → MadeRoom meaning t hs a gs b (Ok tt) → look hs p ≡ None → look gs p ≡ None
  made_new true hs p h e = ap (λ k. look k p) h.1 ∙ e
  made_new false [] p h e = absurd h
  made_new false (x ∷ xs) p h e = ap (λ k. look k p) h.0 ∙ look_rest x xs p e

  room_stops : (t : Bool) (hs : List Held) (e : MediumFault) → MadeRoom meaning t hs a gs b (Err e) → e ≡ Stopped
  room_stops true hs e h = let r : ◌≡◌ {A = Result (Unit {0}) MediumFault} (Err e) (Ok tt) = h.0 in cc
  room_stops false [] e h = absurd h
  room_stops false (x ∷ xs) e h = h.0

  -- the same room for a page that is not held
  for_page : (p : ℕ) → look hs p ≡ None → (r : Result (Unit {0}) MediumFault)
      → MadeRoom meaning (ltb (length hs) 8) hs a gs b r → MadeRoom meaning (room hs p) hs a gs b r
  for_page p new r =
      subst (λ (t : Bool). MadeRoom meaning t hs a gs b r) (ap (λ o. is_some o || ltb (length hs) 8) (sym new))

  pub puts_stopped : (p s : ℕ) (bytes : List ℕ) (e : MediumFault) → look hs p ≡ None → (meaning a).stopped ≡ false
      → MadeRoom meaning (ltb (length hs) 8) hs a gs b (Err e) → Puts meaning hs a gs b p s bytes (Err e)
  puts_stopped p s bytes e new runs h =
      let is = room_stops (ltb (length hs) 8) hs e h in
      let made : MadeRoom meaning (room hs p) hs a gs b (Err Stopped) =
      subst (λ (x : MediumFault). MadeRoom meaning (room hs p) hs a gs b (Err x)) is (for_page p new (Err e) h) in
      subst (λ (x : MediumFault). Puts meaning hs a gs b p s bytes (Err x)) (sym is)
      (subst (λ (t : Bool). MatchBool t ((gs ≡ hs) × (b ≡ a)) (MadeRoom meaning (room hs p) hs a gs b (Err Stopped))) (sym runs) made)

-- a page that is not held, fetched and held with a run put in
pub puts_new : {M : Type 0} (meaning : M → Meaning) (hs : List Held) (a : M) (ks : List Held) (b : M) (gs : List Held) (x : Held) (p s : ℕ) (bytes image : List ℕ)
    → look hs p ≡ None → length ((meaning a).shown p) ≡ 1024 → image ≡ part ((meaning a).shown p) 0 1024
    → x.page ≡ p → x.image ≡ patched image s bytes → MadeRoom meaning (ltb (length hs) 8) hs a ks b (Ok tt) → gs ≡ ks ++ x ∷ []
    → Puts meaning hs a gs b p s bytes (Ok tt)
puts_new meaning hs a ks b gs x p s bytes image new full read page is made after =
    let whole : image ≡ (meaning a).shown p = read ∙ take_all 1024 ((meaning a).shown p) (omega arith) in
    let shown : (meaning a).shown p ≡ (holds (meaning a) hs).shown p =
    ap (λ o. unwrap_or o ((meaning a).shown p)) (sym (no_image (meaning a) hs p new)) in
    let unheld : look ks x.page ≡ None = ap (look ks) page ∙ made_new meaning hs a ks b (ltb (length hs) 8) hs p made new in (
      x,
      page,
      is ∙ ap (λ k. patched k s bytes) (whole ∙ shown),
      (ks, for_page meaning hs a ks b p new (Ok tt) made, after ∙ sym (put_last ks x unheld)),
    )

-- a page that is held, with a run put in
pub puts_held : {M : Type 0} (meaning : M → Meaning) (hs : List Held) (a : M) (x old : Held) (p s i : ℕ) (bytes : List ℕ)
    → Placed hs p (Some i) → p < (meaning a).pages → old ≡ get_or hs i old → x.page ≡ old.page → x.image ≡ patched old.image s bytes
    → Puts meaning hs a (set hs i x) a p s bytes (Ok tt)
puts_held meaning hs a x old p s i bytes at l is page image =
    let here : x.page ≡ p = page ∙ ap (λ h. h.page) is ∙ (at.1 old).0 in
    let held : look hs p ≡ Some old.image = (at.1 old).1 ∙ ap (λ h. Some h.image) (sym is) in
    let shown : old.image ≡ (holds (meaning a) hs).shown p =
    ap (λ o. unwrap_or o ((meaning a).shown p)) (sym (cond-true (ltb p (meaning a).pages) (look hs p) None (lt-ltb p (meaning a).pages l) ∙ held)) in
    let any : true ≡ room hs p = ap (λ o. is_some o || ltb (length hs) 8) (sym held) in (
      x,
      here,
      image ∙ ap (λ k. patched k s bytes) shown,
      (hs, subst (λ (t : Bool). MadeRoom meaning t hs a hs a (Ok tt)) any (refl, refl, refl), at.2 x here),
    )
