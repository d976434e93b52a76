-- The ways in which the laying of a file ends.
use Rattle.std.proofs.Common.{◌≡◌, ℕ, ◌+◌, ◌<◌, List, [], ◌∷◌, ◌++◌, length, get_or, take, replicate, Ok, Err, Result, sym, refl, ap, ◌∙◌, subst, inl, inr, ⊎_elim, zero-add, arith}
use Rattle.std.specs.List.{range_with_len}
use Rattle.std.proofs.lemmas.List.{map-id}
use Rattle.std.proofs.lemmas.List.FromFn.{get_or-range_with_len, length-range_with_len, map-range_with_len_more, take-map-range_with_len}
use Rattle.octets.specs.Numbers.{spell}
use Rattle.octets.specs.Parts.{patched}
use Rattle.medium.specs.declared.fault.MediumFault.{MediumFault}
use Rattle.medium.specs.Meaning.{Meaning, Settled, Wrote}
use Rattle.store.specs.declared.refusal.Refusal.{Refusal}
use Rattle.store.specs.declared.refusal.Refusal.TheVariants.{Medium}
use Rattle.store.specs.declared.refusal.Step.{Step}
use Rattle.store.specs.declared.refusal.Step.TheVariants.{Settle, Write}
use Rattle.store.specs.declared.state.State.{State}
use Rattle.store.specs.declared.state.State.TheVariants.{Shut}
use Rattle.store.specs.Lays.{CanLay, LayStopped, Lays, Names, Writes, WritesUntil, Zeroes, first_image, named, zero_page}
use Rattle.store.specs.Refusals.{during}
use Rattle.store.proofs.Loading.{answered, refused}

-- zeros in all of a page
pub zero_filled : (old new : List ℕ) → length old ≡ 1024 → new ≡ replicate (length old) 0 → new ≡ zero_page
unfolding zero_page
zero_filled old new long is = is ∙ ap (λ n. replicate n 0) long

pub named_is : (page a b : List ℕ) (pages : ℕ) → a ≡ patched page 0 (spell 4 1) → b ≡ patched a 4 (spell 4 pages) → b ≡ named page pages
unfolding named
named_is page a b pages p q = q ∙ ap (λ x. patched x 4 (spell 4 pages)) p

-- one page more
writes_push : {M : Type 0} (meaning : M → Meaning) (image : List ℕ) (qs : List ℕ) (q : ℕ) (a x b : M)
    → Writes meaning image qs a x → Wrote (meaning x) (meaning b) q 0 image (Ok tt) → Writes meaning image (qs ++ q ∷ []) a b
writes_push meaning image [] q a x b c w = (b, subst (λ y. Wrote (meaning y) (meaning b) q 0 image (Ok tt)) c w, refl)
writes_push meaning image (r ∷ qs) q a x b c w = (c.0, c.1, writes_push meaning image qs q c.0 x b c.2 w)

module _ {M : Type 0} (meaning : M → Meaning) (image : List ℕ) (q : ℕ) (a x b : M) (before : Writes meaning image (range_with_len 0 q) a x)
    (r : Result (Unit {0}) MediumFault) (t : Result (Unit {0}) Refusal) (w : Wrote (meaning x) (meaning b) q 0 image r) (d : t ≡ during Write q r) where
  pub counted_more : (u : Unit {0}) → t ≡ Ok u → Writes meaning image (range_with_len 0 (q + 1)) a b
  counted_more u ok =
      let e : range_with_len 0 (q + 1) ≡ range_with_len 0 q ++ q ∷ [] =
      sym (map-id (range_with_len 0 (q + 1))) ∙ map-range_with_len_more (λ k. k) 0 q q (omega arith) ∙ ap (λ ks. ks ++ q ∷ []) (map-id (range_with_len 0 q)) in
      subst (λ ks. Writes meaning image ks a b) (sym e)
      (writes_push meaning image (range_with_len 0 q) q a x b before (subst (Wrote (meaning x) (meaning b) q 0 image) (answered Write q r t u d ok) w))

  pub counted_until : (pages : ℕ) (e : Refusal) → q < pages → t ≡ Err e → WritesUntil meaning image (range_with_len 0 pages) a b e
  counted_until pages e less is =
      let f = refused Write q r t e d is in
      let l : length (range_with_len 0 pages) ≡ pages = length-range_with_len 0 pages in
      let at : get_or (range_with_len 0 pages) q 0 ≡ q = get_or-range_with_len 0 pages q 0 less ∙ zero-add q in
      let some : take q (range_with_len 0 pages) ≡ range_with_len 0 q =
      ap (take q) (sym (map-id (range_with_len 0 pages))) ∙ take-map-range_with_len (λ k. k) 0 pages q (omega arith) ∙ map-id (range_with_len 0 q) in (
        q,
        omega arith,
        (
          x,
          subst (λ ks. Writes meaning image ks a x) (sym some) before,
          (
            f.0,
            subst (λ j. e ≡ Medium Write j f.0) (sym at) f.2,
            subst (λ j. Wrote (meaning x) (meaning b) j 0 image (Err f.0)) (sym at) (subst (Wrote (meaning x) (meaning b) q 0 image) f.1 w),
          ),
        ),
      )

-- the first page was written, and the settle answers
pub names_last : {M : Type 0} (meaning : M → Meaning) (image bytes : List ℕ) (a x b : M) (r r' : Result (Unit {0}) MediumFault) (t t' : Result (Unit {0}) Refusal) (u : Unit {0}) → bytes ≡ image
    → Wrote (meaning a) (meaning x) 0 0 bytes r → t ≡ during Write 0 r → t ≡ Ok u → Settled (meaning x) (meaning b) r' → t' ≡ during Settle 0 r' → Names meaning image a b t'
names_last meaning image bytes a x b r r' t t' u is w d ok s d' = subst (Names meaning image a b) (sym d') (ends r' s)
  where
    wrote : Wrote (meaning a) (meaning x) 0 0 image (Ok tt)
    wrote = subst (λ z. Wrote (meaning a) (meaning x) 0 0 z (Ok tt)) is (subst (Wrote (meaning a) (meaning x) 0 0 bytes) (answered Write 0 r t u d ok) w)

    ends : (z : Result (Unit {0}) MediumFault) → Settled (meaning x) (meaning b) z → Names meaning image a b (during Settle 0 z)
    ends (Ok o) h = (x, wrote, h)
    ends (Err f) h = inr (x, wrote, (f, refl, h))

module _ {M : Type 0} (meaning : M → Meaning) (pages : ℕ) (a : M) (s : State) (work : List ℕ) (can : CanLay (meaning a) s (length work) pages) where
  stopped : (b : M) (new : List ℕ) (e : Refusal) (step : Step) (p : ℕ) (f : MediumFault) → e ≡ Medium step p f → LayStopped meaning pages a b new e → Lays meaning pages a b s Shut work new (Err e)
  stopped b new e step p f is h =
      subst (λ x. Lays meaning pages a b s Shut work new (Err x)) (sym is) (can, subst (LayStopped meaning pages a b new) is h, refl)

  -- the medium refused among the zeros
  pub lay_unzeroed : (b : M) (zeros : List ℕ) (e : Refusal) → Zeroes meaning pages a b (Err e) → zeros ≡ zero_page → Lays meaning pages a b s Shut work zeros (Err e)
  lay_unzeroed b zeros e z zero =
      ⊎_elim (λ w. stopped b zeros e Write _ w.2.2.0 w.2.2.1 (inl (z, zero))) (λ w. stopped b zeros e Settle 0 w.2.0 w.2.1 (inl (z, zero))) z

  -- all was zeroed; the first page answers
  pub lay_named : (x b : M) (zeros new : List ℕ) (o : Unit {0}) (r : Result (Unit {0}) Refusal) → Zeroes meaning pages a x (Ok o) → zeros ≡ zero_page → Names meaning (named zeros pages) x b r → new ≡ named zeros pages
      → Lays meaning pages a b s Shut work new r
  lay_named x b zeros new o r z zero n is = ends r (subst (λ y. Names meaning (named y pages) x b r) zero n)
    where
      image : new ≡ first_image pages
      image = is ∙ ap (λ y. named y pages) zero

      ends : (r : Result (Unit {0}) Refusal) → Names meaning (first_image pages) x b r → Lays meaning pages a b s Shut work new r
      ends (Ok u) h = (can, (x, z, h), refl, image)
      ends (Err e) h =
          ⊎_elim (λ w. stopped b new e Write 0 w.0 w.1 (inr (x, z, inl w, image)))
          (λ w. stopped b new e Settle 0 w.2.0 w.2.1 (inr (x, z, inr w, image))) h
