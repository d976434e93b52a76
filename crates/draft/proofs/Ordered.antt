-- A key's place among slots: where it is, and where it belongs.
use Rattle.std.proofs.Common.{◌≡◌, ℕ, zero, suc, ◌<◌, ◌≤◌, Bool, true, false, eqb, ltb, leb, List, [], ◌∷◌, map, length, Some, None, Option, sym, refl, ap, ◌∙◌, arith}
use Rattle.std.specs.List.{position, position_or_len}
use Rattle.std.specs.Option.{is_some, unwrap_or}
use Rattle.std.proofs.lemmas.Grind.{common_steps}
use Rattle.std.proofs.lemmas.List.Quantifiers.{position-Some}
use Rattle.std.proofs.lemmas.List.Sums.{fails_before_first}
use Rattle.std.specs.List.{insert}
use Rattle.std.proofs.lemmas.Bool.{cond-true, cond-false, eq-eqb, eqb-true, leb-true, ne_eqb, lt-ltb, le-ltb}
use Rattle.layout.specs.declared.header.Slot.{Slot}
use Rattle.layout.specs.Pages.{Entry, entry_of, key_of}
use Rattle.layout.specs.Sound.{at}
use Rattle.layout.specs.Walks.{keyed}
use Rattle.draft.specs.Drafts.{put_in, taken_out}
use Rattle.draft.specs.Found.{Found}

some_none : (o : Option Entry) (e : Entry) → o ≡ Some e → o ≡ None → ⊥
some_none o e p q = let z : ◌≡◌ {A = ℕ} 0 1 = cc in omega arith

module _ (page : List ℕ) (key : ℕ) where
  passed : (s : Slot) (ss : List Slot) → (key_of page s ≡ key → ⊥) → keyed key (map (entry_of page) (s ∷ ss)) ≡ keyed key (map (entry_of page) ss)
  passed s ss n = cond-false (eqb (key_of page s) key) (Some (entry_of page s)) (keyed key (map (entry_of page) ss)) (ne_eqb (key_of page s) key n)

  pub absent : (ss : List Slot) → ((j : ℕ) → j < length ss → key_of page (at ss j) ≡ key → ⊥) → Found page key ss None
  absent [] below = refl
  absent (s ∷ ss) below = passed s ss (below 0 (omega arith)) ∙ absent ss (λ j l. below (suc j) (omega arith))

  pub found : (ss : List Slot) (i : ℕ) → i < length ss → ((j : ℕ) → j < i → key_of page (at ss j) ≡ key → ⊥) → key_of page (at ss i) ≡ key → Found page key ss (Some i)
  found [] i l below here = absurd (omega arith)
  found (s ∷ ss) zero l below here =
      let t : eqb (key_of page s) key ≡ true = eq-eqb (key_of page s) key here in (
        l,
        some_none _ (entry_of page s) (cond-true (eqb (key_of page s) key) (Some (entry_of page s)) (keyed key (map (entry_of page) ss)) t),
        cond-true (eqb (key_of page s) key) ss (s ∷ taken_out page key ss) t,
      )
  found (s ∷ ss) (suc i) l below here =
      let n : key_of page s ≡ key → ⊥ = below 0 (omega arith) in
      let h : Found page key ss (Some i) = found ss i (omega arith) (λ j m. below (suc j) (omega arith)) here in (
        l,
        λ e. h.1 (sym (passed s ss n) ∙ e),
        cond-false (eqb (key_of page s) key) ss (s ∷ taken_out page key ss) (ne_eqb (key_of page s) key n) ∙ ap (λ ts. s ∷ ts) h.2,
      )

  pub belongs : (new : Slot) (ss : List Slot) (i : ℕ) → i ≤ length ss → ((j : ℕ) → j < i → key_of page (at ss j) < key)
      → (i < length ss → key ≤ key_of page (at ss i)) → put_in page key new ss ≡ insert ss i new
  belongs new [] zero l below here = refl
  belongs new [] (suc i) l below here = absurd (omega arith)
  belongs new (s ∷ ss) zero l below here =
      cond-false (ltb (key_of page s) key) (s ∷ put_in page key new ss) (new ∷ s ∷ ss) (le-ltb (key_of page s) key (here (omega arith)))
  belongs new (s ∷ ss) (suc i) l below here =
      cond-true (ltb (key_of page s) key) (s ∷ put_in page key new ss) (new ∷ s ∷ ss) (lt-ltb (key_of page s) key (below 0 (omega arith)))
      ∙ ap (λ ts. s ∷ ts) (belongs new ss i (omega arith) (λ j m. below (suc j) (omega arith)) (λ m. here (omega arith)))

  fails_without : (p : Slot → Bool) (ss : List Slot) (j : ℕ) → position p ss ≡ None → j < length ss → p (at ss j) ≡ false
  fails_without p ss j e l = let n : length ss ≤ position_or_len p ss = grind (arith, common_steps) in fails_before_first p ss j _ (omega arith)

  -- what a search for the key finds
  pub found_by : (ss : List Slot) (r : Option ℕ) → r ≡ position (λ s. eqb (key_of page s) key) ss → Found page key ss r
  found_by ss None e =
      absent ss (λ j l p. let f = fails_without (λ s. eqb (key_of page s) key) ss j (sym e) l in let t = eq-eqb (key_of page (at ss j)) key p in cc)
  found_by ss (Some i) e =
      let h = position-Some (λ s. eqb (key_of page s) key) ss i (record { offset = 0; length = 0 }) (sym e) in
      found ss i h.0 (λ j l p. let f = h.2 j l in let t = eq-eqb (key_of page (at ss j)) key p in cc) (eqb-true _ _ h.1)

  belongs_at : (new : Slot) (ss : List Slot) (r : Option ℕ) → r ≡ position (λ s. leb key (key_of page s)) ss → put_in page key new ss ≡ insert ss (unwrap_or r (length ss)) new
  belongs_at new ss None e =
      belongs new ss (length ss) (omega arith) (λ j l. let f = fails_without (λ s. leb key (key_of page s)) ss j (sym e) l in grind (arith, common_steps))
      (λ l. absurd (omega arith))
  belongs_at new ss (Some k) e =
      let h = position-Some (λ s. leb key (key_of page s)) ss k (record { offset = 0; length = 0 }) (sym e) in
      belongs new ss k (omega (arith, h.0)) (λ j l. let f = h.2 j l in grind (arith, common_steps)) (λ l. leb-true _ _ h.1)

  -- a slot for the key belongs before the first that holds no lesser key, or behind all
  pub belongs_by : (new : Slot) (ss : List Slot) (i : ℕ) → i ≡ unwrap_or (position (λ s. leb key (key_of page s)) ss) (length ss) → put_in page key new ss ≡ insert ss i new
  belongs_by new ss i e = belongs_at new ss (position (λ s. leb key (key_of page s)) ss) refl ∙ ap (λ n. insert ss n new) (sym e)

  -- the same of the draft's slots, by what the search answers
  pub found_in : (ds ss : List Slot) (r o : Option ℕ) → ss ≡ ds → r ≡ position (λ s. eqb (key_of page s) key) ss → r ≡ o → Found page key ds o
  found_in ds ss r o e p q = found_by ds o (sym q ∙ p ∙ ap (position (λ s. eqb (key_of page s) key)) e)

  pub is_there : (ds : List Slot) (o : Option ℕ) → is_some o ≡ true → Found page key ds o → keyed key (map (entry_of page) ds) ≡ None → ⊥
  is_there ds None t f = cc
  is_there ds (Some i) t f = f.1
