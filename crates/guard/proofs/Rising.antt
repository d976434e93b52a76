-- Slots in the order of a header as a list: put in, taken out, and looked up by key.
use Rattle.std.proofs.Common.{◌≡◌, ℕ, zero, suc, ◌+◌, ◌<◌, ◌≤◌, Bool, true, false, cond, eqb, ltb, List, [], ◌∷◌, map, length, Some, None, Option, sym, refl, ap, ◌∙◌, inl, inr, arith}
use Rattle.std.specs.List.{AllByRecursion}
use Rattle.std.proofs.ByRecursion.{All-from_get_or, All-get_or, All-weaker}
use Rattle.std.proofs.lemmas.Bool.{cond_both, cond-false, cond-true, eq-eqb, eqb-false, eqb-true, ltb-false, ltb-true, ne_eqb}
use Rattle.layout.specs.declared.header.Slot.{Slot}
use Rattle.layout.specs.Pages.{Entry, entry_of, key_of}
use Rattle.layout.specs.Sound.{Apart, at, Before}
use Rattle.layout.specs.Walks.{keyed}
use Rattle.draft.specs.Drafts.{put_in, taken_out}

pub apart_sym : (s t : Slot) → Apart s t → Apart t s
apart_sym s t (inl h) = inr h
apart_sym s t (inr h) = inl h

pub all_two : {X : Type 0} (P Q R : X → Type 0) → ((x : X) → P x → Q x → R x) → (xs : List X) → AllByRecursion P xs → AllByRecursion Q xs → AllByRecursion R xs
all_two P Q R f [] p q = tt
all_two P Q R f (x ∷ xs) p q = (f x p.0 q.0, all_two P Q R f xs p.1 q.1)

module _ (page : List ℕ) where
  -- each slot comes before all that follow it
  abbrev pub Rising : List Slot → Type 0
  Rising [] = Unit {0}
  Rising (s ∷ ss) = AllByRecursion (Before page s) ss × Rising ss

  pub rising_from : (ss : List Slot) → ((j k : ℕ) → j < k → k < length ss → Before page (at ss j) (at ss k)) → Rising ss
  rising_from [] h = tt
  rising_from (s ∷ ss) h = (
    All-from_get_or (Before page s) ss (record { offset = 0; length = 0 }) (λ k l. h 0 (suc k) (omega arith) (omega arith)),
    rising_from ss (λ j k l m. h (suc j) (suc k) (omega arith) (omega arith)),
  )

  pub ordered_from : (ss : List Slot) → Rising ss → (j k : ℕ) → j < k → k < length ss → Before page (at ss j) (at ss k)
  ordered_from [] r j k l m = absurd (omega arith)
  ordered_from (s ∷ ss) r j zero l m = absurd (omega arith)
  ordered_from (s ∷ ss) r zero (suc k) l m = All-get_or (Before page s) ss k (record { offset = 0; length = 0 }) (omega arith) r.0
  ordered_from (s ∷ ss) r (suc j) (suc k) l m = ordered_from ss r.1 j k (omega arith) (omega arith)

  -- no slot has the key
  abbrev pub Absent : ℕ → List Slot → Type 0
  Absent key ss = AllByRecursion (λ s. key_of page s ≡ key → ⊥) ss

  pub keyed_absent : (key : ℕ) (ss : List Slot) → Absent key ss → keyed key (map (entry_of page) ss) ≡ None
  keyed_absent key [] h = refl
  keyed_absent key (s ∷ ss) h = cond-false (eqb (key_of page s) key) _ _ (ne_eqb _ _ h.0) ∙ keyed_absent key ss h.1

  pub absent_keyed : (key : ℕ) (ss : List Slot) → keyed key (map (entry_of page) ss) ≡ None → Absent key ss
  absent_keyed key [] e = tt
  absent_keyed key (s ∷ ss) e =
      let P : Option Entry → Type 0 = λ o. o ≡ None → Absent key (s ∷ ss) in
      cond_both (eqb (key_of page s) key) (Some (entry_of page s)) (keyed key (map (entry_of page) ss)) P
      (λ t n. let z : ◌≡◌ {A = ℕ} 0 1 = cc in absurd (omega arith))
      (λ f n. (eqb-false (key_of page s) key f, absent_keyed key ss n)) e

  module _ (key : ℕ) where
    -- slots without the first that holds the key
    pub all_taken_out : (P : Slot → Type 0) (ss : List Slot) → AllByRecursion P ss → AllByRecursion P (taken_out page key ss)
    all_taken_out P [] h = tt
    all_taken_out P (s ∷ ss) h = cond_both (eqb (key_of page s) key) _ _ (AllByRecursion P) (λ _. h.1) (λ _. (h.0, all_taken_out P ss h.1))

    pub rising_taken_out : (ss : List Slot) → Rising ss → Rising (taken_out page key ss)
    rising_taken_out [] r = tt
    rising_taken_out (s ∷ ss) r =
        cond_both (eqb (key_of page s) key) _ _ Rising (λ _. r.1) (λ _. (all_taken_out (Before page s) ss r.0, rising_taken_out ss r.1))

    pub absent_taken_out : (ss : List Slot) → Rising ss → Absent key (taken_out page key ss)
    absent_taken_out [] r = tt
    absent_taken_out (s ∷ ss) r =
        cond_both (eqb (key_of page s) key) _ _ (Absent key)
        (λ e. All-weaker (Before page s) (λ u. key_of page u ≡ key → ⊥) (λ u b d. omega (arith, b.1, eqb-true (key_of page s) key e)) ss r.0)
        (λ e. (eqb-false (key_of page s) key e, absent_taken_out ss r.1))

    pub length_taken_out : (ss : List Slot) → length (taken_out page key ss) ≤ length ss
    length_taken_out [] = omega arith
    length_taken_out (s ∷ ss) =
        cond_both (eqb (key_of page s) key) _ _ (λ xs. length xs ≤ suc (length ss)) (λ _. omega arith) (λ _. omega (arith, length_taken_out ss))

    -- one less, if a slot has the key
    pub less_taken_out : (ss : List Slot) → (Absent key ss → ⊥) → length (taken_out page key ss) < length ss
    less_taken_out [] h = absurd (h tt)
    less_taken_out (s ∷ ss) h =
        cond_both (eqb (key_of page s) key) _ _ (λ xs. length xs < suc (length ss)) (λ _. omega arith)
        (λ e. omega (arith, less_taken_out ss (λ a. h (eqb-false (key_of page s) key e, a))))

    pub keyed_taken_out : (k : ℕ) → (k ≡ key → ⊥) → (ss : List Slot)
        → keyed k (map (entry_of page) (taken_out page key ss)) ≡ keyed k (map (entry_of page) ss)
    keyed_taken_out k ne [] = refl
    keyed_taken_out k ne (s ∷ ss) =
        cond_both (eqb (key_of page s) key) _ _ (λ xs. keyed k (map (entry_of page) xs) ≡ keyed k (map (entry_of page) (s ∷ ss)))
        (λ e. sym (cond-false (eqb (key_of page s) k) _ _ (ne_eqb _ _ (λ d. ne (sym d ∙ eqb-true (key_of page s) key e)))))
        (λ e. ap (cond (eqb (key_of page s) k) (Some (entry_of page s))) (keyed_taken_out k ne ss))

    module _ (new : Slot) where
      -- slots with one more, for the key
      pub all_put_in : (P : Slot → Type 0) (ss : List Slot) → P new → AllByRecursion P ss → AllByRecursion P (put_in page key new ss)
      all_put_in P [] n h = (n, tt)
      all_put_in P (s ∷ ss) n h =
          cond_both (ltb (key_of page s) key) _ _ (AllByRecursion P) (λ _. (h.0, all_put_in P ss n h.1)) (λ _. (n, h))

      pub length_put_in : (ss : List Slot) → length (put_in page key new ss) ≡ length ss + 1
      length_put_in [] = refl
      length_put_in (s ∷ ss) =
          cond_both (ltb (key_of page s) key) _ _ (λ xs. length xs ≡ suc (length ss) + 1)
          (λ _. let rest = length_put_in ss in omega arith) (λ _. omega arith)

      module _ (is : key_of page new ≡ key) where
        pub rising_put_in : (ss : List Slot) → Absent key ss → AllByRecursion (Apart new) ss → Rising ss → Rising (put_in page key new ss)
        rising_put_in [] n a r = (tt, tt)
        rising_put_in (s ∷ ss) n a r =
            cond_both (ltb (key_of page s) key) _ _ Rising
            (λ e. (
              all_put_in (Before page s) ss (apart_sym new s a.0, omega (arith, ltb-true (key_of page s) key e)) r.0,
              rising_put_in ss n.1 a.1 r.1,
            ))
            (λ e.
            let less : key_of page new < key_of page s = omega (arith, ltb-false (key_of page s) key e, n.0) in
            (((a.0, less), all_two (Apart new) (Before page s) (Before page new) (λ u x y. (x, omega (arith, y.1))) ss a.1 r.0), r))

        pub keyed_put_in : (ss : List Slot) → keyed key (map (entry_of page) (put_in page key new ss)) ≡ Some (entry_of page new)
        keyed_put_in [] = cond-true (eqb (key_of page new) key) _ _ (eq-eqb _ _ is)
        keyed_put_in (s ∷ ss) =
            cond_both (ltb (key_of page s) key) _ _ (λ xs. keyed key (map (entry_of page) xs) ≡ Some (entry_of page new))
            (λ e. cond-false (eqb (key_of page s) key) _ _ (ne_eqb _ _ (λ d. omega (arith, ltb-true (key_of page s) key e))) ∙ keyed_put_in ss)
            (λ e. cond-true (eqb (key_of page new) key) _ _ (eq-eqb _ _ is))

        pub keyed_put_in_other : (k : ℕ) → (k ≡ key → ⊥) → (ss : List Slot)
            → keyed k (map (entry_of page) (put_in page key new ss)) ≡ keyed k (map (entry_of page) ss)
        keyed_put_in_other k ne [] = cond-false (eqb (key_of page new) k) _ _ (ne_eqb _ _ (λ d. ne (sym d ∙ is)))
        keyed_put_in_other k ne (s ∷ ss) =
            cond_both (ltb (key_of page s) key) _ _ (λ xs. keyed k (map (entry_of page) xs) ≡ keyed k (map (entry_of page) (s ∷ ss)))
            (λ e. ap (cond (eqb (key_of page s) k) (Some (entry_of page s))) (keyed_put_in_other k ne ss))
            (λ e. cond-false (eqb (key_of page new) k) _ _ (ne_eqb _ _ (λ d. ne (sym d ∙ is))))

-- entries without the first of a key, and with one more behind those of lesser keys
abbrev pub entries_out : ℕ → List Entry → List Entry
entries_out key [] = []
entries_out key (e ∷ es) = cond (eqb e.key key) es (e ∷ entries_out key es)

abbrev pub entries_in : ℕ → Entry → List Entry → List Entry
entries_in key new [] = new ∷ []
entries_in key new (e ∷ es) = cond (ltb e.key key) (e ∷ entries_in key new es) (new ∷ e ∷ es)

map_cond : {X Y : Type 0} (f : X → Y) (b : Bool) (xs ys : List X) → map f (cond b xs ys) ≡ cond b (map f xs) (map f ys)
map_cond f true xs ys = refl
map_cond f false xs ys = refl

-- slots that are taken out and put in, as entries
pub map_taken_out : (page : List ℕ) (key : ℕ) (ss : List Slot) → map (entry_of page) (taken_out page key ss) ≡ entries_out key (map (entry_of page) ss)
map_taken_out page key [] = refl
map_taken_out page key (s ∷ ss) =
    map_cond (entry_of page) (eqb (key_of page s) key) ss (s ∷ taken_out page key ss)
    ∙ ap (λ es. cond (eqb (key_of page s) key) (map (entry_of page) ss) (entry_of page s ∷ es)) (map_taken_out page key ss)

pub map_put_in : (page : List ℕ) (key : ℕ) (new : Slot) (ss : List Slot)
    → map (entry_of page) (put_in page key new ss) ≡ entries_in key (entry_of page new) (map (entry_of page) ss)
map_put_in page key new [] = refl
map_put_in page key new (s ∷ ss) =
    map_cond (entry_of page) (ltb (key_of page s) key) (s ∷ put_in page key new ss) (new ∷ s ∷ ss)
    ∙ ap (λ es. cond (ltb (key_of page s) key) (entry_of page s ∷ es) (entry_of page new ∷ entry_of page s ∷ map (entry_of page) ss))
    (map_put_in page key new ss)
