-- What goes below changes nothing of what is shown, and a write and a settle are what a medium's are.
use Rattle.std.proofs.Common.{◌≡◌, ℕ, ◌<◌, ◌≤◌, Bool, true, false, cond, not, eqb, ltb, ◌⊎◌, List, [], ◌∷◌, length, is_some, IfOk, Some, None, Ok, Err, MatchBool, Option, Result, unwrap_or, sym, refl, ap, ◌∙◌, subst, inl, inr, ⊎_elim, arith}
use Rattle.std.proofs.lemmas.Option.{MatchOption-at_none}
use Rattle.std.proofs.lemmas.Bool.{both_ways, cases_eq, cond-true, cond-false, lt-ltb, le-ltb, ltb-true, ltb-false, eq-eqb, ne_eqb, and_parts, not-true}
use Rattle.std.proofs.lemmas.Bool.Decides.{when_false}
use Rattle.octets.specs.Files.{word}
use Rattle.octets.specs.Parts.{patched}
use Rattle.medium.specs.declared.fault.MediumFault.{MediumFault}
use Rattle.medium.specs.declared.fault.MediumFault.TheVariants.{BadRun, Stopped}
use Rattle.medium.specs.Meaning.{Meaning, Sized, Shows, NoGain, Patches, Settled, Wrote, good}
use Rattle.medium.proofs.Runs.{Good, good_tells}
use Rattle.layer.specs.Below.{Drains, Flushed, Flushes, Halts, Landed, MadeRoom, Puts, Stuck, Went, room}
use Rattle.layer.specs.Distinct.{look, distinct}
use Rattle.layer.specs.Holds.{holds, holds_sized, image_of, put}
use Rattle.layer.specs.declared.held.Held.{Held}
use Rattle.layer.proofs.Images.{look_put}
use Rattle.layer.proofs.Overlays.{Stays, down_none, down_stays, over_patches, over_same}
use Rattle.layer.proofs.Rooms.{no_image}

-- the image of a page, by what is held
image_at : (m : Meaning) (hs : List Held) (p : ℕ) → p < m.pages → image_of m hs p ≡ look hs p
image_at m hs p l = cond-true (ltb p m.pages) (look hs p) None (lt-ltb p m.pages l)

image_by : (m n : Meaning) (hs gs : List Held) (q : ℕ) → n.pages ≡ m.pages → look gs q ≡ look hs q → image_of n gs q ≡ image_of m hs q
image_by m n hs gs q pages e = ap (λ k. cond (ltb q k) (look gs q) None) pages ∙ ap (λ o. cond (ltb q m.pages) o None) e

first_is : (h : Held) (hs : List Held) → look (h ∷ hs) h.page ≡ Some h.image
first_is h hs = cond-true (eqb h.page h.page) (Some h.image) (look hs h.page) (eq-eqb h.page h.page refl)

first_not : (h : Held) (hs : List Held) (q : ℕ) → (q ≡ h.page → ⊥) → look hs q ≡ look (h ∷ hs) q
first_not h hs q ne = sym (cond-false (eqb h.page q) (Some h.image) (look hs q) (ne_eqb h.page q (λ e. ne (sym e))))

no_some : {A : Type 0} (o : Option A) → is_some o ≡ false → o ≡ None
no_some None e = refl
no_some (Some x) e = absurd (both_ways true e refl)

once : (h : Held) (hs : List Held) → distinct (h ∷ hs) ≡ true → (look hs h.page ≡ None) × (distinct hs ≡ true)
once h hs e =
    let parts = and_parts (not (is_some (look hs h.page))) (distinct hs) e in
    (no_some (look hs h.page) (not-true (is_some (look hs h.page)) parts.0), parts.1)

-- a page is held with a run put in
puts_patches : (m : Meaning) (hs gs : List Held) (x : Held) (p s : ℕ) (b : List ℕ) → Sized m → Shows m → m.stopped ≡ false → Good m.pages p s (length b)
    → x.page ≡ p → x.image ≡ patched ((holds m hs).shown p) s b → gs ≡ put hs x → Patches (holds m hs) (holds m gs) p s b
puts_patches m hs gs x p s b sized shows runs good page image is =
    over_patches m (image_of m hs) (image_of m gs) p s b shows runs ((holds_sized m hs sized).full p good.page) good
    (image_at m gs p good.page ∙ found p ∙ cond-true (eqb x.page p) (Some x.image) (look hs p) (eq-eqb x.page p page) ∙ ap Some image)
    (λ q ne. image_by m m hs gs q refl
    (found q ∙ cond-false (eqb x.page q) (Some x.image) (look hs q) (ne_eqb x.page q (λ e. ne (sym e ∙ page)))))
  where
    found : (q : ℕ) → look gs q ≡ cond (eqb x.page q) (Some x.image) (look hs q)
    found q = ap (λ l. look l q) is ∙ look_put hs x q

-- relations one after another
stays_itself : (a : Meaning) → Stays a a
stays_itself a = record { none = record { pages = refl; within = λ q k w h. h }; shown = λ q. refl }

stays_none : (a b c : Meaning) → Stays a b → NoGain b c → NoGain a c
stays_none a b c s h = record { pages = h.pages ∙ s.none.pages; within = λ q k w e. s.none.within q k w (h.within q k w e) }

stays_stays : (a b c : Meaning) → Stays a b → Stays b c → Stays a c
stays_stays a b c s t = record { none = stays_none a b c s t.none; shown = λ q. t.shown q ∙ s.shown q }

stays_patches : (a b c : Meaning) (p s : ℕ) (y : List ℕ) → Stays a b → Patches b c p s y → Patches a c p s y
stays_patches a b c p s y h t = record {
  gains = record {
    pages = t.gains.pages ∙ h.none.pages;
    within = λ q k w e. ⊎_elim (λ old. inl (h.none.within q k w old))
        (λ new. inr (new.0, new.1, new.2 ∙ ap (λ l. word (patched l s y) k) (h.shown p))) (t.gains.within q k w e);
  };
  here = t.here ∙ ap (λ l. patched l s y) (h.shown p);
  others = λ q ne. t.others q ne ∙ h.shown q;
}

-- a page that the medium does not have is not shown as held
passed_over : (m : Meaning) (h : Held) (hs : List Held) → m.pages ≤ h.page → Stays (holds m (h ∷ hs)) (holds m hs)
passed_over m h hs l = over_same m (image_of m (h ∷ hs)) (image_of m hs) (λ q. ⊎_elim (at q) (λ ne. image_by m m (h ∷ hs) hs q refl (first_not h hs q ne)) (cases_eq q h.page))
  where
    at : (q : ℕ) → q ≡ h.page → image_of m hs q ≡ image_of m (h ∷ hs) q
    at q is =
        let past : ltb q m.pages ≡ false = le-ltb q m.pages (omega arith) in
        cond-false (ltb q m.pages) (look hs q) None past ∙ sym (cond-false (ltb q m.pages) (look (h ∷ hs) q) None past)

came_down : (m n : Meaning) (h : Held) (hs : List Held) → Sized m → distinct (h ∷ hs) ≡ true → h.page < m.pages → Patches m n h.page 0 h.image
    → Stays (holds m (h ∷ hs)) (holds n hs)
came_down m n h hs sized single l patches =
    down_stays m n (image_of m (h ∷ hs)) (image_of n hs) h.page h.image h.full (sized.full h.page l) (image_at m (h ∷ hs) h.page l ∙ first_is h hs)
    patches (no_image n hs h.page (once h hs single).0) (λ q ne. image_by m n (h ∷ hs) hs q patches.gains.pages (first_not h hs q ne))

module _ {M : Type 0} (meaning : M → Meaning) (sized : (x : M) → Sized (meaning x)) where
  went_by : (h : Held) (hs : List Held) (a b : M) (t : Bool) → ltb h.page (meaning a).pages ≡ t → distinct (h ∷ hs) ≡ true
      → MatchBool t (Wrote (meaning a) (meaning b) h.page 0 h.image (Ok tt)) (b ≡ a) → (meaning a).stopped ≡ false
      → Stays (holds (meaning a) (h ∷ hs)) (holds (meaning b) hs) × ((meaning b).stopped ≡ false)
  went_by h hs a b true e single w runs = (came_down (meaning a) (meaning b) h hs (sized a) single (ltb-true h.page (meaning a).pages e) w.3, w.2)
  went_by h hs a b false e single w runs =
      subst (λ (x : M). Stays (holds (meaning a) (h ∷ hs)) (holds (meaning x) hs) × ((meaning x).stopped ≡ false)) (sym w)
      (passed_over (meaning a) h hs (ltb-false h.page (meaning a).pages e), runs)

  went : (h : Held) (hs : List Held) (a b : M) → distinct (h ∷ hs) ≡ true → Went meaning h a b → (meaning a).stopped ≡ false
      → Stays (holds (meaning a) (h ∷ hs)) (holds (meaning b) hs) × ((meaning b).stopped ≡ false)
  went h hs a b = went_by h hs a b (ltb h.page (meaning a).pages) refl

  stuck : (h : Held) (hs : List Held) (a b : M) → Stuck meaning h a b → NoGain (holds (meaning a) (h ∷ hs)) (holds (meaning b) (h ∷ hs))
  stuck h hs a b s =
      let l : h.page < (meaning a).pages = (good_tells (meaning a).pages h.page 0 (length h.image) s.1.0).page in
      down_none (meaning a) (meaning b) (image_of (meaning a) (h ∷ hs)) (image_of (meaning b) (h ∷ hs)) h.page h.image h.full ((sized a).full h.page l)
      (image_at (meaning a) (h ∷ hs) h.page l ∙ first_is h hs) s.1.2
      (λ q. inl (image_by (meaning a) (meaning b) (h ∷ hs) (h ∷ hs) q s.1.2.pages refl))

  -- a state with something equal in place of its parts
  moved : (P : List Held → M → Type 0) (hs gs : List Held) (a b : M) → gs ≡ hs → b ≡ a → P hs a → P gs b
  moved P hs gs a b e f h = subst (λ (x : M). P gs x) (sym f) (subst (λ (l : List Held). P l a) (sym e) h)

  flushes : (hs : List Held) (a b : M) → distinct hs ≡ true → (meaning a).stopped ≡ false → Flushes meaning hs a b
      → Stays (holds (meaning a) hs) (holds (meaning b) []) × ((meaning b).stopped ≡ false)
  flushes [] a b single runs f =
      moved (λ l x. Stays (holds (meaning a) []) (holds (meaning x) l) × ((meaning x).stopped ≡ false)) [] [] a b refl f (stays_itself (holds (meaning a) []), runs)
  flushes (h ∷ hs) a b single runs f =
      let first = went h hs a f.0 single f.1 runs in
      let rest = flushes hs f.0 b (once h hs single).1 first.1 f.2 in
      (stays_stays (holds (meaning a) (h ∷ hs)) (holds (meaning f.0) hs) (holds (meaning b) []) first.0 rest.0, rest.1)

  halts : (hs : List Held) (a : M) (gs : List Held) (b : M) → distinct hs ≡ true → (meaning a).stopped ≡ false → Halts meaning hs a gs b
      → NoGain (holds (meaning a) hs) (holds (meaning b) gs) × ((meaning b).stopped ≡ true)
  halts [] a gs b single runs h = absurd h
  halts (x ∷ xs) a gs b single runs (inl s) =
      (subst (λ (l : List Held). NoGain (holds (meaning a) (x ∷ xs)) (holds (meaning b) l)) (sym s.0) (stuck x xs a b s.1), s.1.1.1)
  halts (x ∷ xs) a gs b single runs (inr f) =
      let first = went x xs a f.0 single f.1 runs in
      let rest = halts xs f.0 gs b (once x xs single).1 first.1 f.2 in
      (stays_none (holds (meaning a) (x ∷ xs)) (holds (meaning f.0) xs) (holds (meaning b) gs) first.0 rest.0, rest.1)

  made : (t : Bool) (hs : List Held) (a : M) (ks : List Held) (b : M) → distinct hs ≡ true → (meaning a).stopped ≡ false → MadeRoom meaning t hs a ks b (Ok tt)
      → Stays (holds (meaning a) hs) (holds (meaning b) ks) × ((meaning b).stopped ≡ false)
  made true hs a ks b single runs h =
      moved (λ l x. Stays (holds (meaning a) hs) (holds (meaning x) l) × ((meaning x).stopped ≡ false)) hs ks a b h.1 h.2 (stays_itself (holds (meaning a) hs), runs)
  made false [] a ks b single runs h = absurd h
  made false (x ∷ xs) a ks b single runs h =
      subst (λ (l : List Held). Stays (holds (meaning a) (x ∷ xs)) (holds (meaning b) l) × ((meaning b).stopped ≡ false)) (sym h.0) (went x xs a b single h.1 runs)

  unmade : (t : Bool) (hs : List Held) (a : M) (gs : List Held) (b : M) → MadeRoom meaning t hs a gs b (Err Stopped)
      → NoGain (holds (meaning a) hs) (holds (meaning b) gs) × ((meaning b).stopped ≡ true)
  unmade true hs a gs b h = absurd (let r : ◌≡◌ {A = Result (Unit {0}) MediumFault} (Err Stopped) (Ok tt) = h.0 in let z : ◌≡◌ {A = ℕ} 0 1 = cc in omega arith)
  unmade false [] a gs b h = absurd h
  unmade false (x ∷ xs) a gs b h =
      (subst (λ (l : List Held). NoGain (holds (meaning a) (x ∷ xs)) (holds (meaning b) l)) (sym h.1) (stuck x xs a b h.2), h.2.1.1)

  -- a write
  module _ (shows : (x : M) → Shows (meaning x)) (hs : List Held) (a : M) (gs : List Held) (b : M) (single : distinct hs ≡ true) (runs : (meaning a).stopped ≡ false)
      (p s : ℕ) (bytes : List ℕ) (fit : good (meaning a).pages p s (length bytes) ≡ true) where
    held_patches : Puts meaning hs a gs b p s bytes (Ok tt) → Patches (holds (meaning a) hs) (holds (meaning b) gs) p s bytes × ((meaning b).stopped ≡ false)
    held_patches (x, page, image, (ks, room-made, is)) =
        let stays = made (room hs p) hs a ks b single runs room-made in
        let well : Good (meaning b).pages p s (length bytes) =
        good_tells (meaning b).pages p s (length bytes) (ap (λ n. good n p s (length bytes)) stays.0.none.pages ∙ fit) in (
          stays_patches (holds (meaning a) hs) (holds (meaning b) ks) (holds (meaning b) gs) p s bytes stays.0
              (puts_patches (meaning b) ks gs x p s bytes (sized b) (shows b) stays.1 well page (image ∙ ap (λ l. patched l s bytes) (sym (stays.0.shown p))) is),
          stays.1,
        )

    pub puts_wrote : (r : Result (Unit {0}) MediumFault) → Puts meaning hs a gs b p s bytes r → Wrote (holds (meaning a) hs) (holds (meaning b) gs) p s bytes r
    puts_wrote (Ok _) h = let done = held_patches h in (fit, runs, done.1, done.0)
    puts_wrote (Err BadRun) h = absurd (both_ways (good (meaning a).pages p s (length bytes)) h.0 fit)
    puts_wrote (Err Stopped) h =
        let none = unmade (room hs p) hs a gs b (when_false ((gs ≡ hs) × (b ≡ a)) (MadeRoom meaning (room hs p) hs a gs b (Err Stopped)) runs h) in
        (fit, none.1, record { pages = none.0.pages; within = λ q k w e. inl (none.0.within q k w e) }, λ e. absurd (both_ways (meaning a).stopped runs e))

  -- a medium with nothing held over it
  bare : (m : Meaning) (p : ℕ) → (holds m []).shown p ≡ m.shown p
  bare m p = ap (λ o. unwrap_or o (m.shown p)) (no_image m [] p refl)

  bare_possible : (m : Meaning) (p k : ℕ) (w : List ℕ) → (holds m []).possible p k w → m.possible p k w
  bare_possible m p k w (inl h) = h
  bare_possible m p k w (inr h) = absurd (MatchOption-at_none ⊥ (λ x. (k < 256) × (w ≡ word x k)) (no_image m [] p refl) h)

  -- a settle
  module _ (hs : List Held) (a : M) (gs : List Held) (b : M) (single : distinct hs ≡ true) (runs : (meaning a).stopped ≡ false) where
    settled_empty : (x : M) (r : Result (Unit {0}) MediumFault) → Flushes meaning hs a x → Settled (meaning x) (meaning b) r → Settled (holds (meaning a) hs) (holds (meaning b) []) r
    settled_empty x (Ok _) f s =
        let stays = (flushes hs a x single runs f).0 in (
          runs,
          s.1,
          s.2 ∙ stays.none.pages,
          (λ p. bare (meaning b) p ∙ s.3 p ∙ sym (bare (meaning x) p) ∙ stays.shown p),
          λ p k w h. s.4 p k w (bare_possible (meaning b) p k w h) ∙ ap (λ l. word l k) (sym (bare (meaning b) p)),
        )
    settled_empty x (Err e) f s =
        let stays = (flushes hs a x single runs f).0 in (
          s.0,
          s.1,
          stays_none (holds (meaning a) hs) (holds (meaning x) []) (holds (meaning b) []) stays
              (record { pages = s.2.pages; within = λ p k w h. inl (s.2.within p k w (bare_possible (meaning b) p k w h)) }),
          λ t. absurd (both_ways (meaning a).stopped runs t),
        )

    emptied : (x : M) (r : Result (Unit {0}) MediumFault) → gs ≡ [] → Flushes meaning hs a x → Settled (meaning x) (meaning b) r
        → Settled (holds (meaning a) hs) (holds (meaning b) gs) r
    emptied x r e f s = subst (λ (l : List Held). Settled (holds (meaning a) hs) (holds (meaning b) l) r) (sym e) (settled_empty x r f s)

    pub drains_settled : (r : Result (Unit {0}) MediumFault) → Drains meaning hs a gs b r → Settled (holds (meaning a) hs) (holds (meaning b) gs) r
    drains_settled (Ok _) h = emptied h.1.0 (Ok tt) h.0 h.1.1 h.1.2
    drains_settled (Err e) h =
        ⊎_elim
        (λ f. let none = halts hs a gs b single runs f.1 in (f.0, none.1, none.0, λ t. absurd (both_ways (meaning a).stopped runs t)))
        (λ f. emptied f.1.0 (Err e) f.0 f.1.1 f.1.2)
        (when_false _ _ runs h)

    pub drains_landed : (r : Result (Unit {0}) MediumFault) → Drains meaning hs a gs b r → IfOk r (λ _. Landed (holds (meaning a) hs) (meaning b))
    drains_landed (Err e) h = tt
    drains_landed (Ok _) h =
        let stays = (flushes hs a h.1.0 single runs h.1.1).0 in
        record { shown = λ p l. h.1.2.3 p ∙ sym (bare (meaning h.1.0) p) ∙ stays.shown p; only = h.1.2.4 }

    -- while the medium runs, a refusal is one of the two
    refused : (e : MediumFault) → Flushed meaning hs a gs b (Err e) ⊎ ((gs ≡ []) × ((x : M) × Flushes meaning hs a x × Settled (meaning x) (meaning b) (Err e)))
        → Drains meaning hs a gs b (Err e)
    refused e =
        subst (λ (t : Bool). MatchBool t ((e ≡ Stopped) × (gs ≡ hs) × (b ≡ a))
        (Flushed meaning hs a gs b (Err e) ⊎ ((gs ≡ []) × ((x : M) × Flushes meaning hs a x × Settled (meaning x) (meaning b) (Err e))))) (sym runs)

    pub halted : (e : MediumFault) → Flushed meaning hs a gs b (Err e) → Drains meaning hs a gs b (Err e)
    halted e h = refused e (inl h)

    pub drained : (ks : List Held) (x : M) (r : Result (Unit {0}) MediumFault) → Flushed meaning hs a ks x (Ok tt) → gs ≡ ks → Settled (meaning x) (meaning b) r
        → Drains meaning hs a gs b r
    drained ks x (Ok _) f e s = (e ∙ f.0, (x, f.1, s))
    drained ks x (Err y) f e s = refused y (inr (e ∙ f.0, (x, f.1, s)))
