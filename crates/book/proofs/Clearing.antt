-- Clearing the pages of a file that was found.
use Rattle.std.proofs.Common.{rules, ◌≡◌, ℕ, zero, suc, ◌+◌, ◌-◌, ◌<◌, ◌≤◌, Bool, true, false, ◌⊎◌, List, [], ◌∷◌, length, get_or, take, Some, None, Ok, Err, sym, refl, ap, ◌∙◌, subst, inl, inr, arith}
use Rattle.std.specs.List.{range_with_len}
use Rattle.std.proofs.lemmas.List.FromFn.{get_or-range_with_len, length-range_with_len}
use Rattle.std.proofs.lemmas.Bool.{cases_eq}
use Rattle.octets.specs.Files.{word}
use Rattle.octets.specs.Parts.{patched}
use Rattle.medium.specs.declared.fault.MediumFault.TheVariants.{BadRun, Stopped}
use Rattle.medium.specs.Meaning.{Gains, Meaning, NoGain, Sized}
use Rattle.layout.specs.declared.header.Side.{Side}
use Rattle.layout.specs.Pages.{start}
use Rattle.layout.specs.Sound.{Sound}
use Rattle.draft.specs.Drafts.{begun_side}
use Rattle.guard.specs.Guard.{Base}
use Rattle.guard.specs.Clears.{cleared, cleared_on, zeros}
use Rattle.guard.proofs.Cleared.{clears}
use Rattle.guard.proofs.Nearby.{base_low}
use Rattle.guard.proofs.Sided.{begun_none}
use Rattle.store.specs.declared.refusal.Refusal.{Refusal}
use Rattle.store.specs.Clearing.{ClearsPage}
use Rattle.store.specs.Opening.{Clears, ClearsUntil, later_pages}
use Rattle.book.specs.Keeps.{Has, Later}
use Rattle.book.proofs.Runs.{number_bad}

-- a base has no header begun
pub base_none : (counter pages q : ℕ) (base : List ℕ) → Base counter pages q base → begun_side counter base ≡ None
base_none counter pages q base b = begun_none counter base (λ s e. omega (arith, base_low counter pages q base b s))

-- a page with no header begun is cleared as it stands
pub cleared_none : (counter : ℕ) (page : List ℕ) → begun_side counter page ≡ None → cleared counter page ≡ page
cleared_none counter page e = ap (cleared_on page) e

-- what clearing may have left of the words: those from before, and on the later pages those of the cleared page
pub record Spread (counter pages : ℕ) (m n : Meaning) : Type 0 where
  pub count : n.pages ≡ m.pages
  pub within : (q k : ℕ) (w : List ℕ) → n.possible q k w
      → m.possible q k w ⊎ (Later pages q × (w ≡ word (cleared counter (m.shown q)) k))

-- some pages are cleared, and of the others all are yet to come
pub record Going (counter pages : ℕ) (Left : ℕ → Type 0) (m n : Meaning) : Type 0 where
  pub spread : Spread counter pages m n
  pub zero : n.shown 0 ≡ m.shown 0
  pub each : (q : ℕ) → Later pages q → (n.shown q ≡ cleared counter (m.shown q)) ⊎ ((n.shown q ≡ m.shown q) × Left q)

-- the n numbers from i on are those counted
has_counting : (i n q : ℕ) → i ≤ q → q < i + n → Has q (range_with_len i n)
has_counting i zero q l h = absurd (omega arith)
has_counting i (suc n) q l h = elim (cases_eq q i) [ inl e ↦ inl e | inr never ↦ inr (has_counting (i + 1) n q (omega arith) (omega arith)) ]

-- and no others are
counting_has : (i n q : ℕ) → Has q (range_with_len i n) → (i ≤ q) × (q < i + n)
counting_has i zero q h = absurd h
counting_has i (suc n) q (inl e) = (omega arith, omega arith)
counting_has i (suc n) q (inr h) = let r = counting_has (i + 1) n q h in (omega (arith, r.0), omega (arith, r.1))

-- each later page is among the pages to be cleared
pub has_later : (pages q : ℕ) → Later pages q → Has q (later_pages pages)
has_later pages q l = has_counting 1 (pages - 1) q l.0 (omega (arith, l.0, l.1))

-- and no other is
pub later_has : (pages q : ℕ) → Has q (later_pages pages) → Later pages q
later_has pages q h = let r = counting_has 1 (pages - 1) q h in (r.0, omega (arith, r.0, r.1))

-- the pages to be cleared by their places
pub later_at : (pages i : ℕ) → i < length (later_pages pages) → Later pages (get_or (later_pages pages) i 0)
later_at pages i l = grind (arith, length-range_with_len, get_or-range_with_len)

-- what is among the first pages is among all
take_has : (i : ℕ) (qs : List ℕ) (q : ℕ) → Has q (take i qs) → Has q qs
take_has zero qs q h = absurd h
take_has (suc i) [] q h = absurd h
take_has (suc i) (p ∷ qs) q h = search (rules, take_has i qs)

-- where no word gains a content, none is added to what clearing left
pub spread_on : (counter pages : ℕ) (m n x : Meaning) → Spread counter pages m n → NoGain n x → Spread counter pages m x
spread_on counter pages m n x s g = record { count = g.pages ∙ s.count; within = λ q k w p. s.within q k w (g.within q k w p) }

-- at a sound page that is cleared an edit can begin
pub cleared_base : (counter pages : ℕ) (m : Meaning) → pages ≤ m.pages → Sized m
    → ((q : ℕ) → 1 ≤ q → q < pages → Sound counter pages q (m.shown q))
    → (q : ℕ) → Later pages q → Base counter pages q (cleared counter (m.shown q))
cleared_base counter pages m there sized sound q l =
    (clears counter pages q (m.shown q) (sized.full q (omega (arith, l.1, there))) (sound q l.0 l.1)).1

-- clearing pages, on from a file m whose later pages are sound
module _ {M : Type 0} (meaning : M → Meaning) (counter pages : ℕ) (m : Meaning) (there : pages ≤ m.pages) (sized : Sized m)
    (sound : (q : ℕ) → 1 ≤ q → q < pages → Sound counter pages q (m.shown q)) where
  -- a page at which a header is begun is not cleared yet, and with its number overwritten it is
  written : (Left : ℕ → Type 0) (x : M) (q : ℕ) (s : Side) → Going counter pages Left m (meaning x) → Later pages q
      → begun_side counter ((meaning x).shown q) ≡ Some s → patched ((meaning x).shown q) (start s) zeros ≡ cleared counter (m.shown q)
  written Left x q s g l e = elim (g.each q l) [
    | inl is ↦ let none = base_none counter pages q _ (cleared_base counter pages m there sized sound q l) in
        let some : begun_side counter (cleared counter (m.shown q)) ≡ Some s = subst (λ p. begun_side counter p ≡ Some s) is e in absurd cc
    | inr (is, _) ↦ sym (ap (cleared_on ((meaning x).shown q)) e) ∙ ap (cleared counter) is
  ]

  -- a write of its number, done or refused, adds no words but those of the cleared page
  spread_gains : (Left : ℕ → Type 0) (x y : M) (q : ℕ) (s : Side) → Going counter pages Left m (meaning x) → Later pages q
      → begun_side counter ((meaning x).shown q) ≡ Some s → Gains (meaning x) (meaning y) q (start s) zeros → Spread counter pages m (meaning y)
  spread_gains Left x y q s g l e gains = record {
    count = gains.pages ∙ g.spread.count;
    within = λ r k w p. elim (gains.within r k w p) [
      | inl before ↦ g.spread.within r k w before
      | inr (at, _, is) ↦ rw at (inr (l, is ∙ ap (λ page. word page k) (written Left x q s g l e)))
    ];
  }

  -- one page cleared: it had nothing to clear, or its number is overwritten
  going_page : (Left Rest : ℕ → Type 0) (x y : M) (q : ℕ) (t : Bool) → Going counter pages Left m (meaning x) → Later pages q
      → ((r : ℕ) → Left r → (r ≡ q) ⊎ Rest r) → ClearsPage meaning counter q x y (Ok t) → Going counter pages Rest m (meaning y)
  going_page Left Rest x y q false g l next (_, none, same) = rw same (record {
    spread = g.spread;
    zero = g.zero;
    each = λ r k. elim (g.each r k) [
      | inl is ↦ inl is
      | inr (is, left) ↦ elim (next r left) [
        | inl at ↦ inl (is ∙ sym (cleared_none counter (m.shown r) (rw (← is, at) none)))
        | inr rest ↦ inr (is, rest)
      ]
    ];
  })
  going_page Left Rest x y q true g l next (_, (s, some, (_, _, _, p))) = record {
    spread = spread_gains Left x y q s g l some p.gains;
    zero = p.others 0 (λ z. omega (arith, l.0)) ∙ g.zero;
    each = λ r k. elim (cases_eq r q) [
      | inl at ↦ inl (rw (at, p.here) (written Left x q s g l some))
      | inr never ↦ elim (g.each r k) [
        | inl is ↦ inl (p.others r never ∙ is)
        | inr (is, left) ↦ elim (next r left) [ inl at ↦ absurd (never at) | inr rest ↦ inr (p.others r never ∙ is, rest) ]
      ]
    ];
  }

  -- pages cleared one after the other
  going_clears : (Rest : ℕ → Type 0) (qs : List ℕ) (x y : M) (n : ℕ) → ((q : ℕ) → Has q qs → Later pages q)
      → Going counter pages (λ q. Has q qs ⊎ Rest q) m (meaning x) → Clears meaning counter qs x y n → Going counter pages Rest m (meaning y)
  going_clears Rest [] x y n later g (is, _) = rw is (record {
    spread = g.spread;
    zero = g.zero;
    each = λ q l. elim (g.each q l) [ inl e ↦ inl e | inr (e, inr r) ↦ inr (e, r) | inr (e, inl z) ↦ absurd z ];
  })
  going_clears Rest (q ∷ qs) x y n later g (z, t, k, page, rest, _) =
      going_clears Rest qs z y k (λ r h. later r (inr h))
      (going_page (λ r. Has r (q ∷ qs) ⊎ Rest r) (λ r. Has r qs ⊎ Rest r) x z q t g (later q (inl refl)) (λ r left. search rules) page)
      rest

  -- a page refused: the medium has stopped
  stopped_page : (Left : ℕ → Type 0) (x y : M) (q : ℕ) (e : Refusal) → Going counter pages Left m (meaning x) → Later pages q
      → ClearsPage meaning counter q x y (Err e) → ((meaning y).stopped ≡ true) × Spread counter pages m (meaning y)
  stopped_page Left x y q e g l (inl ((BadRun, _, none), is)) = absurd (omega (arith, l.1, none, g.spread.count))
  stopped_page Left x y q e g l (inl ((Stopped, _, (_, stop)), is)) = rw is (stop, g.spread)
  stopped_page Left x y q e g l (inr (s, BadRun, some, _, (bad, _))) =
      absurd (number_bad (meaning x).pages q s (omega (arith, l.1, g.spread.count)) bad)
  stopped_page Left x y q e g l (inr (s, Stopped, some, _, (_, stop, gains, _))) = (stop, spread_gains Left x y q s g l some gains)

-- nothing is cleared yet
going_start : (counter pages : ℕ) (Left : ℕ → Type 0) (m : Meaning) → ((q : ℕ) → Later pages q → Left q) → Going counter pages Left m m
going_start counter pages Left m left = record {
  spread = record { count = refl; within = λ q k w p. inl p };
  zero = refl;
  each = λ q l. inr (refl, left q l);
}

-- the pages of a file, from the medium a on
module _ {M : Type 0} (meaning : M → Meaning) (counter pages : ℕ) (a : M) (there : pages ≤ (meaning a).pages) (sized : Sized (meaning a))
    (sound : (q : ℕ) → 1 ≤ q → q < pages → Sound counter pages q ((meaning a).shown q)) where
  -- once all are cleared, each shows so
  pub clears_all : (x : M) (n : ℕ) → Clears meaning counter (later_pages pages) a x n → Going counter pages (λ _. ⊥) (meaning a) (meaning x)
  clears_all x n c =
      going_clears meaning counter pages (meaning a) there sized sound (λ _. ⊥) (later_pages pages) a x n (later_has pages)
      (going_start counter pages _ (meaning a) (λ q l. inl (has_later pages q l))) c

  -- a refusal on the way leaves the medium stopped
  pub clears_until : (b : M) (e : Refusal) → ClearsUntil meaning counter (later_pages pages) a b e
      → ((meaning b).stopped ≡ true) × Spread counter pages (meaning a) (meaning b)
  clears_until b e (i, less, (x, (n, c), page)) =
      stopped_page meaning counter pages (meaning a) there sized sound (λ _. Unit {0}) x b (get_or (later_pages pages) i 0) e
      (going_clears meaning counter pages (meaning a) there sized sound (λ _. Unit {0}) (take i (later_pages pages)) a x n
      (λ q h. later_has pages q (take_has i (later_pages pages) q h)) (going_start counter pages _ (meaning a) (λ q l. inr tt)) c)
      (later_at pages i less) page
