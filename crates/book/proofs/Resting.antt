-- What is saved goes on resting.
use Rattle.std.proofs.Common.{◌≡◌, ℕ, ◌<◌, ◌⊎◌, List, length, ◌∙◌, inl, inr, arith}
use Rattle.std.proofs.lemmas.Bool.{cases_eq}
use Rattle.octets.specs.Files.{word}
use Rattle.octets.specs.Parts.{patched}
use Rattle.medium.specs.Meaning.{Gains, InRun, Meaning, NoGain, Patches}
use Rattle.layout.specs.declared.first.FirstPage.{FirstPage}
use Rattle.layout.specs.Pages.{records}
use Rattle.layout.specs.Sound.{Sound}
use Rattle.guard.specs.Changes.{Drafted}
use Rattle.guard.specs.Guard.{Allowed}
use Rattle.guard.proofs.Nearby.{near_records, near_sound}
use Rattle.book.specs.Books.{Values}
use Rattle.book.specs.Keeps.{Later, Rests, Stands, Within}

-- what rests goes on resting on a medium of as many pages whose words are still such
rests_within : (m n : Meaning) (first : FirstPage) (base : ℕ → List ℕ) (v : Values) → n.pages ≡ m.pages
    → Within n 0 (λ k w. w ≡ word (base 0) k) → ((q : ℕ) → Later first.pages q → Within n q (Allowed first.counter (base q)))
    → Rests m first base v → Rests n first base v
rests_within m n first base v count zero words r = record {
  long = r.long;
  sound = rw count r.sound;
  pages = r.pages;
  counter = r.counter;
  zero = zero;
  bases = r.bases;
  words = words;
  said = r.said;
}

-- where no word gains a content
pub rests_on : (m n : Meaning) (first : FirstPage) (base : ℕ → List ℕ) (v : Values) → NoGain m n → Rests m first base v → Rests n first base v
rests_on m n first base v g r =
    rests_within m n first base v g.pages (λ k h w p. r.zero k h w (g.within 0 k w p)) (λ q l k h w p. r.words q l k h w (g.within q k w p)) r

-- where a later page gains only words that keep what is saved
pub rests_gains : (m n : Meaning) (first : FirstPage) (base : ℕ → List ℕ) (v : Values) (p s : ℕ) (b : List ℕ) → Gains m n p s b
    → Later first.pages p
    → ((k : ℕ) → k < 256 → InRun s (length b) k → Allowed first.counter (base p) k (word (patched (m.shown p) s b) k))
    → Rests m first base v → Rests n first base v
rests_gains m n first base v p s b g later allowed r =
    rests_within m n first base v g.pages
    (λ k h w x. elim (g.within 0 k w x) [ inl before ↦ r.zero k h w before | inr (e, _, _) ↦ absurd (omega (arith, e, later.0)) ])
    (λ q l k h w x. elim (g.within q k w x) [
      | inl before ↦ r.words q l k h w before
      | inr (e, run, is) ↦ rw (is, e) (allowed k h run)
    ]) r

-- where later pages gain only the words of pages that keep what is saved
pub rests_spread : (m n : Meaning) (first : FirstPage) (base : ℕ → List ℕ) (v : Values) (new : ℕ → List ℕ) → n.pages ≡ m.pages
    → ((q k : ℕ) (w : List ℕ) → n.possible q k w → m.possible q k w ⊎ (Later first.pages q × (w ≡ word (new q) k)))
    → ((q : ℕ) → Later first.pages q → (k : ℕ) → k < 256 → Allowed first.counter (base q) k (word (new q) k))
    → Rests m first base v → Rests n first base v
rests_spread m n first base v new count within allowed r =
    rests_within m n first base v count
    (λ k h w x. elim (within 0 k w x) [ inl before ↦ r.zero k h w before | inr (later, _) ↦ absurd (omega (arith, later.0)) ])
    (λ q l k h w x. elim (within q k w x) [ inl before ↦ r.words q l k h w before | inr (_, is) ↦ rw is (allowed q l k h) ]) r

-- where a later page is patched to one that an edit may have changed, all that is shown still stands
pub stands_patched : (m n : Meaning) (first : FirstPage) (base : ℕ → List ℕ) (q s : ℕ) (b : List ℕ) → Patches m n q s b → Later first.pages q
    → Drafted first.counter first.pages q (base q) (n.shown q) → Stands m first base → Stands n first base
stands_patched m n first base q s b p later d stands = record {
  zero = p.others 0 (λ e. omega (arith, later.0, e)) ∙ stands.zero;
  drafted = λ r l. elim (cases_eq r q) [ inl e ↦ rw e d | inr ne ↦ rw (p.others r ne) (stands.drafted r l) ];
}

-- such a page is sound, and reads as its base
pub drafted_reads : (counter pages q : ℕ) (base page : List ℕ) → Drafted counter pages q base page
    → Sound counter pages q page × (records counter page ≡ records counter base)
drafted_reads counter pages q base page d = (near_sound counter pages q base page d.base_fits d.near, near_records counter pages q base page d.base_fits d.near)
