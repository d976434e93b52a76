-- What a cut leaves.
use Rattle.std.proofs.Common.{◌≡◌, ℕ, ◌<◌, Bool, false, List, Ok, refl, ◌∙◌, arith}
use Rattle.octets.proofs.Words.{words_same}
use Rattle.medium.specs.Cuts.{CutMedium, LeavesShown, shown_file}
use Rattle.medium.specs.Flat.{flat, flat_sized}
use Rattle.medium.specs.Meaning.{Meaning, Settled, Settles, Sized}

-- bytes are left as they are
pub cut_flat : (t : Bool) (b : List ℕ) → CutMedium (flat t b) (flat false b)
cut_flat t b = record {
  runs = refl;
  left = record { count = refl; sized = (flat_sized t b).full; possible = λ p k l h. refl };
  only = λ p k w e. e;
}

-- where only what is shown is possible, it is what every cut leaves
pub settled_leaves : (m : Meaning) → Sized m → Settles m → LeavesShown m
settled_leaves m sized only f c p l =
    words_same 256 (f.page p) (m.shown p) (c.sized p l) (sized.full p l) (λ k h. only p k _ (c.possible p k l h))

-- a settled medium cut twice shows what it showed before
pub settled_cuts : (m n o q : Meaning) → Settled m n (Ok tt) → Sized n → CutMedium n o → Sized o → CutMedium o q
    → (p : ℕ) → p < m.pages → q.shown p ≡ m.shown p
settled_cuts m n o q (runs, still, count, shown, only) n_sized c o_sized d p l =
    settled_leaves o o_sized c.only (shown_file q) d.left p (omega (arith, count, c.left.count))
    ∙ settled_leaves n n_sized only (shown_file o) c.left p (omega (arith, count)) ∙ shown p
