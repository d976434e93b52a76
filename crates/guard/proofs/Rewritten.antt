-- A page near a base stays near it where it changes beside what the base holds.
use Rattle.std.proofs.Common.{◌≡◌, ℕ, ◌*◌, ◌/◌, List, length, get_or, sym, ◌∙◌, arith}
use Rattle.octets.specs.Files.{word}
use Rattle.octets.proofs.Agreeing.{part_agrees}
use Rattle.layout.specs.declared.header.Side.{Side}
use Rattle.layout.specs.Pages.{number_of, start}
use Rattle.layout.specs.Held.{Held, InHeader}
use Rattle.layout.proofs.Alike.{header_one}
use Rattle.draft.specs.Drafts.{target}
use Rattle.guard.specs.Guard.{Base, MayNumber, Near, other}
use Rattle.guard.proofs.Nearby.{held_target}
use Rattle.guard.proofs.Sided.{other_not}
use Rattle.guard.proofs.Words.{start_word}

-- pages that agree in a header agree in its first word
header_word : (a b : List ℕ) (s : Side) → length b ≡ length a → ((k : ℕ) → InHeader s k → get_or b k 0 ≡ get_or a k 0)
    → word b (start s / 4) ≡ word a (start s / 4)
header_word a b s long same =
    let e = start_word s in
    part_agrees b a (4 * (start s / 4)) 4 long (λ k l h. same k (omega arith, omega arith))

module _ (counter pages q : ℕ) (base page new : List ℕ) (b : Base counter pages q base) (near : Near counter base page) (long : length new ≡ 1024) where
  -- changed in bytes that the base does not hold, and not in the header that is not written over
  pub near_beside : ((k : ℕ) → Held counter base k → get_or new k 0 ≡ get_or page k 0)
      → ((k : ℕ) → InHeader (other (target counter base)) k → get_or new k 0 ≡ get_or page k 0)
      → MayNumber counter base (number_of new (target counter base)) → Near counter base new
  near_beside held rest number = record {
    long = long;
    held = λ k h. held k h ∙ near.held k h;
    kept = header_word page new (other (target counter base)) (long ∙ sym near.long) rest ∙ near.kept;
    number = number;
  }

  -- changed in the header that is written over
  pub near_header : ((k : ℕ) → (InHeader (target counter base) k → ⊥) → get_or new k 0 ≡ get_or page k 0)
      → MayNumber counter base (number_of new (target counter base)) → Near counter base new
  near_header same =
      near_beside (λ k h. same k (held_target counter pages q base b k h))
      (λ k h. same k (λ i. other_not (target counter base) (header_one (other (target counter base)) (target counter base) k h i)))
