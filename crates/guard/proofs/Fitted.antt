-- Slots that fit a page still fit it without one, and with one more.
use Rattle.std.proofs.Common.{◌≡◌, ℕ, ◌<◌, ◌≤◌, cond, ltb, List, [], ◌∷◌, length, refl, arith}
use Rattle.std.specs.List.{AllByRecursion}
use Rattle.std.proofs.ByRecursion.{All-from_get_or, All-get_or}
use Rattle.layout.specs.declared.header.Slot.{Slot}
use Rattle.layout.specs.Pages.{key_of}
use Rattle.layout.specs.Sound.{Apart, Fits, Own}
use Rattle.draft.specs.Drafts.{put_in, taken_out}
use Rattle.guard.proofs.Rising.{Absent, all_put_in, all_taken_out, length_put_in, length_taken_out, ordered_from, Rising, rising_from, rising_put_in, rising_taken_out}

module _ (pages q : ℕ) (page : List ℕ) where
  pub own_all : (ss : List Slot) → Fits pages q page ss → AllByRecursion (Own pages q page) ss
  own_all ss f = All-from_get_or (Own pages q page) ss (record { offset = 0; length = 0 }) f.own

  pub rising_all : (ss : List Slot) → Fits pages q page ss → Rising page ss
  rising_all ss f = rising_from page ss f.ordered

  pub fits_all : (ss : List Slot) → length ss ≤ 24 → AllByRecursion (Own pages q page) ss → Rising page ss → Fits pages q page ss
  fits_all ss few own rising = record {
    few = few;
    own = λ k l. All-get_or (Own pages q page) ss k (record { offset = 0; length = 0 }) l own;
    ordered = ordered_from page ss rising;
  }

  pub fits_taken_out : (key : ℕ) (ss : List Slot) → Fits pages q page ss → Fits pages q page (taken_out page key ss)
  fits_taken_out key ss f =
      fits_all (taken_out page key ss) (omega (arith, length_taken_out page key ss, f.few))
      (all_taken_out page key (Own pages q page) ss (own_all ss f)) (rising_taken_out page key ss (rising_all ss f))

  pub fits_put_in : (key : ℕ) (new : Slot) → key_of page new ≡ key → Own pages q page new → (ss : List Slot) → length ss < 24
      → Absent page key ss → AllByRecursion (Apart new) ss → Fits pages q page ss → Fits pages q page (put_in page key new ss)
  fits_put_in key new is own ss room absent apart f =
      fits_all (put_in page key new ss) (omega (arith, length_put_in page key new ss))
      (all_put_in page key new (Own pages q page) ss own (own_all ss f))
      (rising_put_in page key new is ss absent apart (rising_all ss f))

-- where slots have the same keys on two pages, one more goes to the same place
pub put_in_same : (a b : List ℕ) (key : ℕ) (new : Slot) (ss : List Slot) → AllByRecursion (λ s. key_of b s ≡ key_of a s) ss
    → put_in b key new ss ≡ put_in a key new ss
put_in_same a b key new [] h = refl
put_in_same a b key new (s ∷ ss) h =
    let here = h.0 in
    let after = put_in_same a b key new ss h.1 in
    λ i. cond (ltb (here i) key) (s ∷ after i) (new ∷ s ∷ ss)
