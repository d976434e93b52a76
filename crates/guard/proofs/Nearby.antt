-- Pages near a base: made of allowed words, and read as the base is.
use Rattle.std.proofs.Common.{◌≡◌, ℕ, ◌+◌, ◌*◌, ◌/◌, ◌%◌, ◌<◌, ◌≤◌, List, map, length, get_or, sym, refl, ap, ◌∙◌, subst, inl, inr, ⊎_elim, arith, length-drop}
use Rattle.std.proofs.lemmas.List.{get_or_past, length-take-le}
use Rattle.std.proofs.lemmas.Bool.{cases_lt}
use Rattle.octets.specs.Files.{word}
use Rattle.octets.specs.Numbers.{big}
use Rattle.octets.proofs.Words.{byte_word}
use Rattle.layout.specs.declared.header.Side.{Side}
use Rattle.layout.specs.declared.header.Side.TheVariants.{A, B}
use Rattle.layout.specs.Pages.{number_of, rank, records, saved_slots, start, valid_side}
use Rattle.layout.specs.Sound.{Numbered, Sound}
use Rattle.layout.specs.Held.{Held, InHeader}
use Rattle.layout.proofs.Alike.{alike_records, alike_sound, held_beside, slots_records}
use Rattle.draft.specs.Drafts.{target, target_by}
use Rattle.guard.specs.Guard.{Allowed, Base, Guards, MayNumber, Near, other}
use Rattle.guard.proofs.Sided.{numbered_differ, numbered_from, rank_high, rank_low, side_none, side_other, target_least, target_not}
use Rattle.guard.proofs.Words.{number_word, start_few, start_word}

pub base_low : (counter pages q : ℕ) (base : List ℕ) → Base counter pages q base → (s : Side) → number_of base s ≤ counter
base_low counter pages q base b A = b.low_a
base_low counter pages q base b B = b.low_b

pub base_from : (counter pages q : ℕ) (base : List ℕ) (s : Side) → length base ≡ 1024 → Sound counter pages q base
    → number_of base s ≤ counter → number_of base (other s) ≤ counter → Base counter pages q base
base_from counter pages q base A long sound l m = record { long = long; sound = sound; low_a = l; low_b = m }
base_from counter pages q base B long sound l m = record { long = long; sound = sound; low_a = m; low_b = l }

-- a base is near itself
pub near_itself : (counter pages q : ℕ) (base : List ℕ) → Base counter pages q base → Near counter base base
near_itself counter pages q base b = record { long = b.long; held = λ k h. refl; kept = refl; number = inl refl }

module _ (counter pages q : ℕ) (base page : List ℕ) (b : Base counter pages q base) (near : Near counter base page) where
  -- the number of the header that is not written over
  pub near_other : number_of page (other (target counter base)) ≡ number_of base (other (target counter base))
  near_other =
      sym (number_word page (other (target counter base))) ∙ ap big near.kept ∙ number_word base (other (target counter base))

  may_rank : (n : ℕ) → MayNumber counter base n → rank counter n ≤ number_of base (target counter base)
  may_rank n (inl e) =
      let low = base_low counter pages q base b (target counter base) in
      omega (arith, rank_low counter n (omega arith))
  may_rank n (inr (inl e)) = omega (arith, rank_high counter n (omega arith))
  may_rank n (inr (inr e)) = omega (arith, rank_low counter n (omega arith))

  pub near_side : valid_side counter page ≡ valid_side counter base
  near_side =
      let t : Side = target counter base in
      let o : Side = other t in
      let base-t = rank_low counter (number_of base t) (base_low counter pages q base b t) in
      let base-o = rank_low counter (number_of base o) (base_low counter pages q base b o) in
      let page-t = may_rank (number_of page t) near.number in
      let page-o : rank counter (number_of page o) ≡ number_of base o = ap (rank counter) near_other ∙ base-o in
      let least = target_least counter (number_of base) in
      ⊎_elim (λ (l : number_of base t < number_of base o).
      side_other counter (number_of page) t (omega arith) ∙ sym (side_other counter (number_of base) t (omega arith)))
      (λ (l : number_of base o ≤ number_of base t).
      let none : number_of base t ≡ 0 = numbered_differ counter base b.sound.numbered t (omega arith) in
      side_none counter (number_of page) t (omega arith) ∙ sym (side_none counter (number_of base) t (omega arith)))
      (cases_lt (number_of base t) (number_of base o))

  -- the header that is written over is the same
  pub near_target : target counter page ≡ target counter base
  near_target = ap target_by near_side

  may_low : (n : ℕ) → MayNumber counter base n → n ≤ counter + 1
  may_low n (inl e) = omega (arith, base_low counter pages q base b (target counter base))
  may_low n (inr (inl e)) = omega arith
  may_low n (inr (inr e)) = omega arith

  may_differ : (n m : ℕ) → MayNumber counter base n → m ≡ number_of base (other (target counter base)) → n ≡ m → n ≡ 0
  may_differ n m (inl e) d same = e ∙ numbered_differ counter base b.sound.numbered (target counter base) (omega arith)
  may_differ n m (inr (inl e)) d same = absurd (omega (arith, base_low counter pages q base b (other (target counter base))))
  may_differ n m (inr (inr e)) d same = e

  -- its edit numbers may stand under the counter, and it reads as the base does
  pub near_numbered : Numbered counter page
  near_numbered =
      numbered_from counter page (target counter base) (may_low _ near.number)
      (omega (arith, near_other, base_low counter pages q base b (other (target counter base))))
      (may_differ _ _ near.number near_other)

  pub near_sound : Sound counter pages q page
  near_sound = alike_sound counter pages q base page (near.long ∙ sym b.long) near_side near.held b.sound near_numbered

  pub near_records : records counter page ≡ records counter base
  near_records = alike_records counter pages q base page (near.long ∙ sym b.long) near_side near.held b.sound

  pub near_slots : saved_slots counter page ≡ saved_slots counter base
  near_slots =
      sym (slots_records page (saved_slots counter page)) ∙ ap (map (λ e. e.slot)) near_records ∙ slots_records base (saved_slots counter base)

-- no byte that a base holds lies in the header that is written over
pub held_target : (counter pages q : ℕ) (base : List ℕ) → Base counter pages q base → (k : ℕ) → Held counter base k
    → InHeader (target counter base) k → ⊥
held_target counter pages q base b =
    held_beside counter pages q base b.sound (target counter base) (target_not (valid_side counter base))

-- allowed words make a page near the base
pub words_near : (counter : ℕ) (base page : List ℕ) → length base ≡ 1024 → length page ≡ 1024
    → ((k : ℕ) → k < 256 → Allowed counter base k (word page k)) → Near counter base page
words_near counter base page long-base long each =
    let t : Side = target counter base in
    let o : Side = other t in
    record {
      long = long;
      held = λ k h. ⊎_elim
          (λ (l : k < 1024).
          let at : 4 * (k / 4) + k % 4 ≡ k = omega arith in
          let held : Held counter base (4 * (k / 4) + k % 4) = rw at h in
          ap (λ i. get_or page i 0) (sym at) ∙ sym (byte_word page (k / 4) (k % 4) (omega arith))
          ∙ (each (k / 4) (omega arith)).held (k % 4) (omega arith) held ∙ ap (λ i. get_or base i 0) at)
          (λ (l : 1024 ≤ k). get_or_past page k 0 (omega arith) ∙ sym (get_or_past base k 0 (omega arith)))
          (cases_lt k 1024);
      kept = (each (start o / 4) (start_few o)).kept (start_word o);
      number = subst (MayNumber counter base) (number_word page t) ((each (start t / 4) (start_few t)).number (start_word t));
    }

-- and a page near the base has allowed words
pub near_words : (counter : ℕ) (base page : List ℕ) → Near counter base page → (k : ℕ) → k < 256 → Allowed counter base k (word page k)
near_words counter base page near k l = record {
  long = length-take-le 4 _ (omega (arith, length-drop (4 * k) page, near.long));
  held = λ j m h. byte_word page k j m ∙ near.held (4 * k + j) h;
  kept = λ e. let at : k ≡ start (other (target counter base)) / 4 = omega arith in rw at near.kept;
  number = λ e. let at : k ≡ start (target counter base) / 4 = omega arith in
      rw at (subst (MayNumber counter base) (sym (number_word page (target counter base))) near.number);
}

pub guards : Guards
guards counter pages q base page b long each =
    let near = words_near counter base page b.long long each in
    (near_sound counter pages q base page b near, near_records counter pages q base page b near)
