-- Clearing the number of a change that was never saved.
use Rattle.std.proofs.Common.{◌≡◌, ℕ, ◌+◌, ◌/◌, ◌<◌, ◌≤◌, ◌⊎◌, List, length, get_or, Some, None, Option, sym, refl, ap, ◌∙◌, subst, inl, inr, ⊎_elim, arith}
use Rattle.std.proofs.lemmas.List.{get_or_past}
use Rattle.std.proofs.lemmas.Bool.{cases_lt}
use Rattle.octets.specs.Files.{word}
use Rattle.octets.specs.Numbers.{big}
use Rattle.octets.proofs.Patches.{length_patched, part_patched, patched_beside}
use Rattle.octets.proofs.Words.{word_byte, words_same}
use Rattle.layout.specs.declared.header.Side.{Side}
use Rattle.layout.specs.declared.header.Side.TheVariants.{A, B}
use Rattle.layout.specs.Pages.{number_of, records, start}
use Rattle.layout.specs.Sound.{Sound}
use Rattle.layout.proofs.Alike.{start_low}
use Rattle.draft.specs.Drafts.{begun_side}
use Rattle.guard.specs.Guard.{Base}
use Rattle.guard.specs.Clears.{cleared_on, Clears, zeros}
use Rattle.guard.proofs.Sided.{begun_not, begun_number, numbered_low}
use Rattle.guard.proofs.Nearby.{base_from}
use Rattle.guard.proofs.Unsaved.{begun_other, unsaved_other, unsaved_records, unsaved_sound}
use Rattle.guard.proofs.Words.{number_word, start_few}

-- the page with a number cleared
module _ (page : List ℕ) (long : length page ≡ 1024) (s : Side) where
  fits : start s + length zeros ≤ length page
  fits = omega (arith, start_low s)

  pub length_cleared : length (cleared_on page (Some s)) ≡ 1024
  length_cleared = length_patched page zeros (start s) fits ∙ long

  pub cleared_beside : (k : ℕ) → (k < start s) ⊎ (start s + 4 ≤ k) → get_or (cleared_on page (Some s)) k 0 ≡ get_or page k 0
  cleared_beside k h = patched_beside page zeros (start s) fits k h

  pub cleared_number : number_of (cleared_on page (Some s)) s ≡ 0
  unfolding number_of
  cleared_number = ap big (part_patched page zeros (start s) fits)

-- a page whose words are those of a page before or after clearing
module _ (page f : List ℕ) (long : length page ≡ 1024) (long-f : length f ≡ 1024) (s : Side)
    (each : (k : ℕ) → k < 256 → (word f k ≡ word page k) ⊎ (word f k ≡ word (cleared_on page (Some s)) k)) where
  words_beside : (i : ℕ) → (i < start s) ⊎ (start s + 4 ≤ i) → get_or f i 0 ≡ get_or page i 0
  words_beside i h = ⊎_elim
      (λ (l : i < 1024). ⊎_elim (λ (e : word f (i / 4) ≡ word page (i / 4)). word_byte f page i e)
      (λ (e : word f (i / 4) ≡ word (cleared_on page (Some s)) (i / 4)). word_byte f (cleared_on page (Some s)) i e ∙ cleared_beside page long s i h)
      (each (i / 4) (omega arith)))
      (λ (l : 1024 ≤ i). get_or_past f i 0 (omega arith) ∙ sym (get_or_past page i 0 (omega arith)))
      (cases_lt i 1024)

  words_number : (number_of f s ≡ number_of page s) ⊎ (number_of f s ≡ 0)
  words_number = elim (each (start s / 4) (start_few s)) [
    | inl e ↦ inl (sym (number_word f s) ∙ ap big e ∙ number_word page s)
    | inr e ↦ inr (sym (number_word f s) ∙ ap big e ∙ number_word (cleared_on page (Some s)) s ∙ cleared_number page long s)
  ]

clears_at : (counter pages q : ℕ) (page : List ℕ) → length page ≡ 1024 → Sound counter pages q page → (o : Option Side) → begun_side counter page ≡ o
    → ((f : List ℕ) → length f ≡ 1024 → ((k : ℕ) → k < 256 → (word f k ≡ word page k) ⊎ (word f k ≡ word (cleared_on page o) k))
    → Sound counter pages q f × (records counter f ≡ records counter page))
    × Base counter pages q (cleared_on page o)
clears_at counter pages q page long sound None e =
    let low : (s : Side) → number_of page s ≤ counter = λ s. omega (arith, numbered_low counter page sound.numbered s, begun_not counter page e s) in (
      λ f long-f each. let is = words_same 256 f page long-f long (λ k l. ⊎_elim (λ e. e) (λ e. e) (each k l)) in
          (subst (Sound counter pages q) (sym is) sound, ap (records counter) is),
      base_from counter pages q page A long sound (low A) (low B),
    )
clears_at counter pages q page long sound (Some s) e =
    let number = begun_number counter page s e in
    let none = cleared_number page long s in
    let long-c = length_cleared page long s in
    let beside = cleared_beside page long s in
    let c : List ℕ = cleared_on page (Some s) in (
      λ f long-f each.
          let may : (number_of f s ≡ counter + 1) ⊎ (number_of f s ≡ 0) =
          elim (words_number page f long long-f s each) [ inl e ↦ inl (e ∙ number) | inr e ↦ inr e ] in
          let same = words_beside page f long long-f s each in (
            unsaved_sound counter pages q page f (long-f ∙ sym long) sound s number may same,
            unsaved_records counter pages q page f (long-f ∙ sym long) sound s number may same,
          ),
      let low = begun_other counter pages q page sound s number in
          base_from counter pages q c s long-c (unsaved_sound counter pages q page c (long-c ∙ sym long) sound s number (inr none) beside)
          (omega arith) (omega (arith, unsaved_other counter pages q page c (long-c ∙ sym long) sound s number (inr none) beside)),
    )

pub clears : Clears
clears counter pages q page long sound = clears_at counter pages q page long sound (begun_side counter page) refl
