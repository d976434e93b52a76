-- The first page with another counter.
use Rattle.std.proofs.Common.{◌≡◌, ℕ, ◌+◌, ◌*◌, ◌^◌, ◌<◌, ◌≤◌, ◌⊎◌, List, length, sym, ap, ◌∙◌, inl, inr, arith}
use Rattle.std.proofs.lemmas.Bool.{cases_eq, cases_lt}
use Rattle.octets.specs.Files.{File, word}
use Rattle.octets.specs.Numbers.{big, spell}
use Rattle.octets.specs.Parts.{part, patched}
use Rattle.octets.proofs.Numbers.{big_spell, length_spell}
use Rattle.octets.proofs.Patches.{length_patched, part_beside, part_patched}
use Rattle.octets.proofs.Words.{words_same}
use Rattle.medium.specs.Cuts.{CutFile}
use Rattle.medium.specs.Meaning.{Gains, Meaning, Settles, Sized}
use Rattle.layout.specs.Sound.{FirstSound, counter_of, pages_of}
use Rattle.book.specs.Keeps.{Later}

-- a first page with this counter
abbrev pub recounted : List ℕ → ℕ → List ℕ
recounted page n = patched page 8 (spell 4 n)

module _ (page : List ℕ) (n : ℕ) (long : length page ≡ 1024) where
  -- there is room for the counter
  fits : 8 + length (spell 4 n) ≤ length page
  fits = omega (arith, length_spell 4 n)

  -- it is as long
  pub recounted_long : length (recounted page n) ≡ 1024
  recounted_long = length_patched page (spell 4 n) 8 fits ∙ long

  -- it tells as many pages, and the new counter
  pub recounted_pages : pages_of (recounted page n) ≡ pages_of page
  recounted_pages = ap big (part_beside page (spell 4 n) 8 fits 4 4 (inl (omega arith)))

  pub recounted_counter : n < 2 ^ 32 → counter_of (recounted page n) ≡ n
  recounted_counter h =
      ap (λ k. big (part (recounted page n) 8 k)) (sym (length_spell 4 n)) ∙ ap big (part_patched page (spell 4 n) 8 fits) ∙ big_spell 4 n h

  -- it is read where the page is
  pub recounted_sound : (count : ℕ) → FirstSound count page → FirstSound count (recounted page n)
  recounted_sound count s = record {
    form = ap big (part_beside page (spell 4 n) 8 fits 0 4 (inl (omega arith))) ∙ s.form;
    least = omega (arith, recounted_pages, s.least);
    most = omega (arith, recounted_pages, s.most);
    there = omega (arith, recounted_pages, s.there);
  }

  -- every word but the counter is the page's
  pub recounted_beside : (k : ℕ) → (k ≡ 2 → ⊥) → word (recounted page n) k ≡ word page k
  recounted_beside k never = part_beside page (spell 4 n) 8 fits (4 * k) 4 (elim (cases_lt k 2) [
    | inl l ↦ inl (omega arith)
    | inr l ↦ inr (omega (arith, length_spell 4 n, never))
  ])

-- pages that agree in the counter and in every other word
first_same : (a b : List ℕ) → length a ≡ 1024 → length b ≡ 1024 → word a 2 ≡ word b 2
    → ((k : ℕ) → k < 256 → (k ≡ 2 → ⊥) → word a k ≡ word b k) → a ≡ b
first_same a b long_a long_b two each = words_same 256 a b long_a long_b (λ k l. elim (cases_eq k 2) [
  | inl e ↦ rw e two
  | inr never ↦ each k l never
])

-- what a cut leaves where only the counter may have been written
module _ (x n : Meaning) (sized : Sized x) (only : Settles x) (number : ℕ) (g : Gains x n 0 8 (spell 4 number))
    (f : File) (c : CutFile n f) where
  -- later pages are as shown
  pub cut_later : (q : ℕ) → Later x.pages q → f.page q ≡ x.shown q
  cut_later q (l, h) =
      let there : q < n.pages = omega (arith, g.pages) in
      words_same 256 (f.page q) (x.shown q) (c.sized q there) (sized.full q h)
      (λ k m. elim (g.within q k _ (c.possible q k there m)) [
        | inl before ↦ only q k _ before
        | inr (e, run, is) ↦ absurd (omega (arith, e))
      ])

  -- the first page is as shown, or has the new counter
  pub cut_first : 0 < x.pages → (f.page 0 ≡ x.shown 0) ⊎ (f.page 0 ≡ recounted (x.shown 0) number)
  cut_first h =
      let there : 0 < n.pages = omega (arith, g.pages) in
      let long : length (x.shown 0) ≡ 1024 = sized.full 0 h in
      let rest : (k : ℕ) → k < 256 → (k ≡ 2 → ⊥) → word (f.page 0) k ≡ word (x.shown 0) k =
      λ k m never. elim (g.within 0 k _ (c.possible 0 k there m)) [
        | inl before ↦ only 0 k _ before
        | inr (e, run, is) ↦ absurd (omega (arith, run.0, run.1, length_spell 4 number, never))
      ] in
      elim (g.within 0 2 _ (c.possible 0 2 there (omega arith))) [
        | inl before ↦ inl (first_same (f.page 0) (x.shown 0) (c.sized 0 there) long (only 0 2 _ before) rest)
        | inr (e, run, is) ↦ inr (first_same (f.page 0) (recounted (x.shown 0) number) (c.sized 0 there)
            (recounted_long (x.shown 0) number long) is (λ k m never. rest k m never ∙ sym (recounted_beside (x.shown 0) number long k never)))
      ]
