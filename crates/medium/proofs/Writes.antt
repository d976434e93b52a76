-- Reads and writes of bytes as a medium.
use Rattle.std.proofs.Common.{◌≡◌, ℕ, ◌+◌, ◌-◌, ◌*◌, ◌/◌, ◌<◌, ◌≤◌, Bool, true, ◌⊎◌, List, length, drop, Ok, sym, ap, ◌∙◌, inl, inr, ⊎_elim, arith, length-drop, length-take}
use Rattle.std.proofs.lemmas.Bool.{cases_eq, cases_order}
use Rattle.octets.specs.Files.{page_at, word}
use Rattle.octets.specs.Parts.{part, patched}
use Rattle.octets.proofs.Agreeing.{get_d_part, part_agrees, part_part, part_same}
use Rattle.octets.proofs.Patches.{length_part, part_patched, part_round}
use Rattle.octets.proofs.Words.{part_inside}
use Rattle.medium.specs.Flat.{flat}
use Rattle.medium.specs.Meaning.{Meaning, Gains, Patches, Read, Sized, Wrote, good, InRun}
use Rattle.medium.specs.Trials.{Partly}
use Rattle.medium.proofs.Partial.{Mixed, mixed_patched, mixed_partly}
use Rattle.medium.proofs.Runs.{Good, good_tells, in_run}

-- a run of a page is a run of the bytes
pub read_is : (b : List ℕ) (p s n : ℕ) → good (length b / 1024) p s n ≡ true → part b (p * 1024 + s) n ≡ part (page_at b p) s n
read_is b p s n g = sym (part_part b (p * 1024) 1024 s n (good_tells (length b / 1024) p s n g).room)

module _ (b y : List ℕ) (p s : ℕ) (g : Good (length b / 1024) p s (length y)) where
  fits : p * 1024 + s + length y ≤ length b
  fits = omega (arith, g.page, g.room)

  full : length (page_at b p) ≡ 1024
  full = length_part b (p * 1024) 1024 (omega (arith, g.page))

  -- bytes with each word of the run put or left, as a medium
  module _ (z : List ℕ) (m : Mixed (p * 1024 + s) y b z) where
    other : (q : ℕ) → (q ≡ p → ⊥) → page_at z q ≡ page_at b q
    other q ne =
        part_agrees z b (q * 1024) 1024 m.long
        (λ i low high. m.beside i (⊎_elim (λ e. absurd (ne e)) (⊎_elim (λ l. inl (omega arith)) (λ l. inr (omega (arith, g.room)))) (cases_order q p)))

    full_now : length (page_at z p) ≡ 1024
    full_now = length_part z (p * 1024) 1024 (omega (arith, g.page, m.long))

    word_beside : (k : ℕ) → (4 * k < s) ⊎ (s + length y ≤ 4 * k) → word (page_at z p) k ≡ word (page_at b p) k
    word_beside k side =
        part_same (page_at z p) (page_at b p) (4 * k) (4 * k) 4
        (omega (arith, full, full_now, length-take 4 (drop (4 * k) (page_at z p)), length-drop (4 * k) (page_at z p), length-take 4 (drop (4 * k) (page_at b p)), length-drop (4 * k) (page_at b p)))
        (λ i l h. let in_page : 4 * k + i < 1024 = omega (arith, full_now) in
        get_d_part z (p * 1024) 1024 (4 * k + i) in_page
        ∙ m.beside (p * 1024 + (4 * k + i)) (⊎_elim (λ e. inl (omega (arith, g.start))) (λ e. inr (omega arith)) side)
        ∙ sym (get_d_part b (p * 1024) 1024 (4 * k + i) in_page))

    word_inside : (k : ℕ) → InRun s (length y) k → (word (page_at z p) k ≡ word (page_at b p) k) ⊎ (word (page_at z p) k ≡ word (patched (page_at b p) s y) k)
    word_inside k within =
        ⊎_elim (λ put. inr (now ∙ put ∙ sym new)) (λ left. inl (now ∙ left ∙ sym old)) (m.inside j (omega (arith, place)))
      where
        j : ℕ
        j = (4 * k - s) / 4

        place : s + 4 * j ≡ 4 * k
        place = omega (arith, g.start)

        in_page : 4 * k + 4 ≤ 1024
        in_page = omega (arith, g.start, g.whole, g.room)

        now : word (page_at z p) k ≡ part z (p * 1024 + s + 4 * j) 4
        now = part_part z (p * 1024) 1024 (4 * k) 4 in_page ∙ ap (λ x. part z x 4) (omega (arith, place))

        old : word (page_at b p) k ≡ part b (p * 1024 + s + 4 * j) 4
        old = part_part b (p * 1024) 1024 (4 * k) 4 in_page ∙ ap (λ x. part b x 4) (omega (arith, place))

        new : word (patched (page_at b p) s y) k ≡ part y (4 * j) 4
        new = ap (λ x. part (patched (page_at b p) s y) x 4) (sym place) ∙ part_inside (page_at b p) y s (4 * j) 4 (omega (arith, full, g.room)) (omega (arith, place, g.start, g.whole))

    gains : (t u : Bool) → Gains (flat t b) (flat u z) p s y
    gains t u = record {
      pages = ap (λ n. n / 1024) m.long;
      within = λ q k w e. ⊎_elim
          (λ is. at q k w is (e ∙ ap (λ x. word (page_at z x) k) is))
          (λ ne. inl (e ∙ ap (λ x. word x k) (other q ne)))
          (cases_eq q p);
    }
      where
        at : (q k : ℕ) (w : List ℕ) → q ≡ p → w ≡ word (page_at z p) k
            → (w ≡ word (page_at b q) k) ⊎ ((q ≡ p) × InRun s (length y) k × (w ≡ word (patched (page_at b p) s y) k))
        at q k w is e =
            let old : word (page_at b p) k ≡ word (page_at b q) k = ap (λ x. word (page_at b x) k) (sym is) in
            ⊎_elim (λ within. ⊎_elim (λ l. inl (e ∙ l ∙ old)) (λ r. inr (is, within, e ∙ r)) (word_inside k within))
            (λ side. inl (e ∙ word_beside k side ∙ old))
            (in_run s (length y) k)

  here : page_at (patched b (p * 1024 + s) y) p ≡ patched (page_at b p) s y
  here =
      part_round b y (p * 1024 + s) (p * 1024) 1024 (omega arith) (omega (arith, g.room)) (omega (arith, g.page))
      ∙ ap (λ i. patched (page_at b p) i y) (omega arith)

-- bytes with a good run put in, as a medium
pub wrote_flat : (b z y : List ℕ) (p s : ℕ) (t u : Bool) → good (length b / 1024) p s (length y) ≡ true → z ≡ patched b (p * 1024 + s) y
    → Patches (flat t b) (flat u z) p s y
wrote_flat b z y p s t u e is =
    let g = good_tells (length b / 1024) p s (length y) e in
    let m = mixed_patched (p * 1024 + s) y b g.whole (fits b y p s g) in
    rw is (record { gains = gains b y p s g (patched b (p * 1024 + s) y) m t u; here = here b y p s g; others = other b y p s g (patched b (p * 1024 + s) y) m })

-- the same with some of the run's words only: a medium that stopped in the write
pub stopped_flat : (b z y : List ℕ) (p s pattern : ℕ) (t u : Bool) → good (length b / 1024) p s (length y) ≡ true → Partly pattern (p * 1024 + s) y b z
    → Gains (flat t b) (flat u z) p s y
stopped_flat b z y p s pattern t u e h =
    let g = good_tells (length b / 1024) p s (length y) e in
    gains b y p s g z (mixed_partly pattern (p * 1024 + s) y b z g.whole (fits b y p s g) h) t u

-- what was written is what is read then, from any medium
pub reads_written : (m n : Meaning) (p s : ℕ) (y old new : List ℕ) → Sized m → Wrote m n p s y (Ok tt) → Read n p s old new (Ok tt)
    → length old ≡ length y → new ≡ y
reads_written m n p s y old new sized (accepted, runs, still, put) (good-too, running, is) long =
    let g = good_tells m.pages p s (length y) accepted in
    is ∙ (λ i. part (put.here i) s (long i)) ∙ part_patched (m.shown p) y s (omega (arith, g.room, sized.full p g.page))
