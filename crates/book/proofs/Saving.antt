-- Saving keeps a store to its book.
use Rattle.std.proofs.Common.{rules, ◌≡◌, ℕ, ◌+◌, ◌<◌, true, ◌&&◌, List, length, Ok, Err, refl, ap, ◌∙◌, subst, inl, inr, arith, Result}
use Rattle.store.specs.declared.state.State.{State}
use Rattle.store.specs.declared.state.Edit.{Edit}
use Rattle.std.proofs.lemmas.Bool.{both_ways, lt-ltb}
use Rattle.octets.specs.Numbers.{spell}
use Rattle.octets.proofs.Numbers.{length_spell}
use Rattle.medium.specs.declared.fault.MediumFault.{MediumFault}
use Rattle.medium.specs.Meaning.{Gains, Meaning, Settled, Sized, Wrote, good}
use Rattle.layout.specs.declared.first.FirstPage.{FirstPage}
use Rattle.store.specs.declared.refusal.Refusal.{Refusal}
use Rattle.store.specs.declared.refusal.Refusal.TheVariants.{Medium}
use Rattle.store.specs.declared.refusal.Step.{Step}
use Rattle.store.specs.declared.refusal.Step.TheVariants.{Settle, Write}
use Rattle.store.specs.declared.state.State.TheVariants.{Editing, Open, Shut}
use Rattle.store.specs.Edits.{touched_by}
use Rattle.store.specs.Ends.{Commits, Saves}
use Rattle.book.specs.Books.{Book, doubted, saved_by}
use Rattle.book.specs.Keeps.{Keeps}
use Rattle.book.proofs.Cutting.{rests_safe}
use Rattle.book.proofs.Resting.{rests_on}
use Rattle.book.proofs.SavedPages.{between_says, saved_keeps}

-- the run of the counter is good
pub counter_good : (pages number : ℕ) → 0 < pages → good pages 0 8 (length (spell 4 number)) ≡ true
counter_good pages number h = ap (good pages 0 8) (length_spell 4 number) ∙ ap (λ t. t && true) (lt-ltb 0 pages h)

-- a write of the counter is refused only by a medium that stops
unwritten : (x b : Meaning) (number : ℕ) (f : MediumFault) → 0 < x.pages → Wrote x b 0 8 (spell 4 number) (Err f)
    → (b.stopped ≡ true) × Gains x b 0 8 (spell 4 number)
unwritten x b number f h wrote = search (rules, both_ways, counter_good)

-- an edit that is saved
module _ {M : Type 0} (meaning : M → Meaning) (sized : (x : M) → Sized (meaning x)) (a b : M) (first : FirstPage) (touched : List ℕ) (k : Book)
    (keeps : Keeps (meaning a) (Editing first) touched k) where
  -- done: the draft is what is saved
  accepts : (now : FirstPage) → now.pages ≡ first.pages → now.counter ≡ first.counter + 1 → Commits meaning (first.counter + 1) a b (Ok tt)
      → Keeps (meaning b) (Open now) touched (record { saved = k.draft; draft = k.draft; either = k.either })
  accepts now pages counter (x, y, settled, wrote, last) =
      let run = keeps.4 settled.0 in
      saved_keeps (meaning a) first keeps.0 k.saved k.draft keeps.1 keeps.2 run.0 run.2
      (meaning x) (meaning y) (meaning b) now touched k.either settled wrote last pages counter

  -- stopped once the counter may have been written: a cut leaves what was saved or the draft
  between : (x : M) (step : Step) (f : MediumFault) → Settled (meaning a) (meaning x) (Ok tt) → (meaning b).stopped ≡ true
      → Gains (meaning x) (meaning b) 0 8 (spell 4 (first.counter + 1)) → Keeps (meaning b) Shut touched (doubted k (Medium step 0 f))
  between x step f settled stops gains =
      let run = keeps.4 settled.0 in (
        λ file c.
            let says = between_says (meaning a) first keeps.0 k.saved k.draft keeps.1 keeps.2 run.0 run.2
            (meaning x) (meaning b) (sized x) settled gains file c in
            (says.0, elim says.1 [ inl old ↦ inl old | inr new ↦ inr (refl, new) ]),
        λ runs. absurd cc,
      )

  -- refused by the medium at any of the three steps
  refuses : (e : Refusal) → Commits meaning (first.counter + 1) a b (Err e) → Keeps (meaning b) Shut touched (doubted k e)
  refuses e (inl (f, is, (_, stops, none, _))) =
      rw is (
        rests_safe (meaning b) first keeps.0 (doubted k (Medium Settle 0 f)) (rests_on (meaning a) (meaning b) first keeps.0 k.saved none keeps.1),
        λ runs. absurd cc,
      )
  refuses e (inr (inl (x, settled, (f, is, wrote)))) =
      let there : 0 < (meaning x).pages = omega (arith, settled.2, keeps.1.sound.least, keeps.1.sound.there) in
      let u = unwritten (meaning x) (meaning b) (first.counter + 1) f there wrote in
      rw is (between x Write f settled u.0 u.1)
  refuses e (inr (inr (x, y, settled, wrote, (f, is, (_, stops, none, _))))) =
      let g = wrote.3.gains in
      rw is
      (between x Settle f settled stops (record { pages = none.pages ∙ g.pages; within = λ q k w p. g.within q k w (none.within q k w p) }))

-- saving keeps a store to its book, whatever it answers
pub save_keeps : {M : Type 0} (meaning : M → Meaning) → ((x : M) → Sized (meaning x)) → (a b : M) (s t : State) (e : Edit) (number : ℕ)
    (r : Result (ℕ × ℕ) Refusal) (k : Book) → Keeps (meaning a) s (touched_by e) k → Saves meaning number a b s t e r
    → Keeps (meaning b) t (touched_by e) (saved_by k r)
save_keeps meaning sized a b s t e number (Ok r) k keeps ((first, (at, is), (now, after, pages, counter)), commits, _, _) =
    rw after
    (accepts meaning sized a b first (touched_by e) k (subst (λ s. Keeps (meaning a) s (touched_by e) k) at keeps) now pages (counter ∙ is)
    (subst (λ n. Commits meaning n a b (Ok tt)) is commits))
save_keeps meaning sized a b s t e number (Err x) k keeps (inl (is, _, same, stays)) =
    rw (is, same, stays) keeps
save_keeps meaning sized a b s t e number (Err x) k keeps (inr ((first, (at, is)), commits, shut)) =
    rw shut
    (refuses meaning sized a b first (touched_by e) k (subst (λ s. Keeps (meaning a) s (touched_by e) k) at keeps) x
    (subst (λ n. Commits meaning n a b (Err x)) is commits))
