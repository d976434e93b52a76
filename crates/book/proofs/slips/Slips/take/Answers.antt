use Rattle.std.proofs.Common.{◌≡◌, ℕ, List, Some, None, Option, MatchOption, slice_index_or, slice_set, sym, refl, subst, rules}
use Rattle.std.proofs.lemmas.List.{set-get_or}
use Rattle.book.proofs.slips.Slips.take.Goals as goal

-- where there is nothing at a place, emptying it changes nothing
emptied : {X : Type 0} (xs : List (Option X)) (i : ℕ) (o : Option X) → o ≡ slice_index_or xs i None
    → MatchOption o (slice_set xs i None ≡ xs) (λ _. slice_set xs i None ≡ slice_set xs i None)
emptied xs i None e = subst (λ o. slice_set xs i o ≡ xs) (sym e) (set-get_or xs i None)
emptied xs i (Some x) e = refl

pub returns-clause-left : goal.returns-clause-left
returns-clause-left c = rw c.take.ensures.after (emptied c.args.self.now.given.items c.args.at c.take.result (search rules))
