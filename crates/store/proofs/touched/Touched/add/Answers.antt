use Rattle.std.proofs.Common.{◌≡◌, Ok, Err, ap, ◌∙◌, subst}
use Rattle.std.specs.List.{insert}
use Rattle.std.specs.List.Sorted.{IsBinarySearchResult}
use Rattle.std.specs.Ordering.{nat_cmp}
use Rattle.store.specs.Touches.{added, ascending}
use Rattle.store.proofs.Adding.{ascending_added, found_place, found_there}
use Rattle.store.proofs.touched.Touched.add.Goals as goal

placed : (c : goal.After-insert) → insert c.args.self.now.pages.items c.in-Err.at c.args.page ≡ added c.args.page c.args.self.now.pages.items
placed c =
    (found_place c.args.page c.in-Err.at c.args.self.now.pages.items c.args.self.now.ascends
    (subst (λ xs. IsBinarySearchResult (λ y. nat_cmp y c.args.page) xs (Err c.in-Err.at)) c.deref.ensures.0 c.in-Err.ensures.position)).1

pub invariant_of-self : goal.invariant_of-self
invariant_of-self c = record {
  ascends =
      ap ascending (c.insert.ensures.items ∙ placed c)
      ∙ ascending_added c.args.page c.args.self.now.pages.items c.args.self.now.ascends;
}

pub returns-in-Err : goal.returns-in-Err
returns-in-Err c =
    c.insert.ensures.items
    ∙ (found_place c.args.page c.in-Err.at c.args.self.now.pages.items c.args.self.now.ascends
    (subst (λ xs. IsBinarySearchResult (λ y. nat_cmp y c.args.page) xs (Err c.in-Err.at)) c.deref.ensures.0 c.in-Err.ensures.position)).1

pub returns-in_default : goal.returns-in_default
returns-in_default c =
    found_there c.args.page c.in_default.field-0 c.args.self.now.pages.items c.args.self.now.ascends
    (subst (λ xs. IsBinarySearchResult (λ y. nat_cmp y c.args.page) xs (Ok c.in_default.field-0)) c.deref.ensures.0 c.in_default.ensures.position)
