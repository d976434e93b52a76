use Rattle.std.proofs.Common.{ltb, length, Ok, Err, refl, subst, inl}
use Rattle.std.proofs.lemmas.Result.{err_from_is_err_and}
use Rattle.store.specs.Access.{Loads}
use Rattle.store.specs.Edits.{PageChange, page_change}
use Rattle.store.proofs.EditWays.{edit_offered, edit_unchanged, edit_unread, ready_at}
use Rattle.store.proofs.store.Store.edit.Goals as goal

pub returns-in_err-first-clause-edits : goal.returns-in_err-first-clause-edits
returns-in_err-first-clause-edits g c =
    let p = err_from_is_err_and c.from_residual.result c.from_residual.ensures.1 in
    let whole = c.in-Some.ensures.cases in
    rw (p.1, p.2)
    (inl (ready_at c.args.self.now.state c.args.self.now.edit.changes (length c.args.work.now) c.args.slip.now.number (ltb 200 (length c.args.value.now)) (Err c.in_err-first.field-0.0) whole.long c.in_err-first.ensures, refl, refl, whole.same))

pub returns-in_err-load : goal.returns-in_err-load
returns-in_err-load g c =
    let p = err_from_is_err_and c.from_residual-in_err-load.result c.from_residual-in_err-load.ensures.1 in
    let how : PageChange = page_change c.args.change c.args.key c.args.value.now in
    let whole = c.in-Some.ensures.cases in
    let ready = ready_at c.args.self.now.state c.args.self.now.edit.changes (length c.args.work.now) c.args.slip.now.number (ltb 200 (length c.args.value.now)) (Ok c.in_ok-first.first) whole.long c.in_ok-first.ensures in
    rw (p.1, p.2)
    (record {
      edits = edit_unread g.M.Medium.meaning how c.args.key c.args.slip.now.number (ltb 200 (length c.args.value.now)) c.args.self.now.medium c.args.self.now.state c.args.self.now.edit c.args.work.now c.in_ok-first.first ready c.page_of-q.result c.page_of-q.ensures
          c.load.new.work c.in_err-load.field-0.0 (subst (λ w. Loads (g.M.Medium.meaning c.args.self.now.medium) c.page_of-q.result w c.load.new.work (Err c.in_err-load.field-0.0)) whole.same c.in_err-load.ensures);
      state = refl;
    })

pub returns-in_err-apply : goal.returns-in_err-apply
returns-in_err-apply g c =
    let p = err_from_is_err_and c.from_residual-in_err-apply.result c.from_residual-in_err-apply.ensures.1 in
    let how : PageChange = page_change c.args.change c.args.key c.args.value.now in
    let ready = ready_at c.args.self.now.state c.args.self.now.edit.changes (length c.args.work.now) c.args.slip.now.number (ltb 200 (length c.args.value.now)) (Ok c.in_ok-first.first) c.in-Some.ensures.cases.long c.in_ok-first.ensures in
    rw (p.1, p.2)
    (record {
      edits = edit_unchanged g.M.Medium.meaning how c.args.key c.args.slip.now.number (ltb 200 (length c.args.value.now)) c.args.self.now.medium c.args.self.now.state c.args.self.now.edit c.args.work.now c.in_ok-first.first ready c.page_of-q.result c.page_of-q.ensures
          c.load.new.work c.apply.new.page c.in_err-apply.field-0.0 c.in_ok-load.ensures c.in_err-apply.ensures;
      state = refl;
    })

pub returns : goal.returns
returns g c =
    let how : PageChange = page_change c.args.change c.args.key c.args.value.now in
    let ready = ready_at c.args.self.now.state c.args.self.now.edit.changes (length c.args.work.now) c.args.slip.now.number (ltb 200 (length c.args.value.now)) (Ok c.in_ok-first.first) c.in-Some.ensures.cases.long c.in_ok-first.ensures in
    record {
      edits = edit_offered g.M.Medium.meaning how c.args.key c.args.slip.now.number (ltb 200 (length c.args.value.now)) c.args.self.now.medium c.args.self.now.state c.args.self.now.edit c.args.work.now c.in_ok-first.first ready c.page_of-q.result c.page_of-q.ensures
          c.offer.new.self.medium c.offer.new.self.edit c.load.new.work c.apply.new.page c.offer.result c.in_ok-load.ensures c.in_ok-apply.ensures c.offer.ensures.offers;
      state = c.offer.ensures.state;
    }
