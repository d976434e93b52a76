use Rattle.std.proofs.Common.{rules}
use Rattle.store.proofs.FormWays.{look_read, look_refused}
use Rattle.store.proofs.store.Store.look_form.Goals as goal

pub returns-in_err-page : goal.returns-in_err-page
returns-in_err-page g c = search (rules, look_refused)

pub returns : goal.returns
returns g c = let h = c.in_ok-page in
    look_read g.F.RecordForm.reads (g.M.Medium.meaning c.args.self.now.medium) c.args.self.now.state c.args.key c.args.work.now c.find.new.work
    _ _ _ _ _ _ c.find.ensures c.under.ensures c.in_ok-page.was c.value_at.ensures c.read.ensures c.of_form.ensures
