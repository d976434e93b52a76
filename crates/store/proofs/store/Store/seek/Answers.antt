use Rattle.std.proofs.Common.{◌≡◌, length, Some, None, Ok, Err, sym, refl, subst, arith, rules}
use Rattle.std.proofs.lemmas.Result.{err_from_is_err_and}
use Rattle.store.specs.declared.refusal.Refusal.TheVariants.{NoSuchKey}
use Rattle.store.specs.Looks.{Looks}
use Rattle.store.proofs.LookWays.{look_found, look_none, look_unread, readable_at}
use Rattle.store.proofs.store.Store.seek.Goals as goal

pub returns-in_err-load : goal.returns-in_err-load
returns-in_err-load g c =
    let p = err_from_is_err_and c.from_residual.result c.from_residual.ensures.1 in
    let z : length c.args.page.now ≡ 1024 = omega arith in
    let ready = readable_at c.args.self.now.state (length c.args.page.now) (Ok c.args.first) z c.requires in
    rw (p.1, p.2)
    (look_unread (g.M.Medium.meaning c.args.self.now.medium) c.args.self.now.state c.args.key c.args.page.now c.load.new.work c.args.first ready c.page_of.result c.page_of.ensures
    c.in_err-load.field-0.0 c.in_err-load.ensures)

pub returns-in_err-record : goal.returns-in_err-record
returns-in_err-record g c =
    let z : length c.args.page.now ≡ 1024 = omega arith in
    let ready = readable_at c.args.self.now.state (length c.args.page.now) (Ok c.args.first) z c.requires in
    let n : c.find.result ≡ None = grind arith in
    let r : c.from_residual-in_err-record.result ≡ Err NoSuchKey = search rules in
    subst (Looks (g.M.Medium.meaning c.args.self.now.medium) c.args.self.now.state c.args.key c.args.page.now c.load.new.work) (sym r)
    (look_none (g.M.Medium.meaning c.args.self.now.medium) c.args.self.now.state c.args.key c.args.page.now c.load.new.work c.args.first ready c.page_of.result c.page_of.ensures
    c.find.result c.in_ok-load.ensures c.find.ensures n)

pub returns : goal.returns
returns g c =
    let z : length c.args.page.now ≡ 1024 = omega arith in
    let ready = readable_at c.args.self.now.state (length c.args.page.now) (Ok c.args.first) z c.requires in
    let n : c.find.result ≡ Some c.in_ok-record.record = grind arith in
    look_found (g.M.Medium.meaning c.args.self.now.medium) c.args.self.now.state c.args.key c.args.page.now c.load.new.work c.args.first ready c.page_of.result c.page_of.ensures
    c.find.result c.in_ok-record.record _ c.in_ok-load.ensures c.find.ensures n refl c.saturating_sub.ensures
