use Rattle.std.proofs.Common.{◌≡◌, Ok, sym, ap, ◌∙◌, refl, subst, rules}
use Rattle.std.specs.Option.{unwrap_or}
use Rattle.store.specs.Looks.{Looks}
use Rattle.book.specs.Uses.{at_desk, moment}
use Rattle.book.proofs.Told.{read_bad}
use Rattle.book.proofs.desk.Desk.look_form.Goals as goal

pub returns-in-Err-clause-looks : goal.returns-in-Err-clause-looks
returns-in-Err-clause-looks g c =
    let found : c.look.result ≡ Ok c.in_ok-place.place = search rules in
    let store = c.args.self.now.store.now in
    read_bad g.M.Medium.meaning (g.F.Forms.reads c.args.of) c.args.key c.unwrap-page.result (at_desk c.args.self.now)
    (moment store c.args.self.now.slips.now c.look.new.work) c.in_ok-place.place c.in-Err.bad _
    (subst (λ x. Looks (g.M.Medium.meaning store.medium) store.state c.args.key c.args.self.now.work.now c.look.new.work x) found c.look.ensures)
    (ap (g.F.Forms.reads c.args.of) (sym c.value_at.ensures) ∙ sym c.read.ensures ∙ c.in-Err.is) (sym (ap (λ o. unwrap_or o 0) (sym c.page_of.ensures ∙ c.unwrap-page.ensures))) refl
