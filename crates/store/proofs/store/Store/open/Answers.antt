use Rattle.std.proofs.Common.{◌≡◌, Some, None, Ok, Err, sym, subst, refl, arith, rules}
use Rattle.std.proofs.lemmas.Result.{err_from_is_err_and}
use Rattle.store.specs.declared.refusal.Refusal.TheVariants.{NotAShowFile}
use Rattle.store.specs.declared.state.Opened.{Opened}
use Rattle.store.specs.declared.state.State.TheVariants.{Open, Shut}
use Rattle.layout.specs.Sound.{FirstSound}
use Rattle.store.specs.Opens.{Begun, Checked, First}
use Rattle.store.proofs.LawWays.{opens_sound}
use Rattle.store.proofs.OpenWays.{open_done, open_unsound, open_until, open_unsettled}
use Rattle.store.proofs.store.Store.open.Goals as goal

pub returns-in_err-idle-clause-opens : goal.returns-in_err-idle-clause-opens
returns-in_err-idle-clause-opens g c =
    let p = err_from_is_err_and c.from_residual.result c.from_residual.ensures.1 in
    let whole = c.in-Some.ensures.cases in
    let e = c.in_err-idle.ensures in
    rw (p.1, p.2, e.0) (whole.long, e.1, refl, refl, whole.same)

pub returns-in_err-first-clause-opens : goal.returns-in_err-first-clause-opens
returns-in_err-first-clause-opens g c =
    let m = g.M.Medium.meaning c.args.self.now.medium in
    let begun : Begun m c.args.self.now.state c.args.work.now = (c.in-Some.ensures.cases.long, c.in_ok-idle.ensures, omega (arith, c.pages-pages.ensures)) in
    let n : c.read.result ≡ None = grind arith in
    let r : c.from_residual-in_err-first.result ≡ Err NotAShowFile = search rules in
    let told = rw n at c.read.ensures in
    let read = c.in_ok-load.ensures in
    rw r (
      begun,
      read.0,
      λ f. told (subst (λ n. FirstSound n c.load.new.work) (sym c.pages-pages.ensures) (subst (FirstSound m.pages) (sym read.1) f)),
      refl,
      refl,
      read.1,
    )

pub returns-in_err-check_pages : goal.returns-in_err-check_pages
returns-in_err-check_pages g c =
    let p = err_from_is_err_and c.from_residual-in_err-check_pages.result c.from_residual-in_err-check_pages.ensures.1 in
    let m = g.M.Medium.meaning c.args.self.now.medium in
    let begun : Begun m c.args.self.now.state c.args.work.now = (c.in-Some.ensures.cases.long, c.in_ok-idle.ensures, omega (arith, c.pages-pages.ensures)) in
    let n : c.read.result ≡ Some c.in_ok-first.first = grind arith in
    let told = rw n at c.read.ensures in
    let first : First m c.in_ok-first.first = search rules in
    let done = open_unsound g.M.Medium.meaning c.args.self.now.medium c.args.self.now.state c.args.work.now c.check_pages.new.work begun c.in_ok-first.first c.in_err-check_pages.field-0.0 first c.in_err-check_pages.ensures in
    rw (p.1, p.2) (record { opens = done; sound = opens_sound g.M.Medium.meaning c.args.self.now.medium c.args.self.now.medium c.args.self.now.state Shut c.args.work.now c.check_pages.new.work (Err c.in_err-check_pages.field-0.0) done; edit = refl })

pub returns-in_err-cleared : goal.returns-in_err-cleared
returns-in_err-cleared g c =
    let p = err_from_is_err_and c.from_residual-in_err-cleared.result c.from_residual-in_err-cleared.ensures.1 in
    let m = g.M.Medium.meaning c.args.self.now.medium in
    let begun : Begun m c.args.self.now.state c.args.work.now = (c.in-Some.ensures.cases.long, c.in_ok-idle.ensures, omega (arith, c.pages-pages.ensures)) in
    let n : c.read.result ≡ Some c.in_ok-first.first = grind arith in
    let told = rw n at c.read.ensures in
    let checked : Checked m c.in_ok-first.first c.check_pages.new.work = search rules in
    let done = open_until g.M.Medium.meaning c.args.self.now.medium c.args.self.now.state c.args.work.now c.check_pages.new.work begun c.clear_pages.new.medium c.in_ok-first.first c.in_err-cleared.field-0.0 checked c.in_err-cleared.ensures in
    rw (p.1, p.2) (record { opens = done; sound = opens_sound g.M.Medium.meaning c.args.self.now.medium c.clear_pages.new.medium c.args.self.now.state Shut c.args.work.now c.check_pages.new.work (Err c.in_err-cleared.field-0.0) done; edit = refl })

pub returns-in_err-at : goal.returns-in_err-at
returns-in_err-at g c =
    let p = err_from_is_err_and c.from_residual-in_err-at.result c.from_residual-in_err-at.ensures.1 in
    let m = g.M.Medium.meaning c.args.self.now.medium in
    let begun : Begun m c.args.self.now.state c.args.work.now = (c.in-Some.ensures.cases.long, c.in_ok-idle.ensures, omega (arith, c.pages-pages.ensures)) in
    let n : c.read.result ≡ Some c.in_ok-first.first = grind arith in
    let told = rw n at c.read.ensures in
    let checked : Checked m c.in_ok-first.first c.check_pages.new.work = search rules in
    let done = open_unsettled g.M.Medium.meaning c.args.self.now.medium c.args.self.now.state c.args.work.now c.check_pages.new.work begun c.clear_pages.new.medium c.settle.new.self c.in_ok-first.first c.in_ok-cleared.cleared c.settle.result c.at.result c.in_err-at.field-0.0 checked c.in_ok-cleared.ensures c.settle.ensures c.at.ensures c.in_err-at.was in
    rw (p.1, p.2) (record { opens = done; sound = opens_sound g.M.Medium.meaning c.args.self.now.medium c.settle.new.self c.args.self.now.state Shut c.args.work.now c.check_pages.new.work (Err c.in_err-at.field-0.0) done; edit = refl })

pub returns : goal.returns
returns g c =
    let m = g.M.Medium.meaning c.args.self.now.medium in
    let begun : Begun m c.args.self.now.state c.args.work.now = (c.in-Some.ensures.cases.long, c.in_ok-idle.ensures, omega (arith, c.pages-pages.ensures)) in
    let n : c.read.result ≡ Some c.in_ok-first.first = grind arith in
    let told = rw n at c.read.ensures in
    let checked : Checked m c.in_ok-first.first c.check_pages.new.work = search rules in
    let opened : Opened = record { counter = c.in_ok-first.first.counter; pages = c.in_ok-first.first.pages; cleared = c.in_ok-cleared.cleared } in
    let done = open_done g.M.Medium.meaning c.args.self.now.medium c.args.self.now.state c.args.work.now c.check_pages.new.work begun c.clear_pages.new.medium c.settle.new.self c.in_ok-first.first c.settle.result c.at.result c.in_ok-at.field-0 opened checked c.in_ok-cleared.ensures c.settle.ensures c.at.ensures c.in_ok-at.was refl refl in
    record { opens = done; sound = opens_sound g.M.Medium.meaning c.args.self.now.medium c.settle.new.self c.args.self.now.state (Open c.in_ok-first.first) c.args.work.now c.check_pages.new.work (Ok opened) done; edit = refl }
