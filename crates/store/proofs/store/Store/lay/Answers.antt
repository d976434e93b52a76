use Rattle.std.proofs.Common.{length, refl, ◌∙◌, arith, rules}
use Rattle.std.proofs.lemmas.Result.{err_from_is_err_and}
use Rattle.store.specs.declared.state.State.TheVariants.{Shut}
use Rattle.store.specs.Lays.{CanLay}
use Rattle.store.proofs.LawWays.{lays_empty}
use Rattle.store.proofs.LayWays.{lay_named, lay_unzeroed}
use Rattle.store.proofs.store.Store.lay.Goals as goal
use Rattle.store.proofs.store.Store.lay.Goals.{then-pages-lt2-via-then-pages-lt2, then-pages-lt2-via-else-pages-lt2+then-pages-gt4096, then-pages-lt2-via-else-pages-lt2+else-pages-gt4096+then-pages}

pub returns-in_err-idle-clause-lays : goal.returns-in_err-idle-clause-lays
returns-in_err-idle-clause-lays g c =
    let p = err_from_is_err_and c.from_residual.result c.from_residual.ensures.1 in
    let whole = c.in-Some.ensures.cases in
    let e = c.in_err-idle.ensures in
    rw (p.1, p.2, e.0) (whole.long, e.1, refl, refl, whole.same)

pub returns-then-pages-lt2-clause-lays : goal.returns-then-pages-lt2-clause-lays
returns-then-pages-lt2-clause-lays g c =
    let whole = c.in-Some.ensures.cases in (
      whole.long,
      c.in_ok-idle.ensures,
      λ h. elim c.then-pages-lt2.branch [
        | then-pages-lt2-via-then-pages-lt2 w ↦ omega (arith, h.0)
        | then-pages-lt2-via-else-pages-lt2+then-pages-gt4096 w ↦ omega (arith, h.1)
        | then-pages-lt2-via-else-pages-lt2+else-pages-gt4096+then-pages w ↦ omega (arith, h.2, w.pages.ensures)
      ],
      refl,
      refl,
      elim c.then-pages-lt2.branch [
        | then-pages-lt2-via-then-pages-lt2 w ↦ w.work-is ∙ whole.same
        | then-pages-lt2-via-else-pages-lt2+then-pages-gt4096 w ↦ w.work-is ∙ whole.same
        | then-pages-lt2-via-else-pages-lt2+else-pages-gt4096+then-pages w ↦ w.work-is ∙ whole.same
      ],
    )

pub returns-in_err-zero_pages-clause-lays : goal.returns-in_err-zero_pages-clause-lays
returns-in_err-zero_pages-clause-lays g c =
    let p = err_from_is_err_and c.from_residual-in_err-zero_pages.result c.from_residual-in_err-zero_pages.ensures.1 in
    let can : CanLay (g.M.Medium.meaning c.args.self.now.medium) c.args.self.now.state (length c.args.work.now) c.args.pages =
    (c.in-Some.ensures.cases.long, c.in_ok-idle.ensures, omega arith, omega arith, omega (arith, c.pages.ensures)) in
    rw (p.1, p.2)
    (lay_unzeroed g.M.Medium.meaning c.args.pages c.args.self.now.medium c.args.self.now.state c.args.work.now can c.zero_pages.new.medium c.zero_pages.new.work
    c.in_err-zero_pages.field-0.0 c.in_err-zero_pages.ensures.zeroes c.in_err-zero_pages.ensures.work)

pub returns : goal.returns
returns g c =
    let can : CanLay (g.M.Medium.meaning c.args.self.now.medium) c.args.self.now.state (length c.args.work.now) c.args.pages =
    (c.in-Some.ensures.cases.long, c.in_ok-idle.ensures, omega arith, omega arith, omega (arith, c.pages.ensures)) in
    let done = lay_named g.M.Medium.meaning c.args.pages c.args.self.now.medium c.args.self.now.state c.args.work.now can
    c.zero_pages.new.medium c.name_file.new.medium c.zero_pages.new.work c.name_file.new.work c.in_ok-zero_pages.field-0 c.name_file.result
    (search rules) (search rules) c.name_file.ensures.names c.name_file.ensures.work in
    record {
      lays = done;
      laid = lays_empty g.M.Medium.meaning g.M.Medium.sized c.args.pages c.args.self.now.medium c.name_file.new.medium c.args.self.now.state Shut
          c.args.work.now c.name_file.new.work c.name_file.result done;
      edit = refl;
    }
