use Rattle.std.proofs.Common.{◌≡◌, false, Err, Result, sym, ap, ◌∙◌, subst, rules}
use Rattle.std.proofs.lemmas.Result.{err_from_is_err_and}
use Rattle.medium.specs.declared.fault.MediumFault.{MediumFault}
use Rattle.layer.specs.Below.{Drains}
use Rattle.layer.specs.Holds.{images}
use Rattle.layer.proofs.Descents.{drained, drains_landed, drains_settled, halted}
use Rattle.layer.proofs.holdings.HoldingMedium.settle.Goals as goal

pub returns-in_err-flush : goal.returns-in_err-flush
returns-in_err-flush g c =
    let m = g.M.Medium.meaning in
    let hs = images c.args.self.now in
    let a = c.args.self.now.medium in
    let gs = images c.flush.new.self in
    let b = c.flush.new.self.medium in
    let runs : (m a).stopped ≡ false = search rules in
    let p = err_from_is_err_and c.from_residual.result c.from_residual.ensures.1 in
    let d : Drains m hs a gs b c.from_residual.result =
    subst (λ (r : Result (Unit {0}) MediumFault). Drains m hs a gs b r) (sym (p.1 ∙ ap Err p.2))
    (halted m g.M.Medium.sized hs a gs b c.args.self.now.once runs _ c.in_err-flush.ensures) in
    record {
      settled = drains_settled m g.M.Medium.sized hs a gs b c.args.self.now.once runs c.from_residual.result d;
      below = d;
      landed = drains_landed m g.M.Medium.sized hs a gs b c.args.self.now.once runs c.from_residual.result d;
    }

pub returns : goal.returns
returns g c =
    let m = g.M.Medium.meaning in
    let hs = images c.args.self.now in
    let a = c.args.self.now.medium in
    let gs = images c.settle_below.new.self in
    let b = c.settle_below.new.self.medium in
    let runs : (m a).stopped ≡ false = search rules in
    let d : Drains m hs a gs b c.settle_below.result =
    drained m g.M.Medium.sized hs a gs b c.args.self.now.once runs (images c.flush.new.self) c.flush.new.self.medium c.settle_below.result
    c.in_ok-flush.ensures c.settle_below.ensures.held c.settle_below.ensures.settled in
    record {
      settled = drains_settled m g.M.Medium.sized hs a gs b c.args.self.now.once runs c.settle_below.result d;
      below = d;
      landed = drains_landed m g.M.Medium.sized hs a gs b c.args.self.now.once runs c.settle_below.result d;
    }
