use Rattle.std.proofs.Common.{◌≡◌, rules}
use Rattle.store.specs.Lays.{zero_page}
use Rattle.store.proofs.LayWays.{zero_filled}
use Rattle.store.proofs.lay.zero_pages.Goals as goal

pub returns-in_err-write_each : goal.returns-in_err-write_each
returns-in_err-write_each g c =
    let z : c.fill.new.self ≡ zero_page = zero_filled c.args.work.now c.fill.new.self (search rules) (search rules) in
    search rules

pub returns : goal.returns
returns g c =
    let z : c.fill.new.self ≡ zero_page = zero_filled c.args.work.now c.fill.new.self (search rules) (search rules) in
    search rules
