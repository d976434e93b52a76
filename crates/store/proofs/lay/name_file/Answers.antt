use Rattle.std.proofs.Common.{◌≡◌, rules}
use Rattle.store.specs.Lays.{named}
use Rattle.store.proofs.LayWays.{named_is, names_last}
use Rattle.store.proofs.lay.name_file.Goals as goal

pub returns-in_err-at : goal.returns-in_err-at
returns-in_err-at g c = search (rules, named_is)

pub returns : goal.returns
returns g c =
    let image : c.write_number-2.new.bytes ≡ named c.args.work.now c.args.pages = search (rules, named_is) in
    record {
      names = names_last g.M.Medium.meaning (named c.args.work.now c.args.pages) c.write_number-2.new.bytes c.args.medium.now c.write.new.self c.settle.new.self
          c.write.result c.settle.result c.at.result c.at-2.result c.in_ok-at.field-0 image c.write.ensures c.at.ensures c.in_ok-at.was c.settle.ensures c.at-2.ensures;
      work = image;
    }
