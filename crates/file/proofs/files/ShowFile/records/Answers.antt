use Rattle.std.proofs.Common.{arith}
use Rattle.file.proofs.AllRecords.{begun}
use Rattle.file.proofs.files.ShowFile.records.Goals as goal

pub returns : goal.returns
returns c =
    let f = c.args.self.now in
    begun f.bytes.now f.first.counter f.first.pages 1 _ c.page_at.result.now (omega arith) c.page_at.ensures c.new.ensures
