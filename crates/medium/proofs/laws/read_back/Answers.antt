use Rattle.medium.proofs.Writes.{reads_written}
use Rattle.medium.proofs.laws.read_back.Goals as goal

pub returns : goal.returns
returns g c = record {
  steps = (c.in_ok-write.ensures, c.in_ok-read.ensures);
  same =
      reads_written (g.M.Medium.meaning c.args.medium.now) (g.M.Medium.meaning c.write.new.self) c.args.page c.args.at
      c.args.bytes.now c.args.out.now c.read.new.out (g.M.Medium.sized c.args.medium.now)
      c.in_ok-write.ensures c.in_ok-read.ensures;
}
