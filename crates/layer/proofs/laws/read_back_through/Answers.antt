use Rattle.std.proofs.Common.{◌≡◌, ℕ, List, length, OnOk, Ok, Err, Result}
use Rattle.medium.specs.declared.fault.MediumFault.{MediumFault}
use Rattle.medium.specs.Meaning.{Meaning, Read, Sized, Wrote}
use Rattle.medium.proofs.Writes.{reads_written}
use Rattle.layer.specs.Holds.{holds_sized, images, layered}
use Rattle.layer.specs.Windows.{seen, windowed_sized}
use Rattle.layer.proofs.laws.read_back_through.Goals as goal

-- a read after a write of the same run, on any medium
reads_back : (m n : Meaning) (p s : ℕ) (b old new : List ℕ) (r : Result (Unit {0}) MediumFault) → Sized m → Wrote m n p s b (Ok tt) → Read n p s old new r
    → OnOk r (length old ≡ length b → new ≡ b)
reads_back m n p s b old new (Err e) sized w h = tt
reads_back m n p s b old new (Ok _) sized w h = reads_written m n p s b old new sized w h

pub returns-clause-same : goal.returns-clause-same
returns-clause-same g c =
    let w = c.args.pile.now in
    let m = g.M.Medium.meaning in
    reads_back (seen (layered m) w) (seen (layered m) c.write.new.self) c.args.page c.args.at c.args.bytes.now c.args.out.now c.read.new.out c.read.result
    (windowed_sized (layered m w.medium) w.first w.count (holds_sized (m w.medium.medium) (images w.medium) (g.M.Medium.sized w.medium.medium)))
    c.in_ok-write.ensures.wrote c.read.ensures
