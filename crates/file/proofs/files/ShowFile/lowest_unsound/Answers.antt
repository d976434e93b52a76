use Rattle.std.proofs.Common.{◌-◌, ℕ, rules, tests}
use Rattle.std.proofs.lemmas.Iterator.{YieldsList-from_range, first_from_find}
use Rattle.octets.specs.Files.{file_of}
use Rattle.layout.specs.Sound.{Sound}
use Rattle.file.proofs.Pages.{lowest_from}
use Rattle.file.proofs.files.ShowFile.lowest_unsound.Goals as goal

pub returns : goal.returns
returns c =
    let f = c.args.self.now in
    let Good : ℕ → Type 0 = λ q. Sound f.first.counter f.first.pages q ((file_of f.bytes.now).page q) in
    lowest_from f.bytes.now f.first.counter f.first.pages c.find.result
    (first_from_find _ _ _ (λ q. Good q → ⊥) Good c.find.ensures.ran (YieldsList-from_range 1 f.first.pages (f.first.pages - 1) (cc) (cc))
    (λ x q k. search (rules, tests)) (λ x q k. search (rules, tests)))
