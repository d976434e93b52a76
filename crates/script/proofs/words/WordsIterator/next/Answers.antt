use Rattle.std.proofs.Common.{◌≡◌, ◌<◌, Some, rules}
use Rattle.std.specs.Option.{option_map}
use Rattle.script.specs.Parting.{words_left}
use Rattle.script.proofs.Parts.{word_less}
use Rattle.script.proofs.words.WordsIterator.next.Goals as goal

pub returns-clause-goes : goal.returns-clause-goes
returns-clause-goes c =
    let from : option_map (λ x. x.now) c.args.self.now.rest ≡ Some c.in_ok-self.field-0.now = search rules in
    let less : words_left (option_map (λ x. x.now) c.cut.result.1) < words_left (option_map (λ x. x.now) c.args.self.now.rest) =
    rw (from, c.cut.ensures.back) (word_less c.in_ok-self.field-0.now) in
    record { on = λ _. (tt, tt, less); keeps = tt; rests = λ _. tt }
