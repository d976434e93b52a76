use Rattle.std.proofs.Common.{ℕ, List, ◌∷◌, codes, decimal, sym, ap, ◌∙◌, append_assoc}
use Rattle.std.proofs.Output.{has_written_of_eq}
use Rattle.form.specs.Texts.{field_text}
use Rattle.form.proofs.show.show_field.Goals as goal

pub returns-in-Some : goal.returns-in-Some
returns-in-Some g c = λ p ok. has_written_of_eq g.W.Write.write_str_gives _ _ _ _ (ap (λ (l : List ℕ). 32 ∷ l) (sym (append_assoc c.args.name.now (codes "=") (decimal c.in-Some.n))) ∙ ap (field_text c.args.name.now) (sym c.in-Some.is)) (c.write.ensures.writes p ok)
