-- Why a call is not accepted, over the characters' codes.
use Rattle.std.specs.Prelude.{ℕ, List, ◌++◌, codes, decimal}
use Rattle.store.specs.Lines.{refusal_line}
use Rattle.book.specs.declared.call.Denied.{Denied}
use Rattle.book.specs.declared.call.Denied.TheVariants.{NoSlip, Store, Form, NotOfForm}

-- why a call was not accepted
abbrev pub denied_line : Denied → List ℕ
denied_line NoSlip = codes "no slip"
denied_line (Store e) = refusal_line e
denied_line (Form key e) = refusal_line e ++ (codes " key " ++ decimal key)
denied_line (NotOfForm key page bad) = codes "refused " ++ (decimal 16 ++ (codes " key " ++ (decimal key ++ (codes " page " ++ (decimal page ++ (codes " byte " ++ decimal bad.at))))))
