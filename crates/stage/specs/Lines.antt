-- The lines that are printed, over the characters' codes.
use Rattle.std.specs.Prelude.{ℕ, Bool, true, false, List, ◌++◌, Ok, Err, codes, decimal, Result}
use Rattle.book.specs.declared.call.Denied.{Denied}
use Rattle.book.specs.Lines.{denied_line}
use Rattle.book.specs.declared.call.Done.{Done}
use Rattle.book.specs.declared.call.Done.TheVariants.{Opened, Begun, Changed, Looked, Key, Saved, Abandoned, Value}
use Rattle.form.specs.declared.by_number.ByNumber.{ByNumber}
use Rattle.form.specs.declared.item.Item.{Item}
use Rattle.form.specs.Texts.{item_text}
use Rattle.medium.specs.declared.fault.MediumFault.{MediumFault}
use Rattle.medium.specs.Texts.{fault_text}
use Rattle.store.specs.declared.refusal.Refusal.{Refusal}
use Rattle.store.specs.Looks.{value_at}
use Rattle.store.specs.Lines.{refusal_line}
use Rattle.text.specs.Texts.{hex_text}

-- a value of a form
abbrev pub item_line : Item → List ℕ
item_line item = codes "ok " ++ item_text item

-- what an accepted call answered, with the work page
abbrev pub done_line : List ℕ → Done Item → List ℕ
done_line work (Opened o) = codes "ok counter " ++ (decimal o.counter ++ (codes " pages " ++ (decimal o.pages ++ (codes " cleared " ++ decimal o.cleared))))
done_line work (Begun slip number) = codes "ok slip " ++ (decimal slip ++ (codes " number " ++ decimal number))
done_line work Changed = codes "ok"
done_line work (Looked place) = codes "ok place " ++ (decimal place.at ++ (codes " length " ++ (decimal place.length ++ (codes " value " ++ hex_text (value_at work place)))))
done_line work (Key key) = codes "ok key " ++ decimal key
done_line work (Saved counter changes) = codes "ok counter " ++ (decimal counter ++ (codes " changes " ++ decimal changes))
done_line work Abandoned = codes "ok"
done_line work (Value item) = item_line item

-- what a call answered
abbrev pub answer_line : List ℕ → Result (Done Item) Denied → List ℕ
answer_line work (Ok done) = done_line work done
answer_line work (Err denied) = denied_line denied

-- what a call accepted under numbers answered, its value by itself
abbrev pub plain_done : Done (ByNumber Item) → Done Item
plain_done (Opened o) = Opened o
plain_done (Begun slip number) = Begun slip number
plain_done Changed = Changed
plain_done (Looked place) = Looked place
plain_done (Key key) = Key key
plain_done (Saved counter changes) = Saved counter changes
plain_done Abandoned = Abandoned
plain_done (Value item) = Value item.0

-- and so what a call answered
abbrev pub plain : Result (Done (ByNumber Item)) Denied → Result (Done Item) Denied
plain (Ok done) = Ok (plain_done done)
plain (Err denied) = Err denied

-- what laying a file answered
abbrev pub laid_line : Result (Unit {0}) Refusal → List ℕ
laid_line (Ok _) = codes "ok"
laid_line (Err e) = refusal_line e

-- a field outside its range, under a slip that is there or not
abbrev pub field_line : Bool → ℕ → List ℕ
field_line true bit = codes "refused 17 bit " ++ decimal bit
field_line false bit = codes "no slip"

-- whether a medium has stopped
abbrev pub stopped_word : Bool → List ℕ
stopped_word true = codes "yes"
stopped_word false = codes "no"

-- what a medium says of itself
abbrev pub asked_line : ℕ → Bool → List ℕ
asked_line pages stopped = codes "pages " ++ (decimal pages ++ (codes " stopped " ++ stopped_word stopped))

-- why a medium refused to read
abbrev pub fault_line : MediumFault → List ℕ
fault_line fault = codes "refused " ++ fault_text fault

-- bytes, or why they could not be read
abbrev pub bytes_line : List ℕ → Result (Unit {0}) MediumFault → List ℕ
bytes_line bytes (Ok _) = hex_text bytes
bytes_line bytes (Err fault) = fault_line fault

-- the medium that a use begins with
abbrev pub medium_line : ℕ → List ℕ
medium_line pages = codes "medium " ++ (decimal pages ++ codes " pages")
