-- Refusals by number.
use Rattle.std.specs.Prelude.{ℕ, Ok, Err, Result}
use Rattle.medium.specs.declared.fault.MediumFault.{MediumFault}
use Rattle.store.specs.declared.refusal.Step.{Step}
use Rattle.store.specs.declared.refusal.Refusal.{Refusal}
use Rattle.store.specs.declared.refusal.Refusal.TheVariants.{WorkPage, PageCount, NotAShowFile, Unsound, Medium, NotOpen, EditOpen, NoEdit, LastCounter, TooLong, TooMany, KeyInDraft, NoSuchKey, DraftFull, NoPlace}

-- the number by which a refusal is known
abbrev pub refusal_number : Refusal → ℕ
refusal_number WorkPage = 1
refusal_number PageCount = 2
refusal_number NotAShowFile = 3
refusal_number (Unsound page) = 4
refusal_number (Medium step page fault) = 5
refusal_number NotOpen = 6
refusal_number EditOpen = 7
refusal_number NoEdit = 8
refusal_number LastCounter = 9
refusal_number TooLong = 10
refusal_number TooMany = 11
refusal_number KeyInDraft = 12
refusal_number NoSuchKey = 13
refusal_number DraftFull = 14
refusal_number NoPlace = 15

-- what a medium answered, its fault with what was being done and on which page
abbrev pub during : {T : Type 0} → Step → ℕ → Result T MediumFault → Result T Refusal
during step page (Ok x) = Ok x
during step page (Err fault) = Err (Medium step page fault)
