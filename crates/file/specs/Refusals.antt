-- The numbers by which refusals are known, and their text.
use Rattle.std.specs.Prelude.{ℕ, List, ◌++◌, Some, None, Option, codes, decimal, unwrap_or}
use Rattle.file.specs.declared.refusal.FileRefusal.{FileRefusal}
use Rattle.file.specs.declared.refusal.FileRefusal.TheVariants.{TooFewPages, NotAShowFile, UnsoundPage}

-- the number of a refusal
abbrev pub refusal_number : FileRefusal → ℕ
refusal_number TooFewPages = 2
refusal_number NotAShowFile = 3
refusal_number (UnsoundPage q) = 4

-- the page that a refusal names
abbrev pub refusal_page : FileRefusal → Option ℕ
refusal_page TooFewPages = None
refusal_page NotAShowFile = None
refusal_page (UnsoundPage q) = Some q

-- a refusal as text: its number and its page, 0 where it names none
abbrev pub refusal_text : FileRefusal → List ℕ
refusal_text r = codes "refused " ++ decimal (refusal_number r) ++ codes " page " ++ decimal (unwrap_or (refusal_page r) 0)
