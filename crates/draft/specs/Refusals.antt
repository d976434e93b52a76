-- The numbers of refusals.
use Rattle.std.specs.Prelude.{ℕ}
use Rattle.draft.specs.declared.refusal.PageRefusal.{PageRefusal}
use Rattle.draft.specs.declared.refusal.PageRefusal.TheVariants.{KeyInDraft, NoSuchKey, DraftFull, NoPlace}

-- the number of a refusal
abbrev pub page_refusal_number : PageRefusal → ℕ
page_refusal_number KeyInDraft = 12
page_refusal_number NoSuchKey = 13
page_refusal_number DraftFull = 14
page_refusal_number NoPlace = 15
