-- What the steps of a use do, and the text that they add.
use Rattle.std.specs.Prelude.{◌≡◌, ℕ, List, [], ◌∷◌, ◌++◌, replicate, is_some, codes, decimal, Some, None, Ok, Option, Result}
use Rattle.medium.specs.declared.fault.MediumFault.{MediumFault}
use Rattle.medium.specs.Meaning.{Meaning, Read}
use Rattle.form.specs.declared.item.Item.{Item}
use Rattle.form.specs.declared.item.ItemKind.{ItemKind}
use Rattle.form.specs.Items.{item_bytes, item_reads_as, kind_numbered}
use Rattle.form.specs.Numbers.{by_number_bytes, by_number_reads}
use Rattle.form.specs.declared.by_number.ByNumber.{ByNumber}
use Rattle.store.specs.declared.refusal.Refusal.{Refusal}
use Rattle.store.specs.declared.store.Store.{Store}
use Rattle.store.specs.Lays.{Lays}
use Rattle.book.specs.declared.call.Call.{Call}
use Rattle.book.specs.declared.call.Call.TheVariants.{LookForm}
use Rattle.book.specs.declared.slips.Slips.{Slips}
use Rattle.book.specs.Uses.{Answer, Makes, Moment, moment, slip_at}
use Rattle.script.specs.declared.script.Step.{Step}
use Rattle.script.specs.declared.script.Step.TheVariants.{Work, Lay, Call as ACall, LookNumbered, BadField, Ask, DumpWork, DumpPage}
use Rattle.stage.specs.Lines.{answer_line, asked_line, bytes_line, field_line, laid_line, medium_line, plain}

-- a text with a line more
abbrev pub with_line : List ℕ → List ℕ → List ℕ
with_line text line = (text ++ line) ++ (10 ∷ [])

-- a text with the line that tells of a bad line, if there is one
abbrev pub with_bad : List ℕ → Option ℕ → List ℕ
with_bad text None = text
with_bad text (Some n) = with_line text (codes "bad line " ++ decimal n)

-- a call is made as the store promises, and its answer told
abbrev pub CallMade : {M : Type 0} → (M → Meaning) → Call Item ItemKind → Moment M → Moment M → List ℕ → List ℕ → Type 0
CallMade meaning call a b s t = (r : Answer Item) × Makes meaning item_bytes item_reads_as call r a b × (t ≡ with_line s (answer_line b.work r))

-- a call under numbers of kinds is made, likewise
abbrev pub NumberedMade : {M : Type 0} → (M → Meaning) → Call (ByNumber Item) ℕ → Moment M → Moment M → List ℕ → List ℕ → Type 0
NumberedMade meaning call a b s t =
    (r : Answer (ByNumber Item))
    × Makes meaning (by_number_bytes item_bytes) (by_number_reads kind_numbered item_reads_as) call r a b
    × (t ≡ with_line s (answer_line b.work (plain r)))

-- a file is laid, and what came of it told
abbrev pub LayMade : {M : Type 0} → (M → Meaning) → ℕ → Moment M → Moment M → List ℕ → List ℕ → Type 0
LayMade meaning pages a b s t =
    (r : Result (Unit {0}) Refusal)
    × Lays meaning pages a.store.medium b.store.medium a.store.state b.store.state a.work b.work r
    × (b.slips ≡ a.slips) × (t ≡ with_line s (laid_line r))

-- a page as it is read, or why it is not
abbrev pub PageTold : Meaning → ℕ → List ℕ → List ℕ → Type 0
PageTold m page s t =
    (r : Result (Unit {0}) MediumFault) × ((bytes : List ℕ) × Read m page 0 (replicate 1024 0) bytes r × (t ≡ with_line s (bytes_line bytes r)))

-- a step from one moment to the next, with the text before and after it
abbrev pub StepMade : {M : Type 0} → (M → Meaning) → Step → Moment M → Moment M → List ℕ → List ℕ → Type 0
StepMade meaning (Work n) a b s t = (b.store ≡ a.store) × (b.slips ≡ a.slips) × (b.work ≡ replicate n 0) × (t ≡ s)
StepMade meaning (Lay pages) a b s t = LayMade meaning pages a b s t
StepMade meaning (ACall call) a b s t = CallMade meaning call a b s t
StepMade meaning (LookNumbered key number) a b s t = NumberedMade meaning (LookForm key number) a b s t
StepMade meaning (BadField slip bit) a b s t = (b ≡ a) × (t ≡ with_line s (field_line (is_some (slip_at a slip)) bit))
StepMade meaning Ask a b s t = (b ≡ a) × (t ≡ with_line s (asked_line (meaning a.store.medium).pages (meaning a.store.medium).stopped))
StepMade meaning DumpWork a b s t = (b ≡ a) × (t ≡ with_line s (bytes_line a.work (Ok tt)))
StepMade meaning (DumpPage page) a b s t = (b ≡ a) × PageTold (meaning a.store.medium) page s t

-- steps one after the other
abbrev pub StepsMade : {M : Type 0} → (M → Meaning) → List Step → Moment M → Moment M → List ℕ → List ℕ → Type 0
StepsMade meaning [] a b s t = (b ≡ a) × (t ≡ s)
StepsMade {M} meaning (x ∷ xs) a b s t = (c : Moment M) × (u : List ℕ) × StepMade meaning x a c s u × StepsMade meaning xs c b u t

-- all steps of a use, behind the line that tells the medium, with a work page that is new
abbrev pub UseMade : {M : Type 0} → (M → Meaning) → List Step → Store M → Store M → Slips → Slips → List ℕ → List ℕ → Type 0
UseMade meaning steps a b x y s t =
    (work : List ℕ) × StepsMade meaning steps (moment a x (replicate 1024 0)) (moment b y work) (with_line s (medium_line (meaning a.medium).pages)) t
