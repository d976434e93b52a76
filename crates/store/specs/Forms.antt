-- Calls under a record form.
use Rattle.std.specs.Prelude.{◌≡◌, ℕ, List, length, Some, Ok, Err, Result, nat_lt}
use Rattle.medium.specs.Meaning.{Meaning}
use Rattle.form.specs.declared.form.BadByte.{BadByte}
use Rattle.layout.specs.declared.first.FirstPage.{FirstPage}
use Rattle.layout.specs.Pages.{page_of}
use Rattle.store.specs.declared.formrefusal.FormRefusal.{FormRefusal}
use Rattle.store.specs.declared.formrefusal.FormRefusal.TheVariants.{Store, NotOfForm}
use Rattle.store.specs.declared.refusal.Refusal.{Refusal}
use Rattle.store.specs.declared.state.Edit.{Edit}
use Rattle.store.specs.declared.state.Place.{Place}
use Rattle.store.specs.declared.state.State.{State}
use Rattle.store.specs.Edits.{Edits, PageChange}
use Rattle.store.specs.Looks.{Looks, opened, value_at}
use Rattle.store.specs.Refusals.{refusal_number}

-- the number by which a refusal under a form is known
abbrev pub form_refusal_number : FormRefusal → ℕ
form_refusal_number (Store key refusal) = refusal_number refusal
form_refusal_number (NotOfForm key page byte) = 16

-- a store's answer under a form: its refusal is passed up whole, with the key
abbrev pub under_key : {T : Type 0} → ℕ → Result T Refusal → Result T FormRefusal
under_key key (Ok x) = Ok x
under_key key (Err e) = Err (Store key e)

-- a change under a slip whose value is these bytes, under a form: what the store answers, its refusal with the key
abbrev pub EditsForm : {M : Type 0} → (M → Meaning) → (List ℕ → PageChange) → List ℕ → ℕ → ℕ → M → M → State → Edit → Edit → List ℕ → List ℕ → Result (Unit {0}) FormRefusal → Type 0
EditsForm meaning change bytes key number a b s e f work new r =
    (x : Result (Unit {0}) Refusal) × (r ≡ under_key key x) × Edits meaning (change bytes) key number (nat_lt 200 (length bytes)) a b s e f work new x

-- what a form read: its bad byte is passed up with the key and the page
abbrev pub of_form : {T : Type 0} → ℕ → ℕ → Result T BadByte → Result T FormRefusal
of_form key page (Ok x) = Ok x
of_form key page (Err bad) = Err (NotOfForm key page bad.at)

-- looking under a form, by which `reads` tells the value of bytes: the value of the saved record's bytes; or the store's
-- refusal with the key; or the first bad byte, with the key and its page
abbrev pub LooksForm : {V : Type 0} → (List ℕ → Result V BadByte) → Meaning → State → ℕ → List ℕ → List ℕ → Result V FormRefusal → Type 0
LooksForm reads m s key work new (Ok v) = (p : Place) × Looks m s key work new (Ok p) × (reads (value_at new p) ≡ Ok v)
LooksForm reads m s key work new (Err (Store k e)) = (k ≡ key) × Looks m s key work new (Err e)
LooksForm reads m s key work new (Err (NotOfForm k page byte)) =
    (k ≡ key) × ((first : FirstPage) × (opened s ≡ Some first) × (page ≡ page_of first.pages key))
    × ((p : Place) × Looks m s key work new (Ok p) × ((bad : BadByte) × (bad.at ≡ byte) × (reads (value_at new p) ≡ Err bad)))
