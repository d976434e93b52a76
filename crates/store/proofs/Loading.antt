-- Reads of whole pages and of numbers.
use Rattle.std.proofs.Common.{◌≡◌, ℕ, ◌<◌, Bool, true, false, ◌&&◌, ltb, List, length, Ok, Err, Result, sym, refl, ap, ◌∙◌, subst, add-zero, arith}
use Rattle.std.proofs.lemmas.List.{take_all}
use Rattle.std.proofs.lemmas.Bool.{ltb-true, ltb-false, and_parts}
use Rattle.octets.specs.Numbers.{big}
use Rattle.octets.specs.Parts.{part}
use Rattle.octets.proofs.Agreeing.{part_part}
use Rattle.medium.specs.declared.fault.MediumFault.{MediumFault}
use Rattle.medium.specs.declared.fault.MediumFault.TheVariants.{BadRun, Stopped}
use Rattle.medium.specs.Meaning as meanings
use Rattle.medium.specs.Meaning.{Meaning, Sized, good}
use Rattle.layout.specs.declared.header.Side.{Side}
use Rattle.layout.specs.Pages.{number_of, start}
use Rattle.store.specs.declared.refusal.Refusal.{Refusal}
use Rattle.store.specs.declared.refusal.Refusal.TheVariants.{Medium}
use Rattle.store.specs.declared.refusal.Step.{Step}
use Rattle.store.specs.declared.refusal.Step.TheVariants.{Read}
use Rattle.store.specs.Access.{Grants, Loads}
use Rattle.store.specs.Refusals.{during}

and_true : (b : Bool) → (b && true) ≡ b
and_true true = refl
and_true false = refl

-- a whole page is a good run exactly if the page is there
pub whole_good : (pages q n : ℕ) → n ≡ 1024 → good pages q 0 n ≡ ltb q pages
whole_good pages q n e = ap (good pages q 0) e ∙ and_true (ltb q pages)

whole_loads : (m : Meaning) (q : ℕ) (old new : List ℕ) (r : Result (Unit {0}) MediumFault) → Sized m → length old ≡ 1024
    → meanings.Read m q 0 old new r → Loads m q old new (during Read q r)
whole_loads m q old new (Ok x) s e h =
    let there : q < m.pages = ltb-true q m.pages (sym (whole_good m.pages q (length old) e) ∙ h.0) in
    ((there, h.1), h.2 ∙ take_all (length old) (m.shown q) (omega (arith, s.full q there)))
whole_loads m q old new (Err BadRun) s e h =
    ((BadRun, refl, ltb-false q m.pages (sym (whole_good m.pages q (length old) e) ∙ h.0)), h.1)
whole_loads m q old new (Err Stopped) s e h =
    ((Stopped, refl, (ltb-true q m.pages (sym (whole_good m.pages q (length old) e) ∙ h.0), h.1)), h.2)

pub loads_is : (m : Meaning) (q : ℕ) (old new : List ℕ) (r : Result (Unit {0}) MediumFault) (t : Result (Unit {0}) Refusal) → Sized m → length old ≡ 1024
    → meanings.Read m q 0 old new r → t ≡ during Read q r → Loads m q old new t
loads_is m q old new r t s e h is = subst (Loads m q old new) (sym is) (whole_loads m q old new r s e h)

-- the number in the four bytes that a header begins with
pub number_is : (page bytes : List ℕ) (s : Side) (n : ℕ) → bytes ≡ part page (start s) 4 → n ≡ big (part bytes 0 4) → n ≡ number_of page s
unfolding number_of
number_is page bytes s n e is =
    is ∙ ap (λ x. big (part x 0 4)) e ∙ ap big (part_part page (start s) 4 0 4 (omega arith) ∙ ap (λ i. part page i 4) (add-zero (start s)))

-- an answer that was passed on as accepted was accepted
pub answered : {T : Type 0} (step : Step) (q : ℕ) (r : Result T MediumFault) (t : Result T Refusal) (x : T) → t ≡ during step q r → t ≡ Ok x → r ≡ Ok x
answered step q (Ok y) t x e is = let p : Ok y ≡ Ok x = sym e ∙ is in cc
answered step q (Err f) t x e is = let z : ◌≡◌ {A = ℕ} 0 1 = cc in absurd (omega arith)

good_there : (pages q s n : ℕ) → good pages q s n ≡ true → q < pages
good_there pages q s n g = ltb-true q pages (and_parts (ltb q pages) _ g).0

pub read_number_is : (m : Meaning) (q : ℕ) (s : Side) (old new : List ℕ) (r : Result (Unit {0}) MediumFault) (t : Result (Unit {0}) Refusal) (x : Unit {0}) (n : ℕ)
    → meanings.Read m q (start s) old new r → t ≡ during Read q r → t ≡ Ok x → length old ≡ 4 → n ≡ big (part new 0 4)
    → Grants m q × (n ≡ number_of (m.shown q) s)
read_number_is m q s old new r t x n h e is l v =
    let k = subst (meanings.Read m q (start s) old new) (answered Read q r t x e is) h in
    ((good_there m.pages q (start s) (length old) k.0, k.1), number_is (m.shown q) new s n (k.2 ∙ ap (part (m.shown q) (start s)) l) v)

-- an answer that was passed on as refused was refused, and so is the refusal made
pub refused : {T : Type 0} (step : Step) (q : ℕ) (r : Result T MediumFault) (t : Result T Refusal) (e : Refusal) → t ≡ during step q r → t ≡ Err e
    → (f : MediumFault) × (r ≡ Err f) × (e ≡ Medium step q f)
refused step q (Ok y) t e d is = let z : ◌≡◌ {A = ℕ} 0 1 = cc in absurd (omega arith)
refused {T} step q (Err f) t e d is = (f, refl, (let p : ◌≡◌ {A = Result T Refusal} (Err (Medium step q f)) (Err e) = sym d ∙ is in cc))
