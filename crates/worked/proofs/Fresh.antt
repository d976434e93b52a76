-- Four changes of a fresh page, each saved: where their records lie.
use Rattle.std.proofs.Common.{◌≡◌, ℕ, ◌+◌, List, [], ◌∷◌, map, length, replicate, Some, refl, ap, inl, inr, arith}
use Rattle.std.specs.List.{AllByRecursion}
use Rattle.std.proofs.ByRecursion.{All-get_or}
use Rattle.std.proofs.lemmas.Bool.{cases_lt}
use Rattle.layout.specs.declared.header.Side.{Side}
use Rattle.layout.specs.declared.header.Side.TheVariants.{A, B}
use Rattle.layout.specs.declared.header.Slot.{Slot}
use Rattle.layout.specs.Pages.{entry_of, header_of, number_of, saved_slots, side_of, slots_by}
use Rattle.layout.specs.Sound.{Fits}
use Rattle.layout.specs.Held.{Covers}
use Rattle.layout.specs.Walks.{keyed}
use Rattle.std.specs.Option.{option_map}
use Rattle.draft.specs.Places.{Free, Highest}
use Rattle.worked.specs.Table.{Lie, put, replace}
use Rattle.worked.proofs.Landing.{Stands, entry, put_stands, change_stands}

-- a page of zeros
blank : List ℕ
blank = replicate 1024 0

blank_number : (s : Side) → number_of blank s ≡ 0
unfolding number_of blank
blank_number A = refl
blank_number B = refl

blank_slots : saved_slots 0 blank ≡ []
blank_slots = λ i. slots_by blank (option_map (header_of blank) (side_of 0 (blank_number A i) (blank_number B i)))

no_slots : (ss : List Slot) → ss ≡ [] → Fits 2 1 blank ss
no_slots ss e =
    let none : length ss ≡ 0 = ap length e in
    record { few = omega arith; own = λ k l. absurd (omega arith); ordered = λ j k l m. absurd (omega arith) }

fresh : Stands 0 blank []
unfolding blank
fresh = record {
  base = record {
    long = refl;
    sound = record {
      numbered = record {
        low_a = omega (arith, blank_number A);
        low_b = omega (arith, blank_number B);
        differ = λ _. blank_number A;
      };
      fits = no_slots (saved_slots 0 blank) blank_slots;
    };
    low_a = omega (arith, blank_number A);
    low_b = omega (arith, blank_number B);
  };
  holds = ap (map (entry_of blank)) blank_slots;
}

free_all : (ss : List Slot) (k : ℕ) → AllByRecursion (λ s. Covers s k → ⊥) ss → Free ss k
free_all ss k a j l c = All-get_or (λ s. Covers s k → ⊥) ss j (record { offset = 0; length = 0 }) l a c

abbrev slot : ℕ → ℕ → Slot
slot p n = record { offset = p; length = n }

-- no slot is in use: the record ends where the page does
first_place : Highest [] 6 (Some 1018)
first_place = ((omega arith, omega arith, λ k l m. free_all [] k tt), λ q l room. omega (arith, room.1))

second_place : Highest (slot 1018 6 ∷ slot 1018 6 ∷ []) 4 (Some 1014)
second_place = (
  (omega arith, omega arith, λ k l m. free_all (slot 1018 6 ∷ slot 1018 6 ∷ []) k ((λ c. omega (arith, c.0)), ((λ c. omega (arith, c.0)), tt))),
  λ q l room. room.2 (q + 3) (omega arith) (omega arith) 0 (omega arith) (omega arith, omega (arith, room.1)),
)

-- the saved record of the key is not free yet
third_place : Highest (slot 1014 4 ∷ slot 1018 6 ∷ slot 1014 4 ∷ []) 7 (Some 1007)
third_place = (
  (
    omega arith,
    omega arith,
    λ k l m. free_all (slot 1014 4 ∷ slot 1018 6 ∷ slot 1014 4 ∷ []) k
        ((λ c. omega (arith, c.0)), ((λ c. omega (arith, c.0)), ((λ c. omega (arith, c.0)), tt))),
  ),
  λ q l room. elim (cases_lt (q + 6) 1018) [
    | inl m ↦ room.2 (q + 6) (omega arith) (omega arith) 0 (omega arith) (omega arith, omega arith)
    | inr m ↦ room.2 (q + 6) (omega arith) (omega arith) 1 (omega arith) (omega arith, omega (arith, room.1))
  ],
)

-- now it is
fourth_place : Highest (slot 1014 4 ∷ slot 1007 7 ∷ slot 1014 4 ∷ slot 1007 7 ∷ []) 6 (Some 1018)
fourth_place = (
  (
    omega arith,
    omega arith,
    λ k l m. free_all (slot 1014 4 ∷ slot 1007 7 ∷ slot 1014 4 ∷ slot 1007 7 ∷ []) k
        ((λ c. omega (arith, c.1)), ((λ c. omega (arith, c.1)), ((λ c. omega (arith, c.1)), ((λ c. omega (arith, c.1)), tt)))),
  ),
  λ q l room. omega (arith, room.1),
)

abbrev one : List ℕ
one = 0x41 ∷ 0x42 ∷ []

abbrev three : List ℕ
three = 0x43 ∷ 0x44 ∷ 0x45 ∷ []

abbrev four : List ℕ
four = 0x46 ∷ 0x47 ∷ []

pub four_places : Lie 2 0 (replicate 1024 0) (put 7 one 1018 ∷ put 3 [] 1014 ∷ replace 7 three 1007 ∷ put 9 four 1018 ∷ [])
unfolding blank
four_places new₁ r₁ h₁ =
    let a = put_stands 0 blank [] fresh (omega arith) 7 one 1018 new₁ (omega arith) (omega arith) refl refl (omega arith) first_place r₁ h₁ in (
      record { here = refl; accepted = a.0; lies = ap (keyed 7) a.1.holds },
      λ new₂ r₂ h₂.
          let b = put_stands 1 new₁ (entry 7 one 1018 ∷ []) a.1 (omega arith) 3 [] 1014 new₂ (omega arith) (omega arith) refl refl (omega arith)
          second_place r₂ h₂ in (
            record { here = refl; accepted = b.0; lies = ap (keyed 3) b.1.holds },
            λ new₃ r₃ h₃.
                let c = change_stands 2 new₂ (entry 3 [] 1014 ∷ entry 7 one 1018 ∷ []) b.1 (omega arith) 7 three 1007 new₃ (omega arith) (omega arith) refl
                (λ n. let z : ◌≡◌ {A = ℕ} 0 1 = cc in absurd (omega arith)) third_place r₃ h₃ in (
                  record { here = refl; accepted = c.0; lies = ap (keyed 7) c.1.holds },
                  λ new₄ r₄ h₄.
                      let d = put_stands 3 new₃ (entry 3 [] 1014 ∷ entry 7 three 1007 ∷ []) c.1 (omega arith) 9 four 1018 new₄ (omega arith) (omega arith) refl refl
                      (omega arith) fourth_place r₄ h₄ in
                      (record { here = refl; accepted = d.0; lies = ap (keyed 9) d.1.holds }, tt),
                ),
          ),
    )
