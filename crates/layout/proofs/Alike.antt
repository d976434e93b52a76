-- Pages whose valid header is on one side, and that agree in what one of them holds, are read alike; and where held bytes lie.
use Rattle.std.proofs.Common.{◌≡◌, ℕ, ◌+◌, ◌<◌, ◌≤◌, ◌⊎◌, List, [], ◌∷◌, map, length, get_or, Some, None, Option, sym, refl, ap, ◌∙◌, subst, inl, inr, arith}
use Rattle.std.specs.Option.{option_map}
use Rattle.layout.specs.declared.header.Side.{Side}
use Rattle.layout.specs.declared.header.Side.TheVariants.{A, B}
use Rattle.layout.specs.declared.header.Slot.{Slot}
use Rattle.layout.specs.Pages.{entry_of, header_of, records, saved_slots, slots_by, start, valid_side}
use Rattle.layout.specs.Sound.{at, Numbered, Sound}
use Rattle.layout.specs.Held.{Covers, Held, InHeader}
use Rattle.layout.proofs.Fitting.{at_slots, length_slots}
use Rattle.layout.proofs.RestsOnHeld.{held_fits, held_on, held_records}
use Rattle.layout.proofs.Sides.{both_from_side}

module _ (counter pages q : ℕ) (a b : List ℕ) (long : length b ≡ length a) (side : valid_side counter b ≡ valid_side counter a)
    (same : (k : ℕ) → Held counter a k → get_or b k 0 ≡ get_or a k 0) (sound : Sound counter pages q a) where
  pub alike_sound : Numbered counter b → Sound counter pages q b
  alike_sound n = record { numbered = n; fits = held_fits counter a b long same pages q (both_from_side counter a b side) sound.fits }

  pub alike_records : records counter b ≡ records counter a
  alike_records = held_records counter a b long same (both_from_side counter a b side) sound.fits.few

-- a held byte lies in the valid header or in a saved record
held_at : (counter : ℕ) (page : List ℕ) (o : Option Side) → valid_side counter page ≡ o → (k : ℕ) → Held counter page k
    → ((s : Side) × (valid_side counter page ≡ Some s) × InHeader s k)
    ⊎ ((j : ℕ) × (j < length (saved_slots counter page)) × Covers (at (saved_slots counter page) j) k)
held_at counter page None e k h = absurd (rw e at h)
held_at counter page (Some s) e k h =
    let v = ap (option_map (header_of page)) e in
    elim (held_on counter page s v k h) [
      | inl i ↦ inl (s, e, i)
      | inr (j, l, c) ↦
          let is : saved_slots counter page ≡ slots_by page (Some (header_of page s)) = ap (slots_by page) v in
          inr (subst (λ ss. (j : ℕ) × (j < length ss) × Covers (at ss j) k) (sym is)
          (j, omega (arith, length_slots page (header_of page s)), subst (λ t. Covers t k) (sym (at_slots page (header_of page s) j l)) c))
    ]

pub held_place : (counter : ℕ) (page : List ℕ) (k : ℕ) → Held counter page k
    → ((s : Side) × (valid_side counter page ≡ Some s) × InHeader s k)
    ⊎ ((j : ℕ) × (j < length (saved_slots counter page)) × Covers (at (saved_slots counter page) j) k)
held_place counter page k h = held_at counter page (valid_side counter page) refl k h

-- the headers share no byte, and lie before the content
pub header_one : (s t : Side) (k : ℕ) → InHeader s k → InHeader t k → t ≡ s
header_one A A k h i = refl
header_one A B k h i = absurd (omega arith)
header_one B A k h i = absurd (omega arith)
header_one B B k h i = refl

pub start_low : (s : Side) → start s + 104 ≤ 208
start_low A = omega arith
start_low B = omega arith

-- a sound page holds no byte of a header that is not valid
pub held_beside : (counter pages q : ℕ) (page : List ℕ) → Sound counter pages q page → (s : Side) → (valid_side counter page ≡ Some s → ⊥)
    → (k : ℕ) → Held counter page k → InHeader s k → ⊥
held_beside counter pages q page sound s none k h i = elim (held_place counter page k h) [
  | inl (t, v, j) ↦ none (v ∙ ap Some (header_one s t k i j))
  | inr (j, l, c) ↦ omega (arith, start_low s, (sound.fits.own j l).0.0)
]

-- records know their slots
pub slots_records : (page : List ℕ) (ss : List Slot) → map (λ e. e.slot) (map (entry_of page) ss) ≡ ss
slots_records page [] = refl
slots_records page (s ∷ ss) = ap (λ ts. s ∷ ts) (slots_records page ss)
