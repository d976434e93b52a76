-- Beginning an edit of a page, taking it back and saving it.
use Rattle.std.proofs.Common.{◌≡◌, ℕ, ◌+◌, ◌≤◌, cond, ltb, List, map, Some, None, sym, ap, ◌∙◌, subst, inl, inr, arith}
use Rattle.std.specs.Option.{option_map}
use Rattle.std.proofs.lemmas.List.{take_all}
use Rattle.layout.specs.declared.header.Side.{Side}
use Rattle.layout.specs.declared.header.Side.TheVariants.{A, B}
use Rattle.layout.specs.Pages.{entry_of, header_of, number_of, rank, records, saved_slots, slots_by, valid_side}
use Rattle.layout.specs.Sound.{Fits, Numbered}
use Rattle.draft.specs.Drafts.{begun_side, draft_records, draft_slots, slots_on, target}
use Rattle.guard.specs.Guard.{Base, Near, other}
use Rattle.guard.specs.Clears.{cleared, cleared_on}
use Rattle.guard.specs.Changes.{Begins, Drafted, Saves, TakesBack, TakesDraftBack}
use Rattle.guard.proofs.Sided.{begun_none, begun_not, begun_number, each_side, numbered_low, rank_low, side_first}
use Rattle.guard.proofs.Nearby.{base_low, near_itself, near_numbered, near_other, near_records, near_sound}
use Rattle.guard.proofs.Rewritten.{near_header}
use Rattle.guard.proofs.Cleared.{cleared_beside, cleared_number, length_cleared}
use Rattle.guard.proofs.Words.{outside}

-- slots that fit are all in the draft
pub draft_all : (counter pages q : ℕ) (page : List ℕ) → Fits pages q page (slots_on counter page (begun_side counter page))
    → draft_slots counter page ≡ slots_on counter page (begun_side counter page)
draft_all counter pages q page f = take_all 24 (slots_on counter page (begun_side counter page)) f.few

-- and fit the page of an edit
pub draft_fits : (counter pages q : ℕ) (base page : List ℕ) → Drafted counter pages q base page → Fits pages q page (draft_slots counter page)
draft_fits counter pages q base page d = subst (Fits pages q page) (sym (draft_all counter pages q page d.fits)) d.fits

-- a page near its base, with no header begun, is one of the edit
pub drafted_none : (counter pages q : ℕ) (base page : List ℕ) → Base counter pages q base → Near counter base page → begun_side counter page ≡ None
    → Drafted counter pages q base page
drafted_none counter pages q base page b near none = record {
  base_fits = b;
  near = near;
  begun = inl none;
  fits = subst (λ o. Fits pages q page (slots_on counter page o)) (sym none) (near_sound counter pages q base page b near).fits;
}

pub begins : Begins
begins counter pages q base b =
    let none = begun_none counter base (λ s e. omega (arith, base_low counter pages q base b s)) in
    let d = drafted_none counter pages q base base b (near_itself counter pages q base b) none in
    (d, ap (map (entry_of base)) (draft_all counter pages q base d.fits ∙ ap (slots_on counter base) none))

-- a page of an edit with its draft taken back
abbrev Back : ℕ → ℕ → ℕ → List ℕ → List ℕ → Type 0
Back counter pages q base page =
    Drafted counter pages q base page × (begun_side counter page ≡ None) × (draft_records counter page ≡ records counter base)

-- with no header begun, the draft is what was saved
draft_saved : (counter pages q : ℕ) (base page : List ℕ) → Drafted counter pages q base page → begun_side counter page ≡ None
    → Back counter pages q base page
draft_saved counter pages q base page d none = (
  d,
  none,
  ap (map (entry_of page)) (draft_all counter pages q page d.fits ∙ ap (slots_on counter page) none)
      ∙ near_records counter pages q base page d.base_fits d.near,
)

taken_back : (counter pages q : ℕ) (base page : List ℕ) → Drafted counter pages q base page → Back counter pages q base (cleared counter page)
taken_back counter pages q base page d = elim d.begun [
  | inl none ↦ subst (Back counter pages q base) (sym (ap (cleared_on page) none)) (draft_saved counter pages q base page d none)
  | inr some ↦
      let t : Side = target counter base in
      let c : List ℕ = cleared_on page (Some t) in
      let long = d.near.long in
      let zero = cleared_number page long t in
      let near : Near counter base c =
      near_header counter pages q base page c d.base_fits d.near (length_cleared page long t)
      (λ k never. cleared_beside page long t k (outside t k never)) (inr (inr zero)) in
      let none : begun_side counter c ≡ None =
      begun_none counter c (each_side (λ s. number_of c s ≡ counter + 1 → ⊥) t (λ e. omega arith)
      (λ e. omega (arith, near_other counter pages q base c d.base_fits near, base_low counter pages q base d.base_fits (other t)))) in
      subst (Back counter pages q base) (sym (ap (cleared_on page) some))
      (draft_saved counter pages q base c (drafted_none counter pages q base c d.base_fits near none) none)
]

pub takes_back : TakesBack
takes_back counter pages q base page d = let b = taken_back counter pages q base page d in (b.0, b.1)

pub takes_draft_back : TakesDraftBack
takes_draft_back counter pages q base page d = (taken_back counter pages q base page d).2

-- the edit numbers under a counter that is one more
numbered_later : (counter : ℕ) (page : List ℕ) → Numbered counter page → Numbered (counter + 1) page
numbered_later counter page n = record { low_a = omega (arith, n.low_a); low_b = omega (arith, n.low_b); differ = n.differ }

-- the valid header is the same under a counter that is one more, if no number is that
later_none : (counter : ℕ) (page : List ℕ) → ((s : Side) → number_of page s ≤ counter) → valid_side (counter + 1) page ≡ valid_side counter page
later_none counter page low =
    let r : (s : Side) → rank (counter + 1) (number_of page s) ≡ rank counter (number_of page s) =
    λ s. let l = low s in rank_low (counter + 1) (number_of page s) (omega arith) ∙ sym (rank_low counter (number_of page s) l) in
    λ i. cond (ltb (r B i) (r A i)) (Some A) (cond (ltb (r A i) (r B i)) (Some B) None)

-- then the slots that count are those of the draft
later_slots : (counter pages q : ℕ) (base page : List ℕ) → Drafted counter pages q base page
    → saved_slots (counter + 1) page ≡ slots_on counter page (begun_side counter page)
later_slots counter pages q base page d =
    let t : Side = target counter base in
    let rest = near_other counter pages q base page d.base_fits d.near in
    let low = base_low counter pages q base d.base_fits (other t) in
    let numbered = near_numbered counter pages q base page d.base_fits d.near in
    elim d.begun [
      | inl none ↦
          ap (λ o. slots_by page (option_map (header_of page) o)) (later_none counter page
          (λ s. omega (arith, numbered_low counter page numbered s, begun_not counter page none s)))
          ∙ sym (ap (slots_on counter page) none)
      | inr some ↦
          let number = begun_number counter page t some in
          let first : valid_side (counter + 1) page ≡ Some t =
          side_first (counter + 1) (number_of page) t
          (omega (arith, rank_low (counter + 1) (number_of page t) (omega arith), rank_low (counter + 1) (number_of page (other t)) (omega arith))) in
          ap (λ o. slots_by page (option_map (header_of page) o)) first ∙ sym (ap (slots_on counter page) some)
    ]

pub saves : Saves
saves counter pages q base page d =
    let numbered = near_numbered counter pages q base page d.base_fits d.near in
    let same = later_slots counter pages q base page d in (
      record {
        long = d.near.long;
        sound = record { numbered = numbered_later counter page numbered; fits = subst (Fits pages q page) (sym same) d.fits };
        low_a = numbered.low_a;
        low_b = numbered.low_b;
      },
      ap (map (entry_of page)) (same ∙ sym (draft_all counter pages q page d.fits)),
    )
