-- A page near its base with the header of a change written: a page of the edit, whose draft has the slots that were written.
use Rattle.std.proofs.Common.{◌≡◌, ℕ, ◌+◌, ◌^◌, ◌<◌, List, map, length, get_or, Some, sym, ap, ◌∙◌, subst, inl, inr, arith}
use Rattle.octets.proofs.Agreeing.{map_agrees}
use Rattle.layout.specs.declared.header.Slot.{Slot}
use Rattle.layout.specs.Pages.{entry_of, number_of}
use Rattle.layout.specs.Sound.{at, Fits}
use Rattle.layout.specs.Held.{Covers}
use Rattle.layout.proofs.HeldBytes.{entry_same, key_same}
use Rattle.layout.proofs.HeldSide.{fits_keys}
use Rattle.layout.proofs.Alike.{start_low}
use Rattle.draft.specs.Drafts.{begun_side, draft_records, slots_on, target}
use Rattle.draft.specs.Images.{with_header}
use Rattle.guard.specs.Guard.{Base, Near, other}
use Rattle.guard.specs.Changes.{Drafted}
use Rattle.guard.proofs.Headers.{header_beside, header_long, header_number, header_slots}
use Rattle.guard.proofs.Nearby.{base_low, near_other}
use Rattle.guard.proofs.Rewritten.{near_header}
use Rattle.guard.proofs.Sided.{begun_some}
use Rattle.guard.proofs.Stages.{draft_all}

module _ (counter pages q : ℕ) (base page : List ℕ) (ss : List Slot) (small : counter + 1 < 2 ^ 32) (b : Base counter pages q base)
    (near : Near counter base page) (f : Fits pages q page ss) where
  abbrev new : List ℕ
  new = with_header page (target counter base) (counter + 1) ss

  new_long : length new ≡ 1024
  new_long = header_long page (target counter base) (counter + 1) ss near.long f.few

  new_number : number_of new (target counter base) ≡ counter + 1
  new_number = header_number page (target counter base) (counter + 1) ss near.long f.few small

  new_near : Near counter base new
  new_near =
      near_header counter pages q base page new b near new_long
      (header_beside page (target counter base) (counter + 1) ss near.long f.few) (inr (inl new_number))

  pub written_begun : begun_side counter new ≡ Some (target counter base)
  written_begun =
      begun_some counter new (target counter base) new_number
      (λ e. omega (arith, near_other counter pages q base new b new_near, base_low counter pages q base b (other (target counter base))))

  written_slots : slots_on counter new (begun_side counter new) ≡ ss
  written_slots =
      ap (slots_on counter new) written_begun
      ∙ header_slots page (target counter base) (counter + 1) ss near.long f.few
      (λ k l. let i = (f.own k l).0 in (omega arith, omega arith))

  -- a header lies in no record
  record_same : (j : ℕ) → j < length ss → (k : ℕ) → Covers (at ss j) k → get_or new k 0 ≡ get_or page k 0
  record_same j l k c =
      header_beside page (target counter base) (counter + 1) ss near.long f.few k
      (λ i. omega (arith, start_low (target counter base), (f.own j l).0.0))

  new_fits : Fits pages q new ss
  new_fits = fits_keys pages q page new ss (λ j l. key_same page new (at ss j) (new_long ∙ sym near.long) (record_same j l)) f

  pub written_drafted : Drafted counter pages q base new
  written_drafted = record {
    base_fits = b;
    near = new_near;
    begun = inr written_begun;
    fits = subst (Fits pages q new) (sym written_slots) new_fits;
  }

  pub written_records : draft_records counter new ≡ map (entry_of page) ss
  written_records =
      ap (map (entry_of new)) (draft_all counter pages q new written_drafted.fits ∙ written_slots)
      ∙ map_agrees (entry_of new) (entry_of page) ss (record { offset = 0; length = 0 })
      (λ j l. entry_same page new (at ss j) (new_long ∙ sym near.long) (record_same j l))
