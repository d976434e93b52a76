-- A put, a change and a remove: what each does to the draft.
use Rattle.std.proofs.Common.{◌≡◌, ℕ, ◌+◌, ◌^◌, ◌<◌, ◌≤◌, List, map, length, Some, None, Ok, sym, refl, ap, ◌∙◌, subst, arith}
use Rattle.std.specs.Option.{option_map}
use Rattle.layout.specs.declared.header.Slot.{Slot}
use Rattle.layout.specs.Pages.{entry_of, page_of}
use Rattle.draft.specs.Drafts.{draft_records, draft_slots, taken_out, target}
use Rattle.draft.specs.Images.{ChangedPage, PutPage, slot_at, with_header}
use Rattle.guard.specs.Changes.{Changes, Drafted, Puts, Removes, Replaces, value_in}
use Rattle.guard.proofs.Fitted.{fits_taken_out, rising_all}
use Rattle.guard.proofs.Nearby.{near_target}
use Rattle.guard.proofs.Rising.{absent_keyed, absent_taken_out, entries_in, entries_out, keyed_absent, keyed_taken_out, less_taken_out, map_taken_out}
use Rattle.guard.proofs.Written.{written_begun, written_drafted, written_records}
use Rattle.guard.proofs.Placed.{by_key, placed_changes, placed_records}
use Rattle.guard.proofs.Stages.{draft_fits}

pub puts : Puts
puts counter pages q base page new key value small key-small short of-page d r =
    let ss : List Slot = draft_slots counter page in
    subst (λ n. Changes counter pages q base page n key (Some value)) (sym r.2.2)
    (placed_changes counter pages q base page key value ss r.2.0 small key-small short of-page d.base_fits d.near
    (draft_fits counter pages q base page d) r.1 (absent_keyed page key ss r.0) r.2.1.0 (λ k ne. refl))

pub replaces : Replaces
replaces counter pages q base page new key value small key-small short of-page d r =
    let ss : List Slot = draft_slots counter page in
    let f = draft_fits counter pages q base page d in
    subst (λ n. Changes counter pages q base page n key (Some value)) (sym r.1.2)
    (placed_changes counter pages q base page key value (taken_out page key ss) r.1.0 small key-small short of-page d.base_fits d.near
    (fits_taken_out pages q page key ss f)
    (omega (arith, less_taken_out page key ss (λ a. r.0 (keyed_absent page key ss a)), f.few))
    (absent_taken_out page key ss (rising_all pages q page ss f)) r.1.1.0
    (λ k ne. ap (option_map (λ e. e.value)) (keyed_taken_out page key k ne ss)))

pub removes : Removes
removes counter pages q base page new key small d r =
    let ss : List Slot = draft_slots counter page in
    let f = draft_fits counter pages q base page d in
    let g = fits_taken_out pages q page key ss f in
    let is : new ≡ with_header page (target counter base) (counter + 1) (taken_out page key ss) =
    r.1 ∙ ap (λ t. with_header page t (counter + 1) (taken_out page key ss)) (near_target counter pages q base page d.base_fits d.near) in
    subst (λ n. Changes counter pages q base page n key None) (sym is) (
      written_drafted counter pages q base page (taken_out page key ss) small d.base_fits d.near g,
      written_begun counter pages q base page (taken_out page key ss) small d.base_fits d.near g,
      λ k. ap (λ es. value_in es k) (written_records counter pages q base page (taken_out page key ss) small d.base_fits d.near g)
          ∙ by_key k key (value_in (map (entry_of page) (taken_out page key ss)) k) None (value_in (draft_records counter page) k)
          (λ e. ap (value_in (map (entry_of page) (taken_out page key ss))) e
          ∙ ap (option_map (λ e. e.value)) (keyed_absent page key (taken_out page key ss) (absent_taken_out page key ss (rising_all pages q page ss f))))
          (λ ne. ap (option_map (λ e. e.value)) (keyed_taken_out page key k ne ss)),
    )

-- a put and a change as entries of the draft: the one more is the record at its place
pub puts_records : (counter pages q : ℕ) (base page new : List ℕ) (key : ℕ) (value : List ℕ)
    → counter + 1 < 2 ^ 32 → key < 2 ^ 32 → length value ≤ 200 → page_of pages key ≡ q → Drafted counter pages q base page
    → (r : PutPage counter page new key value (Ok tt))
    → draft_records counter new ≡ entries_in key (record { key = key; slot = slot_at r.2.0 value; value = value }) (draft_records counter page)
puts_records counter pages q base page new key value small key-small short of-page d r =
    let ss : List Slot = draft_slots counter page in
    ap (draft_records counter) r.2.2
    ∙ placed_records counter pages q base page key value ss r.2.0 small key-small short of-page d.base_fits d.near
    (draft_fits counter pages q base page d) r.1 (absent_keyed page key ss r.0) r.2.1.0

pub replaces_records : (counter pages q : ℕ) (base page new : List ℕ) (key : ℕ) (value : List ℕ)
    → counter + 1 < 2 ^ 32 → key < 2 ^ 32 → length value ≤ 200 → page_of pages key ≡ q → Drafted counter pages q base page
    → (r : ChangedPage counter page new key value (Ok tt))
    → draft_records counter new
    ≡ entries_in key (record { key = key; slot = slot_at r.1.0 value; value = value }) (entries_out key (draft_records counter page))
replaces_records counter pages q base page new key value small key-small short of-page d r =
    let ss : List Slot = draft_slots counter page in
    let f = draft_fits counter pages q base page d in
    ap (draft_records counter) r.1.2
    ∙ placed_records counter pages q base page key value (taken_out page key ss) r.1.0 small key-small short of-page d.base_fits d.near
    (fits_taken_out pages q page key ss f)
    (omega (arith, less_taken_out page key ss (λ a. r.0 (keyed_absent page key ss a)), f.few))
    (absent_taken_out page key ss (rising_all pages q page ss f)) r.1.1.0
    ∙ ap (entries_in key (record { key = key; slot = slot_at r.1.0 value; value = value })) (map_taken_out page key ss)
