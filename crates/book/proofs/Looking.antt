-- What a look finds on an opened file.
use Rattle.std.proofs.Common.{◌≡◌, ℕ, suc, ◌+◌, ◌-◌, ◌<◌, ◌≤◌, false, eqb, leb, List, [], ◌∷◌, map, length, drop, Some, None, Ok, Err, Option, Result, sym, refl, ap, ◌∙◌, inl, inr, arith, length-drop, length-take}
use Rattle.std.specs.Option.{option_map}
use Rattle.std.proofs.lemmas.List.{take_all}
use Rattle.std.proofs.lemmas.Bool.{cond_both, cond-true, le-leb}
use Rattle.octets.specs.Parts.{part}
use Rattle.octets.proofs.Agreeing.{part_part}
use Rattle.medium.specs.declared.fault.MediumFault.{MediumFault}
use Rattle.medium.specs.declared.fault.MediumFault.TheVariants.{BadRun, Stopped}
use Rattle.medium.specs.Meaning.{Meaning}
use Rattle.layout.specs.declared.first.FirstPage.{FirstPage}
use Rattle.layout.specs.declared.header.Slot.{Slot}
use Rattle.layout.specs.Pages.{Entry, entry_of, key_of, page_of, records, saved_slots, value_of}
use Rattle.layout.specs.Sound.{Inside, Sound, at}
use Rattle.layout.specs.Walks.{keyed}
use Rattle.guard.specs.Changes.{value_in}
use Rattle.store.specs.declared.refusal.Refusal.{Refusal}
use Rattle.store.specs.declared.state.Place.{Place}
use Rattle.store.specs.declared.state.State.TheVariants.{Open}
use Rattle.store.specs.Access.{Denies}
use Rattle.store.specs.Looks.{Looks, opened, value_at}
use Rattle.book.specs.Books.{Values}
use Rattle.book.specs.Keeps.{Later, Rests, Stands}
use Rattle.book.proofs.Ranges.{key_later}
use Rattle.book.proofs.Resting.{drafted_reads}

-- the record found for a key is that of one of the slots
keyed_slot : (page : List ℕ) (key : ℕ) (ss : List Slot) (e : Entry) → keyed key (map (entry_of page) ss) ≡ Some e
    → (k : ℕ) × (k < length ss) × (e ≡ entry_of page (at ss k))
keyed_slot page key [] e is = absurd cc
keyed_slot page key (s ∷ ss) e is =
    let P : Option Entry → Type 0 = λ o. o ≡ Some e → (k : ℕ) × (k < length (s ∷ ss)) × (e ≡ entry_of page (at (s ∷ ss) k)) in
    cond_both (eqb (key_of page s) key) (Some (entry_of page s)) (keyed key (map (entry_of page) ss)) P
    (λ t f. let same : entry_of page s ≡ e = cc in (0, omega arith, sym same))
    (λ t f. let r = keyed_slot page key ss e f in (suc r.0, omega (arith, r.1), r.2)) is

-- the value of a record lies behind its key
value_part : (page : List ℕ) (s : Slot) → 4 ≤ s.length → part page (s.offset + 4) (s.length - 4) ≡ value_of page s
unfolding value_of
value_part page s l =
    let b : List ℕ = part page s.offset s.length in
    sym (part_part page s.offset s.length 4 (s.length - 4) (omega arith))
    ∙ take_all (s.length - 4) (drop 4 b) (omega (arith, length-drop 4 b, length-take s.length (drop s.offset page)))

-- so it is the part at the place that a look names
place_value : (page : List ℕ) (s : Slot) (p : Place) → length page ≡ 1024 → Inside s → p.at ≡ s.offset + 4 → p.length ≡ s.length - 4
    → value_at page p ≡ value_of page s
place_value page s p long (_, end, four, _) from size =
    cond-true (leb (p.at + p.length) (length page)) (part page p.at p.length) [] (le-leb _ _ (omega arith))
    ∙ (λ i. part page (from i) (size i)) ∙ value_part page s four

-- a record found for a key on a sound page is at the place that a look names
found_value : (counter pages q : ℕ) (page : List ℕ) (key : ℕ) (e : Entry) (p : Place) → length page ≡ 1024 → Sound counter pages q page
    → keyed key (records counter page) ≡ Some e → p.at ≡ e.slot.offset + 4 → p.length ≡ e.slot.length - 4
    → value_at page p ≡ e.value
found_value counter pages q page key e p long sound is from size =
    let r = keyed_slot page key (saved_slots counter page) e is in
    let s : Slot = at (saved_slots counter page) r.0 in
    let slot : e.slot ≡ s = ap (λ e. e.slot) r.2 in
    place_value page s p long (sound.fits.own r.0 r.1).0 (from ∙ ap (λ s. s.offset + 4) slot) (size ∙ ap (λ s. s.length - 4) slot)
    ∙ sym (ap (λ e. e.value) r.2)

-- the page of a key on an opened file: as long as a page, sound, and with the saved value of the key
page_says : (m : Meaning) (first : FirstPage) (base : ℕ → List ℕ) (saved : Values) (key : ℕ) → Rests m first base saved → Stands m first base
    → (length (m.shown (page_of first.pages key)) ≡ 1024)
    × Sound first.counter first.pages (page_of first.pages key) (m.shown (page_of first.pages key))
    × (value_in (records first.counter (m.shown (page_of first.pages key))) key ≡ saved key)
page_says m first base saved key rests stands =
    let q : ℕ = page_of first.pages key in
    let l : Later first.pages q = key_later first.pages key (omega (arith, rests.sound.least, rests.pages)) in
    let d = stands.drafted q l in
    let reads = drafted_reads first.counter first.pages q (base q) (m.shown q) d in (
      d.near.long,
      reads.0,
      ap (λ es. value_in es key) reads.1 ∙ rests.said key,
    )

-- a page of the file can be read while the medium runs
not_denied : (m : Meaning) (q : ℕ) (f : MediumFault) → q < m.pages → m.stopped ≡ false → Denies m q f → ⊥
not_denied m q BadRun l runs none = omega arith
not_denied m q Stopped l runs (_, stop) = cc

module _ (m : Meaning) (first : FirstPage) (base : ℕ → List ℕ) (saved : Values) (key : ℕ) (work new b : List ℕ)
    (rests : Rests m first base saved) (stands : Stands m first base) (runs : m.stopped ≡ false) (long : length work ≡ 1024)
    (is_saved : saved key ≡ Some b) where
  -- the page that a look reads
  looked : (g : FirstPage) → opened (Open first) ≡ Some g → (length (m.shown (page_of g.pages key)) ≡ 1024)
      × Sound g.counter g.pages (page_of g.pages key) (m.shown (page_of g.pages key))
      × (value_in (records g.counter (m.shown (page_of g.pages key))) key ≡ Some b) × (page_of g.pages key < m.pages)
  looked g same =
      let is : first ≡ g = cc in
      let page = page_says m first base saved key rests stands in
      let later = key_later first.pages key (omega (arith, rests.sound.least, rests.pages)) in
      rw (← is) (page.0, page.1, page.2 ∙ is_saved, omega (arith, later.1, rests.pages, rests.sound.there))

  -- a look at a key that has a value finds it
  pub look_says : (x : Result Place Refusal) → Looks m (Open first) key work new x → (p : Place) × (x ≡ Ok p) × (value_at new p ≡ b)
  look_says (Ok p) (g, (_, same), _, shows, (e, found, from, size)) =
      let page = looked g same in
      let value : Some e.value ≡ Some b = sym (ap (option_map (λ e. e.value)) found) ∙ page.2 in
      (p, refl, rw shows (found_value g.counter g.pages (page_of g.pages key) _ key e p page.0 page.1 found from size ∙ cc))
  look_says (Err x) (inl (inl (_, short), _)) = absurd (short long)
  look_says (Err x) (inl (inr (_, _, shut), _)) = absurd cc
  look_says (Err x) (inr (g, (_, same), inl ((f, _, denied), _))) =
      absurd (not_denied m (page_of g.pages key) f (looked g same).3 runs denied)
  look_says (Err x) (inr (g, (_, same), inr (_, _, _, none))) =
      let value : None ≡ Some b = sym (ap (option_map (λ e. e.value)) none) ∙ (looked g same).2 in absurd cc
