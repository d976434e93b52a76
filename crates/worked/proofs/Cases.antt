-- The worked cases, proved.
use Rattle.std.proofs.Common.{◌≡◌, ℕ, ◌+◌, cond, eqb, List, map, Some, None, sym, refl, ap, ◌∙◌, arith}
use Rattle.std.specs.Option.{option_map}
use Rattle.layout.specs.Pages.{entry_of, header_of, pending_on, side_of, slots_by, valid}
use Rattle.form.specs.declared.cue.Cue.{Cue}
use Rattle.form.specs.declared.still.Still.{Still}
use Rattle.form.specs.Cues.{cue_made}
use Rattle.form.specs.Stills.{still_made}
use Rattle.worked.specs.Table.{Numbers, EveryCase, EveryRow}
use Rattle.worked.proofs.Fresh.{four_places}

-- the valid header of a page, by its numbers
by_numbers : (page : List ℕ) (a b counter : ℕ) → Numbers a b page → valid counter page ≡ option_map (header_of page) (side_of counter a b)
by_numbers page a b counter n = λ i. option_map (header_of page) (side_of counter (n.0 i) (n.1 i))

-- the numbers to be cleared, by the page's numbers
pending_by : (page : List ℕ) (a b counter : ℕ) → Numbers a b page
    → pending_on counter page ≡ cond (eqb a (counter + 1)) 1 0 + cond (eqb b (counter + 1)) 1 0
pending_by page a b counter n = λ i. cond (eqb (n.0 i) (counter + 1)) 1 0 + cond (eqb (n.1 i) (counter + 1)) 1 0

start_600 : Cue
start_600 = cue_made (Some 600) None (Some 80) None refl

slide_12 : Still
slide_12 = still_made (Some 12) None None (Some 45) refl

pub every_case : EveryCase
unfolding start_600 slide_12
every_case = (
  λ page n. by_numbers page 3 2 3 n,
  (
    λ page n. by_numbers page 3 4 3 n,
    (
      λ page n. (n.1, pending_by page 3 4 3 n),
      (
        λ page n. ap (λ o. map (entry_of page) (slots_by page o)) (by_numbers page 1 0 0 n),
        (
          λ page n. (n.0, pending_by page 1 0 0 n),
          (
            λ page n pages q s. omega (arith, n.0, s.numbered.low_a),
            (
              λ page n counter pages q s. omega (arith, n.0, s.numbered.differ (n.0 ∙ sym n.1)),
              (
                refl,
                (
                  (start_600, refl, refl, refl),
                  ((slide_12, refl, refl, refl), tt),
                ),
              ),
            ),
          ),
        ),
      ),
    ),
  ),
)

pub every_row : EveryRow
every_row = (four_places, tt)
