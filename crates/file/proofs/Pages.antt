-- Going over the pages after the first.
use Rattle.std.proofs.Common.{◌≡◌, ℕ, ◌+◌, ◌-◌, ◌<◌, ◌≤◌, Bool, true, false, cond, eqb, List, length, get_or, Some, None, Option, MatchOption, sym, ◌∙◌, subst, arith}
use Rattle.std.specs.List.{range_with_len, AllWithin, HoldsAt}
use Rattle.std.proofs.lemmas.List.FromFn.{length-range_with_len, get_or-range_with_len}
use Rattle.layout.specs.declared.header.Side.TheVariants.{A, B}
use Rattle.layout.specs.Pages.{number_of, pending_on}
use Rattle.layout.specs.Sound.{Sound}
use Rattle.octets.specs.Files.{file_of}
use Rattle.file.specs.Files.{later_pages, Lowest}

-- what holds of each of the later pages in turn, holds of each page from 1 on
later_all : (P : ℕ → Type 0) (n k : ℕ) → k ≤ n → AllWithin P (range_with_len 1 n) 0 k → (q : ℕ) → 1 ≤ q → q < k + 1 → P q
later_all P n k within each q low high =
    let at : get_or (range_with_len 1 n) (q - 1) 0 ≡ q = omega (arith, get_or-range_with_len 1 n (q - 1) 0 (omega arith)) in
    subst P at (each (q - 1) 0 (omega arith) (omega arith))

-- the first page that is not sound, as a search of the later pages finds it
pub lowest_from : (bytes : List ℕ) (counter pages : ℕ) (r : Option ℕ)
    → MatchOption r (AllWithin (λ q. Sound counter pages q ((file_of bytes).page q)) (later_pages pages) 0 (length (later_pages pages)))
    (λ x. (Sound counter pages x ((file_of bytes).page x) → ⊥)
    × (i : ℕ) × (i < length (later_pages pages)) × HoldsAt (λ y. y ≡ x) (later_pages pages) i × AllWithin (λ q. Sound counter pages q ((file_of bytes).page q)) (later_pages pages) 0 i)
    → Lowest bytes counter pages r
lowest_from bytes counter pages None each = λ q low high.
    let long = length-range_with_len 1 (pages - 1) in
    later_all (λ j. Sound counter pages j ((file_of bytes).page j)) (pages - 1) (length (later_pages pages)) (omega (arith, long)) each q low (omega (arith, long))
lowest_from bytes counter pages (Some x) (bad, i, within, here, before) =
    let long = length-range_with_len 1 (pages - 1) in
    let is : x ≡ 1 + i = sym (here 0) ∙ get_or-range_with_len 1 (pages - 1) i 0 (omega (arith, long)) in (
      omega (arith, is),
      omega (arith, is, long),
      bad,
      λ j low high. later_all (λ q. Sound counter pages q ((file_of bytes).page q)) (pages - 1) i (omega (arith, long)) before j low (omega (arith, is)),
    )

cond_le : (b : Bool) → cond b 1 0 ≤ 1
cond_le true = omega arith
cond_le false = omega arith

pub pending_le : (counter : ℕ) (page : List ℕ) → pending_on counter page ≤ 2
pending_le counter page = omega (arith, cond_le (eqb (number_of page A) (counter + 1)), cond_le (eqb (number_of page B) (counter + 1)))
