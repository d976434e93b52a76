-- What a good run keeps.
use Rattle.std.proofs.Common.{◌≡◌, ℕ, ◌+◌, ◌*◌, ◌%◌, ◌<◌, ◌≤◌, true, ◌&&◌, eqb, ltb, leb, ◌⊎◌, List, length, inl, inr, ⊎_elim, arith}
use Rattle.std.proofs.lemmas.Bool.{and_parts, cases_lt, ltb-true, leb-true, eqb-true}
use Rattle.octets.specs.Files.{word}
use Rattle.octets.specs.Parts.{patched}
use Rattle.octets.proofs.Patches.{part_beside}
use Rattle.medium.specs.Meaning.{InRun, good}

pub record Good (pages p s n : ℕ) : Type 0 where
  pub page : p < pages
  pub some : 0 < n
  pub start : s % 4 ≡ 0
  pub whole : n % 4 ≡ 0
  pub room : s + n ≤ 1024

pub good_tells : (pages p s n : ℕ) → good pages p s n ≡ true → Good pages p s n
good_tells pages p s n e =
    let a = and_parts (ltb p pages) (ltb 0 n && (eqb (s % 4) 0 && (eqb (n % 4) 0 && leb (s + n) 1024))) e in
    let b = and_parts (ltb 0 n) (eqb (s % 4) 0 && (eqb (n % 4) 0 && leb (s + n) 1024)) a.1 in
    let c = and_parts (eqb (s % 4) 0) (eqb (n % 4) 0 && leb (s + n) 1024) b.1 in
    let d = and_parts (eqb (n % 4) 0) (leb (s + n) 1024) c.1 in
    record {
      page = ltb-true p pages a.0;
      some = ltb-true 0 n b.0;
      start = eqb-true (s % 4) 0 c.0;
      whole = eqb-true (n % 4) 0 d.0;
      room = leb-true (s + n) 1024 d.1;
    }

-- words of a page with a run of whole words put in: those of the run, and the others
pub word_beside : (page y : List ℕ) (s k : ℕ) → s % 4 ≡ 0 → length y % 4 ≡ 0 → s + length y ≤ length page → (4 * k < s) ⊎ (s + length y ≤ 4 * k)
    → word (patched page s y) k ≡ word page k
word_beside page y s k start whole room side =
    part_beside page y s room (4 * k) 4 (⊎_elim (λ l. inl (omega arith)) (λ l. inr (omega arith)) side)

-- whether a word lies in a run
pub in_run : (s n k : ℕ) → InRun s n k ⊎ ((4 * k < s) ⊎ (s + n ≤ 4 * k))
in_run s n k =
    ⊎_elim (λ (l : 4 * k < s). inr (inl l)) (λ (l : s ≤ 4 * k). ⊎_elim (λ h. inl (l, h)) (λ h. inr (inr h)) (cases_lt (4 * k) (s + n))) (cases_lt (4 * k) s)
