-- What an accepted reading of a family says of the form that read.
use Rattle.std.specs.Prelude.{◌≡◌, ℕ, zero, suc, ◌/◌, ◌%◌, Bool, true, false, cond, List, Ok, Err, Result, ◌==◌, refl}
use Rattle.std.proofs.Common.{ap, sym, subst, ◌∙◌, arith}
use Rattle.std.proofs.lemmas.Bool.{eqb-true, eqb-false}
use Rattle.octets.specs.Parts.{Bytes}
use Rattle.form.specs.declared.form.BadByte.{BadByte}
use Rattle.either.specs.declared.Either.{Either}
use Rattle.either.specs.declared.Either.TheVariants.{Left, Right}
use Rattle.form.specs.Pairs.{either_kind, either_bytes, either_reads, either_number, either_numbered}
use Rattle.form.specs.declared.item.ItemKind.TheVariants.{Cue as ACue, Still as AStill}
use Rattle.form.specs.Items.{kind_number, kind_numbered}
use Rattle.form.specs.declared.by_number.ByNumber.{ByNumber}
use Rattle.form.specs.Numbers.{by_number, by_number_kind, by_number_bytes, by_number_reads}
use Rattle.form.specs.Wraps.{wrapped, reads_as_found, reads_numbered}
use Rattle.form.specs.Inverses.{ok_same, not_ok}

-- what holds of each value of the form that was read, wrapped, holds of the value of the family
pub wrapped_so : {A B : Type 0} (f : A → B) (r : Result A BadByte) (w : B) (P : B → Type 0) → ((v : A) → r ≡ Ok v → P (f v)) → wrapped f r ≡ Ok w → P w
wrapped_so f (Ok x) w P h e = subst P (ok_same (f x) w e) (h x refl)
wrapped_so f (Err k) w P h e = not_ok k w e

-- the law `back` of a family
abbrev pub Back : {A K : Type 0} → (A → K) → (A → List ℕ) → (K → List ℕ → Result A BadByte) → Type 0
Back {A} {K} kind bytes reads = (k : K) (b : List ℕ) (v : A) → Bytes b → reads k b ≡ Ok v → (kind v ≡ k) × (bytes v ≡ b)

pub either_back : {A B K L : Type 0} (kA : A → K) (bA : A → List ℕ) (rA : K → List ℕ → Result A BadByte) (kB : B → L) (bB : B → List ℕ) (rB : L → List ℕ → Result B BadByte)
    → Back kA bA rA → Back kB bB rB → Back (either_kind kA kB) (either_bytes bA bB) (either_reads rA rB)
either_back kA bA rA kB bB rB back_a back_b (Left k) b v bytes = wrapped_so Left (rA k b) v (λ w. (either_kind kA kB w ≡ Left k) × (either_bytes bA bB w ≡ b)) λ x e.
    let p = back_a k b x bytes e in
    (ap Left p.0, p.1)
either_back kA bA rA kB bB rB back_a back_b (Right k) b v bytes = wrapped_so Right (rB k b) v (λ w. (either_kind kA kB w ≡ Right k) × (either_bytes bA bB w ≡ b)) λ y e.
    let p = back_b k b y bytes e in
    (ap Right p.0, p.1)

-- the law `back` of numbered kinds
abbrev pub NumberBack : {K : Type 0} → (K → ℕ) → (ℕ → Result K BadByte) → Type 0
NumberBack {K} number numbered = (n : ℕ) (k : K) → numbered n ≡ Ok k → number k ≡ n

module _ {K L : Type 0} (nK : K → ℕ) (fK : ℕ → Result K BadByte) (nL : L → ℕ) (fL : ℕ → Result L BadByte) (back_k : NumberBack nK fK) (back_l : NumberBack nL fL) where
  side_back : (n : ℕ) (k : Either K L) (t : Bool) → (n % 2 == 0) ≡ t → cond t (wrapped Left (fK (n / 2))) (wrapped Right (fL (n / 2))) ≡ Ok k → either_number nK nL k ≡ n
  side_back n k true s = wrapped_so Left (fK (n / 2)) k (λ w. either_number nK nL w ≡ n) λ x e.
      let half = back_k (n / 2) x e in
      let even = eqb-true (n % 2) 0 s in
      omega arith
  side_back n k false s = wrapped_so Right (fL (n / 2)) k (λ w. either_number nK nL w ≡ n) λ y e.
      let half = back_l (n / 2) y e in
      let odd = eqb-false (n % 2) 0 s in
      omega arith

  pub either_number_back : NumberBack (either_number nK nL) (either_numbered fK fL)
  either_number_back n k = side_back n k (n % 2 == 0) refl

module _ {A K : Type 0} (kind : A → K) (bytes : A → List ℕ) (reads : K → List ℕ → Result A BadByte) (number : K → ℕ) (numbered : ℕ → Result K BadByte) where
  -- the bytes of a value, read under its kind's number, are that value
  pub numbered_there : ((k : K) → numbered (number k) ≡ Ok k) → ((v : A) → reads (kind v) (bytes v) ≡ Ok v) → (v : A) → reads_numbered numbered reads (number (kind v)) (bytes v) ≡ Ok v
  numbered_there found there v = ap (λ r. reads_as_found reads r (bytes v)) (found (kind v)) ∙ there v

  found_back : Back kind bytes reads → NumberBack number numbered → (n : ℕ) (b : List ℕ) (v : A) (r : Result K BadByte) → numbered n ≡ r → Bytes b → reads_as_found reads r b ≡ Ok v
      → (number (kind v) ≡ n) × (bytes v ≡ b)
  found_back back back_number n b v (Ok k) found octets e =
      let p = back k b v octets e in
      (ap number p.0 ∙ back_number n k found, p.1)
  found_back back back_number n b v (Err x) found octets e = not_ok x v e

  -- bytes that are read as a value under a number are the bytes of that value, and the number is its kind's
  pub numbered_back : Back kind bytes reads → NumberBack number numbered → (n : ℕ) (b : List ℕ) (v : A) → Bytes b → reads_numbered numbered reads n b ≡ Ok v
      → (number (kind v) ≡ n) × (bytes v ≡ b)
  numbered_back back back_number n b v octets e = found_back back back_number n b v (numbered n) refl octets e

  -- the law `there` of the family under the numbers of its kinds
  pub by_number_there : ((k : K) → numbered (number k) ≡ Ok k) → ((v : A) → reads (kind v) (bytes v) ≡ Ok v) → (v : ByNumber A)
      → by_number_reads numbered reads (by_number_kind kind number v) (by_number_bytes bytes v) ≡ Ok v
  by_number_there found there v = ap (wrapped by_number) (numbered_there found there v.0)

  -- and its law `back`
  pub by_number_back : Back kind bytes reads → NumberBack number numbered → Back (by_number_kind kind number) (by_number_bytes bytes) (by_number_reads numbered reads)
  by_number_back back back_number n b v octets = wrapped_so by_number (reads_numbered numbered reads n b) v
      (λ w. (by_number_kind kind number w ≡ n) × (by_number_bytes bytes w ≡ b)) λ x e. numbered_back back back_number n b x octets e

-- an item's kind has the number that it was found by
pub kind_number_back : NumberBack kind_number kind_numbered
kind_number_back zero k e = ap kind_number (sym (ok_same ACue k e))
kind_number_back (suc zero) k e = ap kind_number (sym (ok_same AStill k e))
kind_number_back (suc (suc n)) k e = not_ok (record { at = 0 }) k e
