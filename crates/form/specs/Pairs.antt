-- Two families of forms as one: a kind of either family is a kind of both.
use Rattle.std.specs.Prelude.{◌≡◌, ℕ, ◌+◌, ◌*◌, ◌/◌, ◌%◌, true, false, cond, List, Ok, Err, Result, ◌==◌, refl}
use Rattle.either.specs.declared.Either.{Either}
use Rattle.either.specs.declared.Either.TheVariants.{Left, Right}
use Rattle.form.specs.declared.form.BadByte.{BadByte}
use Rattle.form.specs.Wraps.{wrapped, reads_as_found, reads_numbered}

-- the kind of a value: the kind that it has in its family
abbrev pub either_kind : {A B K L : Type 0} → (A → K) → (B → L) → Either A B → Either K L
either_kind left right (Left x) = Left (left x)
either_kind left right (Right y) = Right (right y)

-- the bytes of a value: those that it has in its family
abbrev pub either_bytes : {A B : Type 0} → (A → List ℕ) → (B → List ℕ) → Either A B → List ℕ
either_bytes left right (Left x) = left x
either_bytes left right (Right y) = right y

-- the value that bytes stand for under a kind, or their first bad byte: what the kind's family says
abbrev pub either_reads : {A B K L : Type 0} → (K → List ℕ → Result A BadByte) → (L → List ℕ → Result B BadByte) → Either K L → List ℕ → Result (Either A B) BadByte
either_reads left right (Left k) b = wrapped Left (left k b)
either_reads left right (Right k) b = wrapped Right (right k b)

-- the number of a kind: twice the number that it has in its family, and one more on the right
abbrev pub either_number : {K L : Type 0} → (K → ℕ) → (L → ℕ) → Either K L → ℕ
either_number left right (Left k) = 2 * left k
either_number left right (Right k) = 2 * right k + 1

-- the kind with a number: the left family has the even numbers, the right one the odd
abbrev pub either_numbered : {K L : Type 0} → (ℕ → Result K BadByte) → (ℕ → Result L BadByte) → ℕ → Result (Either K L) BadByte
either_numbered left right n = cond (n % 2 == 0) (wrapped Left (left (n / 2))) (wrapped Right (right (n / 2)))

found_left : {A B K L : Type 0} (rA : K → List ℕ → Result A BadByte) (rB : L → List ℕ → Result B BadByte) (r : Result K BadByte) (b : List ℕ)
    → reads_as_found (either_reads rA rB) (wrapped Left r) b ≡ wrapped Left (reads_as_found rA r b)
found_left rA rB (Ok k) b = refl
found_left rA rB (Err e) b = refl

found_right : {A B K L : Type 0} (rA : K → List ℕ → Result A BadByte) (rB : L → List ℕ → Result B BadByte) (r : Result L BadByte) (b : List ℕ)
    → reads_as_found (either_reads rA rB) (wrapped Right r) b ≡ wrapped Right (reads_as_found rB r b)
found_right rA rB (Ok k) b = refl
found_right rA rB (Err e) b = refl

-- under a number bytes are read as the number's family reads them under half the number
pub either_reads_numbered : {A B K L : Type 0} (nA : ℕ → Result K BadByte) (rA : K → List ℕ → Result A BadByte) (nB : ℕ → Result L BadByte) (rB : L → List ℕ → Result B BadByte) (n : ℕ) (b : List ℕ)
    → reads_numbered (either_numbered nA nB) (either_reads rA rB) n b
    ≡ cond (n % 2 == 0) (wrapped Left (reads_numbered nA rA (n / 2) b)) (wrapped Right (reads_numbered nB rB (n / 2) b))
either_reads_numbered nA rA nB rB n b =
    elim (n % 2 == 0) as (λ t. reads_as_found (either_reads rA rB) (cond t (wrapped Left (nA (n / 2))) (wrapped Right (nB (n / 2)))) b
    ≡ cond t (wrapped Left (reads_numbered nA rA (n / 2) b)) (wrapped Right (reads_numbered nB rB (n / 2) b))) [
      | true ↦ found_left rA rB (nA (n / 2)) b
      | false ↦ found_right rA rB (nB (n / 2)) b
    ]
