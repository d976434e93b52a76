-- What an accepted reading says of the bytes that were read.
use Rattle.std.specs.Prelude.{◌≡◌, ℕ, ◌+◌, ◌≤◌, Bool, true, false, cond, List, ◌++◌, length, drop, is_some, Some, None, Ok, Err, Option, Result, nat_le, refl}
use Rattle.std.proofs.Common.{subst, arith}
use Rattle.std.proofs.lemmas.Bool.{leb-true}
use Rattle.octets.specs.Parts.{part, Bytes}
use Rattle.octets.specs.Numbers.{big, size}
use Rattle.octets.proofs.Spelled.{part_spelled}
use Rattle.form.specs.declared.field.Field.{Field}
use Rattle.form.specs.Fields.{fits, field_bytes, field_read, after}

pub ok_same : {A E : Type 0} (x y : A) → ◌≡◌ {A = Result A E} (Ok x) (Ok y) → x ≡ y
ok_same x y e = cc

pub not_ok : {A E : Type 0} {P : Type 0} (k : E) (x : A) → ◌≡◌ {A = Result A E} (Err k) (Ok x) → P
not_ok k x e = let z : ◌≡◌ {A = ℕ} 0 1 = cc in absurd (omega arith)

pub cond_ok : {A : Type 0} (t : Bool) (r : Result A ℕ) (k : ℕ) (x : A) → cond t r (Err k) ≡ Ok x → (t ≡ true) × (r ≡ Ok x)
cond_ok true r k x e = (refl, e)
cond_ok false r k x e = not_ok k x e

pub after_ok : {A B : Type 0} (r : Result A ℕ) (f : A → Result B ℕ) (y : B) → after r f ≡ Ok y → (x : A) × (r ≡ Ok x) × (f x ≡ Ok y)
after_ok (Ok x) f y e = (x, refl, e)
after_ok (Err k) f y e = not_ok k y e

-- a field read from byte `at` on: its number is in range, and its bytes stand there
pub record ReadAt (b : List ℕ) (f : Field) (t : Bool) (at : ℕ) (x : Option ℕ × ℕ) : Type 0 where
  pub within : x.1 ≤ length b
  pub fit : fits f x.0 ≡ true
  pub flag : is_some x.0 ≡ t
  pub stands : Bytes b → field_bytes f x.0 ++ drop x.1 b ≡ drop at b

pub read_at : (b : List ℕ) (f : Field) (t : Bool) (at : ℕ) (x : Option ℕ × ℕ) → at ≤ length b → field_read b f t at ≡ Ok x → ReadAt b f t at x
read_at b f false at x h e =
    subst (ReadAt b f false at) (ok_same (None, at) x e) (record { within = h; fit = refl; flag = refl; stands = λ _. refl })
read_at b f true at x h e =
    let n : ℕ = big (part b at (size f.width)) in
    let end : ℕ = at + size f.width in
    let p = cond_ok (nat_le end (length b)) (cond (fits f (Some n)) (Ok (Some n, end)) (Err at)) (length b) x e in
    let q = cond_ok (fits f (Some n)) (Ok (Some n, end)) at x p.1 in
    let room : end ≤ length b = leb-true end (length b) p.0 in
    subst (ReadAt b f true at) (ok_same (Some n, end) x q.1) (record { within = room; fit = q.0; flag = refl; stands = part_spelled b at (size f.width) room })
