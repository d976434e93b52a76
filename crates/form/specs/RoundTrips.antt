-- Fields go to bytes and back, and bytes to fields and back.
use Rattle.std.specs.Prelude.{◌≡◌, ℕ, suc, ◌+◌, ◌*◌, ◌/◌, ◌%◌, ◌^◌, ◌<◌, ◌≤◌, Bool, true, cond, ◌&&◌, leb, List, [], ◌∷◌, ◌++◌, length, take, drop, is_some, Some, None, Ok, Err, Option, ◌==◌, nat_le, nat_lt, refl}
use Rattle.std.proofs.Common.{sym, ap, subst, ◌∙◌, arith, div-one, add-zero, length-append, length-drop}
use Rattle.std.proofs.lemmas.List.{drop_all, drop_at, drop-drop, take_at}
use Rattle.std.proofs.lemmas.Bool.{false≢true, and_parts, and_from, cond-true, eq-eqb, eqb-true, le-leb, leb-true, ltb-true}
use Rattle.octets.specs.Parts.{part, Bytes}
use Rattle.octets.specs.Numbers.{big, size, spell}
use Rattle.octets.proofs.Numbers.{big_spell, length_spell}
use Rattle.form.specs.declared.field.Field.{Field}
use Rattle.form.specs.Fields.{fits, all_fit, bit_map, field_bytes, fields_bytes, encoded, field_read, after, fields_read, decoded}
use Rattle.form.specs.BitMaps.{bit_map_bit, bit_map_rest, bit_map_top, bit_map_back}
use Rattle.form.specs.Inverses.{ok_same, not_ok, cond_ok, after_ok, read_at}
use Rattle.form.specs.Walks.{field_le}

-- each field's bytes have room for its greatest number
abbrev pub wide : List Field → Bool
wide [] = true
wide (f ∷ fs) = nat_lt f.high (256 ^ size f.width) && wide fs

-- what was read is in range, and is given back by its bit map and bytes
pub record ReadAll (b : List ℕ) (fs : List Field) (left at : ℕ) (vs : List (Option ℕ)) : Type 0 where
  pub fit : all_fit fs vs ≡ true
  pub map : bit_map (left / 2 ^ length fs) vs ≡ left
  pub stands : Bytes b → fields_bytes fs vs ≡ drop at b

pub read_back : (b : List ℕ) (fs : List Field) (left at : ℕ) (vs : List (Option ℕ)) → at ≤ length b → fields_read b fs left at ≡ Ok vs → ReadAll b fs left at vs
read_back b [] left at vs h e =
    let p = cond_ok (at == length b) (Ok []) at vs e in
    let end : at ≡ length b = eqb-true at (length b) p.0 in
    subst (ReadAll b [] left at) (ok_same [] vs p.1) (record { fit = refl; map = div-one left; stands = λ _. sym (drop_all at b (omega arith)) })
read_back b (f ∷ fs) left at vs h e =
    let first = after_ok (field_read b f (left % 2 == 1) at) (λ x. after (fields_read b fs (left / 2) x.1) (λ ws. Ok (x.0 ∷ ws))) vs e in
    let x : Option ℕ × ℕ = first.0 in
    let others = after_ok (fields_read b fs (left / 2) x.1) (λ ws. Ok (x.0 ∷ ws)) vs first.2 in
    let one = read_at b f (left % 2 == 1) at x h first.1 in
    let rest = read_back b fs (left / 2) x.1 others.0 one.within others.1 in
    subst (ReadAll b (f ∷ fs) left at) (ok_same (x.0 ∷ others.0) vs others.2) (record {
      fit = and_from (fits f x.0) (all_fit fs others.0) one.fit rest.fit;
      map = bit_map_back left (length fs) x.0 others.0 one.flag rest.map;
      stands = λ bytes. ap (λ ys. field_bytes f x.0 ++ ys) (rest.stands bytes) ∙ one.stands bytes;
    })

there_one : (b : List ℕ) (f : Field) (v : Option ℕ) (at : ℕ) (rest : List ℕ) → at ≤ length b → drop at b ≡ field_bytes f v ++ rest → fits f v ≡ true
    → f.high < 256 ^ size f.width → field_read b f (is_some v) at ≡ Ok (v, at + length (field_bytes f v))
there_one b f None at rest h e fit room = ap (λ n. Ok (None, n)) (sym (add-zero at))
there_one b f (Some n) at rest h e fit room =
    let s : ℕ = size f.width in
    let long : length (spell s n) ≡ s = length_spell s n in
    let end : leb (at + s) (length b) ≡ true = le-leb (at + s) (length b) (omega (arith, ap length e, length-append (spell s n) rest, length-drop at b)) in
    let low : n < 256 ^ s = omega (arith, leb-true n f.high (and_parts (nat_le f.low n) (nat_le n f.high) fit).1) in
    let is : big (part b at s) ≡ n = ap (λ xs. big (take s xs)) e ∙ ap big (take_at (spell s n) rest s long) ∙ big_spell s n low in
    cond-true (nat_le (at + s) (length b)) _ _ end ∙ ap (λ m. cond (fits f (Some m)) (Ok (Some m, at + s)) (Err at)) is ∙ cond-true (fits f (Some n)) _ _ fit
    ∙ ap (λ m. Ok (Some n, at + m)) (sym long)

there_all : (top : ℕ) (b : List ℕ) (fs : List Field) (vs : List (Option ℕ)) (at : ℕ) → at ≤ length b → drop at b ≡ fields_bytes fs vs → all_fit fs vs ≡ true → wide fs ≡ true
    → fields_read b fs (bit_map top vs) at ≡ Ok vs
there_all top b [] [] at h e fit room = cond-true (at == length b) _ _ (eq-eqb at (length b) (omega (arith, ap length e, length-drop at b)))
there_all top b [] (v ∷ vs) at h e fit room = absurd (false≢true fit)
there_all top b (f ∷ fs) [] at h e fit room = absurd (false≢true fit)
there_all top b (f ∷ fs) (v ∷ vs) at h e fit room =
    let fits_both = and_parts (fits f v) (all_fit fs vs) fit in
    let room-both = and_parts (nat_lt f.high (256 ^ size f.width)) (wide fs) room in
    let a : List ℕ = field_bytes f v in
    let end : ℕ = at + length a in
    let one : field_read b f (bit_map top (v ∷ vs) % 2 == 1) at ≡ Ok (v, end) =
    ap (λ t. field_read b f t at) (bit_map_bit top v vs) ∙ there_one b f v at (fields_bytes fs vs) h e fits_both.0 (ltb-true _ _ room-both.0) in
    let left : drop end b ≡ fields_bytes fs vs = sym (drop-drop (length a) at b) ∙ ap (drop (length a)) e ∙ drop_at a (fields_bytes fs vs) (length a) refl in
    let within : end ≤ length b = omega (arith, ap length e, length-append a (fields_bytes fs vs), length-drop at b) in
    ap (λ r. after r (λ x. after (fields_read b fs (bit_map top (v ∷ vs) / 2) x.1) (λ ws. Ok (x.0 ∷ ws)))) one
    ∙ ap (λ n. after (fields_read b fs n end) (λ ws. Ok (v ∷ ws))) (bit_map_rest top v vs)
    ∙ ap (λ r. after r (λ ws. Ok (v ∷ ws))) (there_all top b fs vs end within left fits_both.1 room-both.1)

pub fit_length : (fs : List Field) (vs : List (Option ℕ)) → all_fit fs vs ≡ true → length fs ≡ length vs
fit_length [] [] fit = refl
fit_length [] (v ∷ vs) fit = absurd (false≢true fit)
fit_length (f ∷ fs) [] fit = absurd (false≢true fit)
fit_length (f ∷ fs) (v ∷ vs) fit = ap suc (fit_length fs vs (and_parts (fits f v) (all_fit fs vs) fit).1)

-- fields in range are read back from their bytes
pub decoded_encoded : (top : ℕ) (fs : List Field) (vs : List (Option ℕ)) → wide fs ≡ true → all_fit fs vs ≡ true → decoded top fs (encoded top fs vs) ≡ Ok vs
decoded_encoded top fs vs room fit =
    let named : bit_map top vs / 2 ^ length fs ≡ top = ap (λ n. bit_map top vs / 2 ^ n) (fit_length fs vs fit) ∙ bit_map_top top vs in
    cond-true (bit_map top vs / 2 ^ length fs == top) _ _ (eq-eqb _ _ named) ∙ there_all top (encoded top fs vs) fs vs 1 (omega arith) refl fit room

-- fields that were read are in range
pub decoded_fit : (top : ℕ) (fs : List Field) (b : List ℕ) (vs : List (Option ℕ)) → decoded top fs b ≡ Ok vs → all_fit fs vs ≡ true
decoded_fit top fs [] vs e = not_ok 0 vs e
decoded_fit top fs (m ∷ rest) vs e =
    (read_back (m ∷ rest) fs m 1 vs (omega arith) (cond_ok (m / 2 ^ length fs == top) (fields_read (m ∷ rest) fs m 1) 0 vs e).1).fit

-- and their bytes are those that were read
pub encoded_decoded : (top : ℕ) (fs : List Field) (b : List ℕ) (vs : List (Option ℕ)) → Bytes b → decoded top fs b ≡ Ok vs → encoded top fs vs ≡ b
encoded_decoded top fs [] vs bytes e = not_ok 0 vs e
encoded_decoded top fs (m ∷ rest) vs bytes e =
    let p = cond_ok (m / 2 ^ length fs == top) (fields_read (m ∷ rest) fs m 1) 0 vs e in
    let all = read_back (m ∷ rest) fs m 1 vs (omega arith) p.1 in
    let map : bit_map top vs ≡ m = ap (λ t. bit_map t vs) (sym (eqb-true _ _ p.0)) ∙ all.map in
    λ i. map i ∷ all.stands bytes i

-- a field takes four bytes at most
pub fields_le : (fs : List Field) (vs : List (Option ℕ)) → length (fields_bytes fs vs) ≤ 4 * length fs
fields_le [] vs = omega arith
fields_le (f ∷ fs) [] = omega arith
fields_le (f ∷ fs) (v ∷ vs) = omega (arith, length-append (field_bytes f v) (fields_bytes fs vs), field_le f v, fields_le fs vs)
