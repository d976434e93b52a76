-- What a record form owes, from what its values are as lists of fields.
use Rattle.std.specs.Prelude.{◌≡◌, ℕ, ◌+◌, ◌≤◌, Bool, cond, true, false, List, [], ◌∷◌, length, Some, None, Ok, Err, Option, Result, slice_index_or, refl}
use Rattle.std.proofs.Common.{sym, ap, ◌∙◌, arith}
use Rattle.std.proofs.Math.Bool.{Bool-set}
use Rattle.std.specs.Option.{ok_or}
use Rattle.std.proofs.lemmas.Option.{none-some, same_Some}
use Rattle.std.proofs.lemmas.Bool.{both_ways, and_from}
use Rattle.octets.specs.Parts.{Bytes}
use Rattle.form.specs.declared.field.Field.{Field}
use Rattle.form.specs.declared.form.BadByte.{BadByte}
use Rattle.form.specs.Fields.{fits, all_fit, lowest_bad, encoded, Made, ranged, four_of, decoded, read_as}
use Rattle.form.specs.Inverses.{not_ok}
use Rattle.form.specs.RoundTrips.{wide, decoded_encoded, encoded_decoded, decoded_fit, fit_length, fields_le}

-- values that are lists of fields in range
pub record Listed {V : Type 0} (fs : List Field) (values : V → List (Option ℕ)) (of : List (Option ℕ) → Option V) : Type 0 where
  pub fit : (v : V) → all_fit fs (values v) ≡ true
  pub of_values : (v : V) → of (values v) ≡ Some v
  pub values_of : (vs : List (Option ℕ)) (v : V) → of vs ≡ Some v → values v ≡ vs

pub ranged_at : {V : Type 0} (fs : List Field) (make : Made V fs) (a b c d : Option ℕ) (t : Bool) (e : all_fit fs (a ∷ b ∷ c ∷ d ∷ []) ≡ t) (fit : all_fit fs (a ∷ b ∷ c ∷ d ∷ []) ≡ true)
    → ranged fs make a b c d t e ≡ Some (make a b c d fit)
ranged_at fs make a b c d true e fit = ap (λ h. Some (make a b c d h)) (Bool-set _ _ e fit)
ranged_at fs make a b c d false e fit = absurd (both_ways _ e fit)

module _ {V : Type 0} (fs : List Field) (make : Made V fs) (values : V → List (Option ℕ))
    (values-made : (a b c d : Option ℕ) (fit : all_fit fs (a ∷ b ∷ c ∷ d ∷ []) ≡ true) → values (make a b c d fit) ≡ a ∷ b ∷ c ∷ d ∷ []) where
  from_ranged : (a b c d : Option ℕ) (t : Bool) (e : all_fit fs (a ∷ b ∷ c ∷ d ∷ []) ≡ t) (v : V) → ranged fs make a b c d t e ≡ Some v → values v ≡ a ∷ b ∷ c ∷ d ∷ []
  from_ranged a b c d true e v p = ap values (sym (same_Some (make a b c d e) v p)) ∙ values-made a b c d e
  from_ranged a b c d false e v p = absurd (none-some v p)

  pub from_four : (vs : List (Option ℕ)) (v : V) → four_of fs make vs ≡ Some v → values v ≡ vs
  from_four [] v p = absurd (none-some v p)
  from_four (a ∷ []) v p = absurd (none-some v p)
  from_four (a ∷ b ∷ []) v p = absurd (none-some v p)
  from_four (a ∷ b ∷ c ∷ []) v p = absurd (none-some v p)
  from_four (a ∷ b ∷ c ∷ d ∷ []) v p = from_ranged a b c d (all_fit fs (a ∷ b ∷ c ∷ d ∷ [])) refl v p
  from_four (a ∷ b ∷ c ∷ d ∷ x ∷ xs) v p = absurd (none-some v p)

none_of : (t : Bool) (o : Option ℕ) (b : ℕ) → cond t o (Some b) ≡ None → (t ≡ true) × (o ≡ None)
none_of true o b e = (refl, e)
none_of false o b e = absurd (none-some b (sym e))

-- as many numbers as fields of which none is bad are in range
pub none_bad : (b : ℕ) (fs : List Field) (vs : List (Option ℕ)) → length fs ≡ length vs → lowest_bad b fs vs ≡ None → all_fit fs vs ≡ true
none_bad b [] [] same e = refl
none_bad b [] (v ∷ vs) same e = absurd (omega arith)
none_bad b (f ∷ fs) [] same e = absurd (omega arith)
none_bad b (f ∷ fs) (v ∷ vs) same e =
    let p = none_of (fits f v) (lowest_bad (b + 1) fs vs) b e in
    and_from (fits f v) (all_fit fs vs) p.0 (none_bad (b + 1) fs vs (omega arith) p.1)

ok_or_ok : {V : Type 0} (o : Option V) (e : BadByte) (v : V) → ok_or o e ≡ Ok v → o ≡ Some v
ok_or_ok None e v p = not_ok e v p
ok_or_ok (Some w) e v p = cc

read_as_ok : {V : Type 0} (of : List (Option ℕ) → Option V) (r : Result (List (Option ℕ)) ℕ) (v : V) → read_as of r ≡ Ok v
    → (vs : List (Option ℕ)) × (r ≡ Ok vs) × (of vs ≡ Some v)
read_as_ok of (Ok vs) v e = (vs, refl, ok_or_ok (of vs) (record { at = 0 }) v e)
read_as_ok of (Err at) v e = not_ok (record { at = at }) v e

-- the first four of a list of fields
abbrev pub four : List (Option ℕ) → List (Option ℕ)
four vs = slice_index_or vs 0 None ∷ slice_index_or vs 1 None ∷ slice_index_or vs 2 None ∷ slice_index_or vs 3 None ∷ []

pub four_is : (vs : List (Option ℕ)) → length vs ≡ 4 → four vs ≡ vs
four_is [] n = absurd (omega arith)
four_is (a ∷ []) n = absurd (omega arith)
four_is (a ∷ b ∷ []) n = absurd (omega arith)
four_is (a ∷ b ∷ c ∷ []) n = absurd (omega arith)
four_is (a ∷ b ∷ c ∷ d ∷ []) n = refl
four_is (a ∷ b ∷ c ∷ d ∷ x ∷ xs) n = absurd (omega arith)

-- four fields that were read are in range
pub read_fit : (top : ℕ) (fs : List Field) → length fs ≡ 4 → (b : List ℕ) (vs : List (Option ℕ)) → decoded top fs b ≡ Ok vs → all_fit fs (four vs) ≡ true
read_fit top fs n b vs e =
    let fit = decoded_fit top fs b vs e in
    ap (all_fit fs) (four_is vs (sym (fit_length fs vs fit) ∙ n)) ∙ fit

module _ {V : Type 0} (fs : List Field) (values : V → List (Option ℕ)) (of : List (Option ℕ) → Option V) (listed : Listed fs values of) (top : ℕ) where
  pub short_is : length fs ≤ 8 → (v : V) → length (encoded top fs (values v)) ≤ 200
  short_is few v = omega (arith, fields_le fs (values v))

  pub there_is : wide fs ≡ true → (v : V) → read_as of (decoded top fs (encoded top fs (values v))) ≡ Ok v
  there_is room v = ap (read_as of) (decoded_encoded top fs (values v) room (listed.fit v)) ∙ ap (λ o. ok_or o (record { at = 0 })) (listed.of_values v)

  pub back_is : (b : List ℕ) (v : V) → Bytes b → read_as of (decoded top fs b) ≡ Ok v → encoded top fs (values v) ≡ b
  back_is b v bytes e =
      let p = read_as_ok of (decoded top fs b) v e in
      ap (encoded top fs) (listed.values_of p.0 v p.2) ∙ encoded_decoded top fs b p.0 bytes p.1

  -- the value made of the numbers that were read is what the bytes stand for
  pub read_any_is : (b : List ℕ) (vs : List (Option ℕ)) (v : V) → decoded top fs b ≡ Ok vs → values v ≡ vs → Ok v ≡ read_as of (decoded top fs b)
  read_any_is b vs v e p =
      sym (ap (read_as of) e ∙ ap (λ ws. ok_or (of ws) (record { at = 0 })) (sym p) ∙ ap (λ o. ok_or o (record { at = 0 })) (listed.of_values v))

  -- the value made of the four fields that were read is what the bytes stand for
  pub read_is : length fs ≡ 4 → (b : List ℕ) (vs : List (Option ℕ)) (v : V) → decoded top fs b ≡ Ok vs → values v ≡ four vs → Ok v ≡ read_as of (decoded top fs b)
  read_is n b vs v e p =
      let whole : four vs ≡ vs = four_is vs (sym (fit_length fs vs (decoded_fit top fs b vs e)) ∙ n) in
      sym (ap (read_as of) e ∙ ap (λ ws. ok_or (of ws) (record { at = 0 })) (sym (p ∙ whole)) ∙ ap (λ o. ok_or o (record { at = 0 })) (listed.of_values v))
