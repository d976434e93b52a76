-- A value of optional fields as bytes: a bit map, then the fields whose bit stands, lowest bit first.
use Rattle.std.specs.Prelude.{◌≡◌, ℕ, ◌+◌, ◌*◌, ◌/◌, ◌%◌, ◌^◌, Bool, true, false, cond, ◌&&◌, List, [], ◌∷◌, ◌++◌, length, Some, None, Ok, Err, Option, Result, ◌==◌, nat_le, refl}
use Rattle.octets.specs.Numbers.{big, size, spell}
use Rattle.octets.specs.Parts.{part}
use Rattle.std.specs.Option.{ok_or}
use Rattle.form.specs.declared.field.Field.{Field}
use Rattle.form.specs.declared.form.BadByte.{BadByte}
use Rattle.form.specs.declared.form.BadField.{BadField}

-- a number is in the range of its field; an absent one always is
abbrev pub fits : Field → Option ℕ → Bool
fits f None = true
fits f (Some n) = nat_le f.low n && nat_le n f.high

-- every number is in the range of its field, and there are as many as fields
abbrev pub all_fit : List Field → List (Option ℕ) → Bool
all_fit [] [] = true
all_fit [] (v ∷ vs) = false
all_fit (f ∷ fs) [] = false
all_fit (f ∷ fs) (v ∷ vs) = fits f v && all_fit fs vs

-- the bit of the first number out of its range, counted from bit b
abbrev pub lowest_bad : ℕ → List Field → List (Option ℕ) → Option ℕ
lowest_bad b [] vs = None
lowest_bad b (f ∷ fs) [] = None
lowest_bad b (f ∷ fs) (v ∷ vs) = cond (fits f v) (lowest_bad (b + 1) fs vs) (Some b)

-- the bit map: a bit for each number, set where it is there, below the bits that name the form
abbrev pub bit_map : ℕ → List (Option ℕ) → ℕ
bit_map top [] = top
bit_map top (None ∷ vs) = 2 * bit_map top vs
bit_map top (Some n ∷ vs) = 1 + 2 * bit_map top vs

-- the bytes of a field
abbrev pub field_bytes : Field → Option ℕ → List ℕ
field_bytes f None = []
field_bytes f (Some n) = spell (size f.width) n

-- the bytes of the fields, in their order
abbrev pub fields_bytes : List Field → List (Option ℕ) → List ℕ
fields_bytes [] vs = []
fields_bytes (f ∷ fs) [] = []
fields_bytes (f ∷ fs) (v ∷ vs) = field_bytes f v ++ fields_bytes fs vs

-- the bytes of a value whose form is named by `top`, the bits above those of the fields
abbrev pub encoded : ℕ → List Field → List (Option ℕ) → List ℕ
encoded top fs vs = bit_map top vs ∷ fields_bytes fs vs

-- a field from byte `at` on: its number and the byte after it, or its bad byte.
-- Bytes that are missing are bad at the value's end, a number out of range at its first byte
abbrev pub field_read : List ℕ → Field → Bool → ℕ → Result (Option ℕ × ℕ) ℕ
field_read b f false at = Ok (None, at)
field_read b f true at =
    cond (nat_le (at + size f.width) (length b))
    (cond (fits f (Some (big (part b at (size f.width))))) (Ok (Some (big (part b at (size f.width))), at + size f.width)) (Err at))
    (Err (length b))

-- what follows an accepted reading; a refused one is kept
abbrev pub after : {A B : Type 0} → Result A ℕ → (A → Result B ℕ) → Result B ℕ
after (Ok x) f = f x
after (Err e) f = Err e

-- the fields from byte `at` on, by what is left of the bit map; bytes left over are bad where they begin
abbrev pub fields_read : List ℕ → List Field → ℕ → ℕ → Result (List (Option ℕ)) ℕ
fields_read b [] left at = cond (at == length b) (Ok []) (Err at)
fields_read b (f ∷ fs) left at =
    after (field_read b f (left % 2 == 1) at) (λ r. after (fields_read b fs (left / 2) r.1) (λ vs. Ok (r.0 ∷ vs)))

-- the fields of a value, or its bad byte: byte 0 where the bit map is missing or does not name the form
abbrev pub decoded : ℕ → List Field → List ℕ → Result (List (Option ℕ)) ℕ
decoded top fs [] = Err 0
decoded top fs (m ∷ rest) = cond (m / 2 ^ length fs == top) (fields_read (m ∷ rest) fs m 1) (Err 0)

-- how a value is made of four fields in range
abbrev pub Made : Type 0 → List Field → Type 0
Made V fs = (a b c d : Option ℕ) → all_fit fs (a ∷ b ∷ c ∷ d ∷ []) ≡ true → V

-- the value of four fields, where they are in range
abbrev pub ranged : {V : Type 0} (fs : List Field) (make : Made V fs) (a b c d : Option ℕ) (t : Bool) → all_fit fs (a ∷ b ∷ c ∷ d ∷ []) ≡ t → Option V
ranged fs make a b c d true e = Some (make a b c d e)
ranged fs make a b c d false e = None

-- the value of a list of fields, where there are four and they are in range
abbrev pub four_of : {V : Type 0} (fs : List Field) → Made V fs → List (Option ℕ) → Option V
four_of fs make [] = None
four_of fs make (a ∷ []) = None
four_of fs make (a ∷ b ∷ []) = None
four_of fs make (a ∷ b ∷ c ∷ []) = None
four_of fs make (a ∷ b ∷ c ∷ d ∷ []) = ranged fs make a b c d (all_fit fs (a ∷ b ∷ c ∷ d ∷ [])) refl
four_of fs make (a ∷ b ∷ c ∷ d ∷ x ∷ xs) = None

-- the value made of what was decoded, or the bad byte. Decoded fields always make a value: the last case never comes
abbrev pub read_as : {V : Type 0} → (List (Option ℕ) → Option V) → Result (List (Option ℕ)) ℕ → Result V BadByte
read_as of (Ok vs) = ok_or (of vs) (record { at = 0 })
read_as of (Err at) = Err (record { at = at })

-- making a value of these numbers: the value that has them, or the lowest bit whose number is out of range
abbrev pub Makes : {V : Type 0} → List Field → (V → List (Option ℕ)) → List (Option ℕ) → Result V BadField → Type 0
Makes fs values vs (Ok v) = (lowest_bad 0 fs vs ≡ None) × (values v ≡ vs)
Makes fs values vs (Err e) = lowest_bad 0 fs vs ≡ Some e.bit
