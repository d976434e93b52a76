-- Stills as bytes. The top two bits of a still's bit map are 10, and the two below them 00.
use Rattle.std.specs.Prelude.{ℕ, List, [], ◌∷◌, Option, Result}
use Rattle.form.specs.declared.still.Still.{Still}
use Rattle.form.specs.declared.form.BadByte.{BadByte}
use Rattle.form.specs.declared.form.BadField.{BadField}
use Rattle.form.specs.Fields.{Makes, encoded, Made, four_of, decoded, read_as}
use Rattle.form.specs.Ranges.{still_fields}

-- a still's fields, lowest bit first
abbrev pub still_values : Still → List (Option ℕ)
still_values s = s.slide ∷ s.projector ∷ s.width ∷ s.hold ∷ []

-- the bytes of a still
abbrev pub still_bytes : Still → List ℕ
still_bytes s = encoded 8 still_fields (still_values s)

-- the still of fields in range
abbrev pub still_made : Made Still still_fields
still_made s p w h e = record { slide = s; projector = p; width = w; hold = h; in_range = e }

-- the still of a list of fields, where it is one
abbrev pub still_of : List (Option ℕ) → Option Still
still_of = four_of still_fields still_made

-- the still that bytes stand for, or their first bad byte
abbrev pub still_reads : List ℕ → Result Still BadByte
still_reads b = read_as still_of (decoded 8 still_fields b)

-- making a still of these fields: the still that has them, or the lowest bit whose field is out of range
abbrev pub MakesStill : List (Option ℕ) → Result Still BadField → Type 0
MakesStill = Makes still_fields still_values
