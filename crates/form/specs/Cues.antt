-- Cues as bytes. The top two bits of a cue's bit map are 01, and the two below them 00.
use Rattle.std.specs.Prelude.{ℕ, List, [], ◌∷◌, Option, Result}
use Rattle.form.specs.declared.cue.Cue.{Cue}
use Rattle.form.specs.declared.form.BadByte.{BadByte}
use Rattle.form.specs.declared.form.BadField.{BadField}
use Rattle.form.specs.Fields.{Makes, encoded, Made, four_of, decoded, read_as}
use Rattle.form.specs.Ranges.{cue_fields}

-- a cue's fields, lowest bit first
abbrev pub cue_values : Cue → List (Option ℕ)
cue_values c = c.start ∷ c.projector ∷ c.level ∷ c.fade ∷ []

-- the bytes of a cue
abbrev pub cue_bytes : Cue → List ℕ
cue_bytes c = encoded 4 cue_fields (cue_values c)

-- the cue of fields in range
abbrev pub cue_made : Made Cue cue_fields
cue_made s p l f e = record { start = s; projector = p; level = l; fade = f; in_range = e }

-- the cue of a list of fields, where it is one
abbrev pub cue_of : List (Option ℕ) → Option Cue
cue_of = four_of cue_fields cue_made

-- the cue that bytes stand for, or their first bad byte
abbrev pub cue_reads : List ℕ → Result Cue BadByte
cue_reads b = read_as cue_of (decoded 4 cue_fields b)

-- making a cue of these fields: the cue that has them, or the lowest bit whose field is out of range
abbrev pub MakesCue : List (Option ℕ) → Result Cue BadField → Type 0
MakesCue = Makes cue_fields cue_values
