-- The fields of cues and stills, lowest bit first: bytes, least and greatest number.
use Rattle.std.specs.Prelude.{ℕ, List, [], ◌∷◌}
use Rattle.octets.specs.declared.Width.{Width}
use Rattle.octets.specs.declared.Width.TheVariants.{One, Two, Four}
use Rattle.form.specs.declared.field.Field.{Field}

-- a field of this width and range
abbrev pub field : Width → ℕ → ℕ → Field
field w low high = record { width = w; low = low; high = high }

-- start, projector, level, fade
abbrev pub cue_fields : List Field
cue_fields = field Four 0 863999 ∷ field One 1 64 ∷ field One 0 100 ∷ field Two 0 6000 ∷ []

-- slide, projector, width, hold
abbrev pub still_fields : List Field
still_fields = field Two 1 9999 ∷ field One 1 64 ∷ field Two 1 36000 ∷ field Two 0 6000 ∷ []
