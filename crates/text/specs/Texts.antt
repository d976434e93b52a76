-- Bytes and record values as text, over the characters' codes.
use Rattle.std.specs.Prelude.{ℕ, ◌/◌, ◌%◌, List, [], ◌∷◌, ◌++◌, Ok, Err, codes, Result}
use Rattle.form.specs.Cues.{cue_reads}
use Rattle.form.specs.Stills.{still_reads}
use Rattle.form.specs.Texts.{cue_text, still_text}
use Rattle.text.specs.Digits.{hex_digit}

-- two digits a byte, the greater first
abbrev pub hex_digits : List ℕ → List ℕ
hex_digits [] = []
hex_digits (b ∷ bs) = hex_digit (b / 16) ∷ hex_digit (b % 16) ∷ hex_digits bs

-- bytes as text: their digits, or `-` for no bytes
abbrev pub hex_text : List ℕ → List ℕ
hex_text [] = codes "-"
hex_text (b ∷ bs) = hex_digits (b ∷ bs)

-- the text of what was read, or else another text
abbrev pub read_text : {V E : Type 0} → (V → List ℕ) → Result V E → List ℕ → List ℕ
read_text text (Ok v) other = text v
read_text text (Err e) other = other

-- a value as text: the cue or else the still that its bytes stand for, or else `value` and the bytes
abbrev pub value_text : List ℕ → List ℕ
value_text bs = read_text cue_text (cue_reads bs) (read_text still_text (still_reads bs) (codes "value " ++ hex_text bs))
