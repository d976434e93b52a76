-- Cues and stills as text, over the characters' codes.
use Rattle.std.specs.Prelude.{ℕ, List, [], ◌∷◌, ◌++◌, Some, None, codes, decimal, Option}
use Rattle.form.specs.declared.cue.Cue as the_cue
use Rattle.form.specs.declared.still.Still as the_still
use Rattle.form.specs.declared.item.Item.{Item}
use Rattle.form.specs.declared.item.Item.TheVariants.{Cue, Still}

-- a field that stands: a blank, its name, `=` and its number; nothing of an absent one
abbrev pub field_text : List ℕ → Option ℕ → List ℕ
field_text name None = []
field_text name (Some n) = codes " " ++ name ++ codes "=" ++ decimal n

-- a text, then the fields that stand, with their names
abbrev pub fields_text : List ℕ → List (List ℕ) → List (Option ℕ) → List ℕ
fields_text before [] vs = before
fields_text before (n ∷ ns) [] = before
fields_text before (n ∷ ns) (v ∷ vs) = fields_text (before ++ field_text n v) ns vs

-- the name of a cue, and those of its fields
abbrev pub cue_name : List ℕ
cue_name = codes "cue"

abbrev pub cue_names : List (List ℕ)
cue_names = codes "start" ∷ codes "projector" ∷ codes "level" ∷ codes "fade" ∷ []

-- `cue`, then the fields that stand, lowest bit first
abbrev pub cue_text : the_cue.Cue → List ℕ
cue_text c = codes "cue" ++ field_text (codes "start") c.start ++ field_text (codes "projector") c.projector ++ field_text (codes "level") c.level ++ field_text (codes "fade") c.fade

-- the name of a still, and those of its fields
abbrev pub still_name : List ℕ
still_name = codes "still"

abbrev pub still_names : List (List ℕ)
still_names = codes "slide" ∷ codes "projector" ∷ codes "width" ∷ codes "hold" ∷ []

-- `still`, then the fields that stand, lowest bit first
abbrev pub still_text : the_still.Still → List ℕ
still_text s = codes "still" ++ field_text (codes "slide") s.slide ++ field_text (codes "projector") s.projector ++ field_text (codes "width") s.width ++ field_text (codes "hold") s.hold

-- the text of an item: that of its cue or still
abbrev pub item_text : Item → List ℕ
item_text (Cue c) = cue_text c
item_text (Still s) = still_text s
