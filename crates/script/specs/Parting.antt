-- A text in two at a byte's first place.
use Rattle.std.specs.Prelude.{ℕ, ◌+◌, cond, List, [], ◌∷◌, length, Some, None, Option, ◌==◌, Bool, ◌||◌, bytes_eq, codes}
use Rattle.std.specs.Option.{option_map}
use Rattle.script.specs.declared.words.Words.{Words}
use Rattle.script.specs.Spelled.{number_of}

-- the bytes before the first `mark`, or all
abbrev pub up_to : ℕ → List ℕ → List ℕ
up_to mark [] = []
up_to mark (b ∷ bs) = cond (b == mark) [] (b ∷ up_to mark bs)

-- those after it, if it is there
abbrev pub after : ℕ → List ℕ → Option (List ℕ)
after mark [] = None
after mark (b ∷ bs) = cond (b == mark) (Some bs) (after mark bs)

-- what is left of a line whose words are read
abbrev pub left_of : Words → Option (List ℕ)
left_of words = option_map (λ x. x.now) words.rest

-- the next word of what is left of a line
abbrev pub next_of : Option (List ℕ) → Option (List ℕ)
next_of left = option_map (up_to 32) left

-- what comes after the next word of what is left of a line
abbrev pub after_word : Option (List ℕ) → Option (List ℕ)
after_word None = None
after_word (Some left) = after 32 left

-- more than the words of what is left of a line: a word goes with a byte, or with the end
abbrev pub words_left : Option (List ℕ) → ℕ
words_left None = 0
words_left (Some left) = length left + 1

-- what comes after the next line of what is left of a text: nothing, where no line feed ends it
abbrev pub or_nothing : Option (List ℕ) → List ℕ
or_nothing None = []
or_nothing (Some left) = left

abbrev pub after_line : List ℕ → List ℕ
after_line left = or_nothing (after 10 left)

-- the number that the next word of what is left of a line spells
abbrev pub word_number : Option (List ℕ) → Option ℕ
word_number None = None
word_number (Some left) = number_of (up_to 32 left)

-- whether the first word of a line is `use` or `again`
abbrev pub begins_use : List ℕ → Bool
begins_use line = bytes_eq (up_to 32 line) (codes "use") || bytes_eq (up_to 32 line) (codes "again")
