-- What the words of a line are read as, by what is left of it before the reading, and after it.
use Rattle.std.specs.Prelude.{◌≡◌, ℕ, List, Some, Option, codes}
use Rattle.form.specs.declared.item.Item.{Item}
use Rattle.form.specs.declared.item.ItemKind.{ItemKind}
use Rattle.form.specs.declared.item.ItemKind.TheVariants.{Cue, Still}
use Rattle.book.specs.declared.call.Call.{Call}
use Rattle.book.specs.declared.call.Call.TheVariants.{Open, Begin, Put, Change, Remove, Look, Next, Save, Abandon, PutForm, ChangeForm, LookForm}
use Rattle.script.specs.Parting.{after_word, next_of, word_number}
use Rattle.script.specs.Spelled.{hex_of}
use Rattle.script.specs.declared.script.Layers.{Layers}
use Rattle.script.specs.declared.script.Layers.TheVariants.{Bare, Window, Hold, WindowHold, HoldWindow}
use Rattle.script.specs.declared.script.Poke.{Poke}
use Rattle.script.specs.declared.script.Span.{Span}

-- a window's two numbers
abbrev pub SpanAt : Option (List ℕ) → Span → Type 0
SpanAt left span = (word_number left ≡ Some span.first) × (word_number (after_word left) ≡ Some span.count)

-- the layers over a trial medium, up to its name
abbrev pub LayersAt : List ℕ → Option (List ℕ) → Layers → Option (List ℕ) → Type 0
LayersAt name left Bare behind = (name ≡ codes "trial") × (behind ≡ left)
LayersAt name left (Window span) behind =
    (name ≡ codes "window") × SpanAt left span × (next_of (after_word (after_word left)) ≡ Some (codes "trial"))
    × (behind ≡ after_word (after_word (after_word left)))
LayersAt name left Hold behind = (name ≡ codes "hold") × (next_of left ≡ Some (codes "trial")) × (behind ≡ after_word left)
LayersAt name left (WindowHold span) behind =
    (name ≡ codes "window") × SpanAt left span × (next_of (after_word (after_word left)) ≡ Some (codes "hold"))
    × (next_of (after_word (after_word (after_word left))) ≡ Some (codes "trial")) × (behind ≡ after_word (after_word (after_word (after_word left))))
LayersAt name left (HoldWindow span) behind =
    (name ≡ codes "hold") × (next_of left ≡ Some (codes "window")) × SpanAt (after_word left) span
    × (next_of (after_word (after_word (after_word left))) ≡ Some (codes "trial")) × (behind ≡ after_word (after_word (after_word (after_word left))))

-- the word of a kind
abbrev pub kind_word : ItemKind → List ℕ
kind_word Cue = codes "cue"
kind_word Still = codes "still"

-- a call that gives no value
abbrev pub PlainAt : List ℕ → Option (List ℕ) → Call Item ItemKind → Type 0
PlainAt name left Open = name ≡ codes "open"
PlainAt name left Begin = name ≡ codes "begin"
PlainAt name left (Put slip key value) = ⊥
PlainAt name left (Change slip key value) = ⊥
PlainAt name left (Remove slip key) = (name ≡ codes "remove") × (word_number left ≡ Some slip) × (word_number (after_word left) ≡ Some key)
PlainAt name left (Look key) = (name ≡ codes "look") × (word_number left ≡ Some key)
PlainAt name left (Next least) = (name ≡ codes "next") × (word_number left ≡ Some least)
PlainAt name left (Save slip) = (name ≡ codes "save") × (word_number left ≡ Some slip)
PlainAt name left (Abandon slip) = (name ≡ codes "abandon") × (word_number left ≡ Some slip)
PlainAt name left (PutForm slip key value) = ⊥
PlainAt name left (ChangeForm slip key value) = ⊥
PlainAt name left (LookForm key kind) = (name ≡ codes "look") × (word_number left ≡ Some key) × (next_of (after_word left) ≡ Some (kind_word kind))

-- a poke
abbrev pub PokeAt : Option (List ℕ) → Poke → Type 0
PokeAt left poke =
    (word_number left ≡ Some poke.page) × (word_number (after_word left) ≡ Some poke.offset)
    × ((word : List ℕ) × (next_of (after_word (after_word left)) ≡ Some word) × (hex_of word ≡ Some poke.bytes.items))
