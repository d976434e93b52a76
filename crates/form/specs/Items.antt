-- Cues and stills as the forms of one list. The kind of a cue is 0, of a still 1.
use Rattle.std.specs.Prelude.{◌≡◌, ℕ, zero, suc, List, Ok, Err, Result, refl}
use Rattle.form.specs.declared.form.BadByte.{BadByte}
use Rattle.form.specs.declared.item.Item.{Item}
use Rattle.form.specs.declared.item.Item.TheVariants.{Cue, Still}
use Rattle.form.specs.declared.item.ItemKind.{ItemKind}
use Rattle.form.specs.declared.item.ItemKind.TheVariants.{Cue as ACue, Still as AStill}
use Rattle.form.specs.Cues.{cue_bytes, cue_reads}
use Rattle.form.specs.Stills.{still_bytes, still_reads}
use Rattle.form.specs.Wraps.{wrapped, reads_numbered}

-- the kind of an item
abbrev pub item_kind : Item → ℕ
item_kind (Cue c) = 0
item_kind (Still s) = 1

-- the bytes of an item: those of its cue or still
abbrev pub item_bytes : Item → List ℕ
item_bytes (Cue c) = cue_bytes c
item_bytes (Still s) = still_bytes s

-- the item that bytes stand for under a kind, or their first bad byte: byte 0 under a kind that is not an item's
abbrev pub item_reads : ℕ → List ℕ → Result Item BadByte
item_reads zero b = wrapped Cue (cue_reads b)
item_reads (suc zero) b = wrapped Still (still_reads b)
item_reads (suc (suc k)) b = Err (record { at = 0 })

-- what an item is
abbrev pub item_form : Item → ItemKind
item_form (Cue c) = ACue
item_form (Still s) = AStill

-- the item that bytes stand for under a kind, or their first bad byte
abbrev pub item_reads_as : ItemKind → List ℕ → Result Item BadByte
item_reads_as ACue b = wrapped Cue (cue_reads b)
item_reads_as AStill b = wrapped Still (still_reads b)

-- a kind's number
abbrev pub kind_number : ItemKind → ℕ
kind_number ACue = 0
kind_number AStill = 1

-- the kind with a number, or else byte 0 is bad
abbrev pub kind_numbered : ℕ → Result ItemKind BadByte
kind_numbered zero = Ok ACue
kind_numbered (suc zero) = Ok AStill
kind_numbered (suc (suc k)) = Err (record { at = 0 })

-- an item's kind has the kind's number
pub item_kind_is : (i : Item) → item_kind i ≡ kind_number (item_form i)
item_kind_is (Cue c) = refl
item_kind_is (Still s) = refl

-- under a kind's number bytes are read as under the kind
pub item_reads_is : (k : ItemKind) (b : List ℕ) → item_reads (kind_number k) b ≡ item_reads_as k b
item_reads_is ACue b = refl
item_reads_is AStill b = refl

-- and under any number as it says, be it a kind's or not
pub item_numbered_is : (n : ℕ) (b : List ℕ) → reads_numbered kind_numbered item_reads_as n b ≡ item_reads n b
item_numbered_is zero b = refl
item_numbered_is (suc zero) b = refl
item_numbered_is (suc (suc k)) b = refl
