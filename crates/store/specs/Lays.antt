-- Laying an empty file.
use Rattle.std.specs.Prelude.{◌≡◌, ℕ, ◌<◌, ◌≤◌, ◌⊎◌, List, [], ◌∷◌, length, take, replicate, Ok, Err, Result, ◌≢◌, slice_index}
use Rattle.std.specs.List.{range_with_len}
use Rattle.octets.specs.Numbers.{spell}
use Rattle.octets.specs.Parts.{patched}
use Rattle.medium.specs.declared.fault.MediumFault.{MediumFault}
use Rattle.medium.specs.Meaning.{Meaning, Settled, Wrote}
use Rattle.store.specs.declared.refusal.Refusal.{Refusal}
use Rattle.store.specs.declared.refusal.Refusal.TheVariants.{WorkPage, PageCount, NotAShowFile, Unsound, Medium, NotOpen, EditOpen, NoEdit, LastCounter, TooLong, TooMany, KeyInDraft, NoSuchKey, DraftFull, NoPlace}
use Rattle.store.specs.declared.refusal.Step.TheVariants.{Settle, Write}
use Rattle.store.specs.declared.state.State.{State}
use Rattle.store.specs.declared.state.State.TheVariants.{Shut}
use Rattle.store.specs.Opens.{Idle}

-- a page of zeros
unfoldable pub zero_page : List ℕ
zero_page = replicate 1024 0

-- a page that says in its first words that it is of form 1, and how many pages there are
unfoldable pub named : List ℕ → ℕ → List ℕ
named page pages = patched (patched page 0 (spell 4 1)) 4 (spell 4 pages)

-- the first page of an empty file of so many pages: its counter is 0
abbrev pub first_image : ℕ → List ℕ
first_image pages = named zero_page pages

-- whether a file of so many pages can be laid, in the order of the refusals
abbrev pub CanLay : Meaning → State → ℕ → ℕ → Type 0
CanLay m s size pages = (size ≡ 1024) × Idle s × (2 ≤ pages) × (pages ≤ 4096) × (pages ≤ m.pages)

-- an image is written to pages one after the other
abbrev pub Writes : {M : Type 0} → (M → Meaning) → List ℕ → List ℕ → M → M → Type 0
Writes meaning image [] a b = b ≡ a
Writes {M} meaning image (q ∷ qs) a b = (x : M) × Wrote (meaning a) (meaning x) q 0 image (Ok tt) × Writes meaning image qs x b

-- a write of an image to a page, refused
abbrev pub WriteDenied : {M : Type 0} → (M → Meaning) → List ℕ → ℕ → M → M → Refusal → Type 0
WriteDenied meaning image q a b e = (f : MediumFault) × (e ≡ Medium Write q f) × Wrote (meaning a) (meaning b) q 0 image (Err f)

abbrev pub SettleDenied : {M : Type 0} → (M → Meaning) → M → M → Refusal → Type 0
SettleDenied meaning a b e = (f : MediumFault) × (e ≡ Medium Settle 0 f) × Settled (meaning a) (meaning b) (Err f)

-- of these pages some are written, and then one is refused
abbrev pub WritesUntil : {M : Type 0} → (M → Meaning) → List ℕ → List ℕ → M → M → Refusal → Type 0
WritesUntil {M} meaning image qs a b e =
    (i : ℕ) × (i < length qs) × ((x : M) × Writes meaning image (take i qs) a x × WriteDenied meaning image (slice_index qs i) x b e)

-- the pages are written with zeros, in order, and settled; or refused on the way
abbrev pub Zeroes : {M : Type 0} → (M → Meaning) → ℕ → M → M → Result (Unit {0}) Refusal → Type 0
Zeroes {M} meaning pages a b (Ok _) = (x : M) × Writes meaning zero_page (range_with_len 0 pages) a x × Settled (meaning x) (meaning b) (Ok tt)
Zeroes {M} meaning pages a b (Err e) =
    WritesUntil meaning zero_page (range_with_len 0 pages) a b e ⊎ ((x : M) × Writes meaning zero_page (range_with_len 0 pages) a x × SettleDenied meaning x b e)

-- the first page is written and settled; or refused on the way
abbrev pub Names : {M : Type 0} → (M → Meaning) → List ℕ → M → M → Result (Unit {0}) Refusal → Type 0
Names {M} meaning image a b (Ok _) = (x : M) × Wrote (meaning a) (meaning x) 0 0 image (Ok tt) × Settled (meaning x) (meaning b) (Ok tt)
Names {M} meaning image a b (Err e) =
    WriteDenied meaning image 0 a b e ⊎ ((x : M) × Wrote (meaning a) (meaning x) 0 0 image (Ok tt) × SettleDenied meaning x b e)

-- the medium refused, among the zeros or at the first page; the work page has the image that was offered last
abbrev pub LayStopped : {M : Type 0} → (M → Meaning) → ℕ → M → M → List ℕ → Refusal → Type 0
LayStopped {M} meaning pages a b new e =
    (Zeroes meaning pages a b (Err e) × (new ≡ zero_page))
    ⊎ ((x : M) × Zeroes meaning pages a x (Ok tt) × Names meaning (first_image pages) x b (Err e) × (new ≡ first_image pages))

-- laying: a and b are the medium before and after, s and t the state, work and new the work page
abbrev pub Lays : {M : Type 0} → (M → Meaning) → ℕ → M → M → State → State → List ℕ → List ℕ → Result (Unit {0}) Refusal → Type 0
Lays {M} meaning pages a b s t work new (Ok _) =
    CanLay (meaning a) s (length work) pages
    × ((x : M) × Zeroes meaning pages a x (Ok tt) × Names meaning (first_image pages) x b (Ok tt)) × (t ≡ Shut) × (new ≡ first_image pages)
Lays meaning pages a b s t work new (Err WorkPage) = (length work ≢ 1024) × (b ≡ a) × (t ≡ s) × (new ≡ work)
Lays meaning pages a b s t work new (Err EditOpen) = (length work ≡ 1024) × (Idle s → ⊥) × (b ≡ a) × (t ≡ s) × (new ≡ work)
Lays meaning pages a b s t work new (Err PageCount) =
    (length work ≡ 1024) × Idle s × ((2 ≤ pages) × (pages ≤ 4096) × (pages ≤ (meaning a).pages) → ⊥) × (b ≡ a) × (t ≡ s) × (new ≡ work)
Lays meaning pages a b s t work new (Err (Medium step p f)) =
    CanLay (meaning a) s (length work) pages × LayStopped meaning pages a b new (Medium step p f) × (t ≡ Shut)
Lays meaning pages a b s t work new (Err NotAShowFile) = ⊥
Lays meaning pages a b s t work new (Err (Unsound q)) = ⊥
Lays meaning pages a b s t work new (Err NotOpen) = ⊥
Lays meaning pages a b s t work new (Err NoEdit) = ⊥
Lays meaning pages a b s t work new (Err LastCounter) = ⊥
Lays meaning pages a b s t work new (Err TooLong) = ⊥
Lays meaning pages a b s t work new (Err TooMany) = ⊥
Lays meaning pages a b s t work new (Err KeyInDraft) = ⊥
Lays meaning pages a b s t work new (Err NoSuchKey) = ⊥
Lays meaning pages a b s t work new (Err DraftFull) = ⊥
Lays meaning pages a b s t work new (Err NoPlace) = ⊥
