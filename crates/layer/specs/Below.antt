-- What a holding layer does to the medium below.
use Rattle.std.specs.Prelude.{◌≡◌, ℕ, ◌<◌, Bool, false, ◌||◌, ◌⊎◌, List, [], ◌∷◌, length, is_some, Ok, Err, MatchBool, Result, nat_lt, slice_index_or}
use Rattle.octets.specs.Parts.{patched}
use Rattle.medium.specs.declared.fault.MediumFault.{MediumFault}
use Rattle.medium.specs.declared.fault.MediumFault.TheVariants.{BadRun, Stopped}
use Rattle.medium.specs.Cuts.{CutMedium}
use Rattle.medium.specs.Meaning.{Meaning, Settled, Settles, Wrote, good}
use Rattle.layer.specs.Distinct.{look}
use Rattle.layer.specs.Holds.{holds, images, put}
use Rattle.layer.specs.declared.held.Held.{Held}
use Rattle.layer.specs.declared.holding.Holding.{Holding}

-- an image goes below: its page is written whole. (A page that the medium does not have is passed over.)
abbrev pub Went : {M : Type 0} → (M → Meaning) → Held → M → M → Type 0
Went meaning h a b = MatchBool (nat_lt h.page (meaning a).pages) (Wrote (meaning a) (meaning b) h.page 0 h.image (Ok tt)) (b ≡ a)

-- the medium stops as an image goes below
abbrev pub Stuck : {M : Type 0} → (M → Meaning) → Held → M → M → Type 0
Stuck meaning h a b = ((meaning a).stopped ≡ false) × Wrote (meaning a) (meaning b) h.page 0 h.image (Err Stopped)

-- image i goes below, or the medium stops as it does
abbrev pub Lowers : {M : Type 0} → (M → Meaning) → List Held → ℕ → M → M → Result (Unit {0}) MediumFault → Type 0
Lowers meaning hs i a b (Ok _) = (h : Held) × (h ≡ slice_index_or hs i h) × Went meaning h a b
Lowers meaning hs i a b (Err e) = (h : Held) × (h ≡ slice_index_or hs i h) × (e ≡ Stopped) × Stuck meaning h a b

-- the image held longest goes below, and is then held no longer; where the medium stops, all are still held
abbrev pub Evicts : {M : Type 0} → (M → Meaning) → List Held → M → List Held → M → Result (Unit {0}) MediumFault → Type 0
Evicts meaning [] a gs b r = ⊥
Evicts meaning (h ∷ hs) a gs b (Ok _) = (gs ≡ hs) × Went meaning h a b
Evicts meaning (h ∷ hs) a gs b (Err e) = (e ≡ Stopped) × (gs ≡ h ∷ hs) × Stuck meaning h a b

-- all images go below, the one held longest first
abbrev pub Flushes : {M : Type 0} → (M → Meaning) → List Held → M → M → Type 0
Flushes meaning [] a b = b ≡ a
Flushes {M} meaning (h ∷ hs) a b = (x : M) × Went meaning h a x × Flushes meaning hs x b

-- the images go below in that order until the medium stops, and the others are still held
abbrev pub Halts : {M : Type 0} → (M → Meaning) → List Held → M → List Held → M → Type 0
Halts meaning [] a gs b = ⊥
Halts {M} meaning (h ∷ hs) a gs b = ((gs ≡ h ∷ hs) × Stuck meaning h a b) ⊎ ((x : M) × Went meaning h a x × Halts meaning hs x gs b)

-- all images go below, and none is held then; or some, and the medium stops
abbrev pub Flushed : {M : Type 0} → (M → Meaning) → List Held → M → List Held → M → Result (Unit {0}) MediumFault → Type 0
Flushed meaning hs a gs b (Ok _) = (gs ≡ []) × Flushes meaning hs a b
Flushed meaning hs a gs b (Err e) = (e ≡ Stopped) × Halts meaning hs a gs b

-- where there is room, nothing happens, and else the image held longest goes below
abbrev pub MadeRoom : {M : Type 0} → (M → Meaning) → Bool → List Held → M → List Held → M → Result (Unit {0}) MediumFault → Type 0
MadeRoom meaning room hs a gs b r = MatchBool room ((r ≡ Ok tt) × (gs ≡ hs) × (b ≡ a)) (Evicts meaning hs a gs b r)

-- whether a page can be held with no other going below: it is held, or fewer than eight are
abbrev pub room : List Held → ℕ → Bool
room hs p = is_some (look hs p) || nat_lt (length hs) 8

-- what a write does: room is made, and then the page's image with the run put in is held
abbrev pub Puts : {M : Type 0} → (M → Meaning) → List Held → M → List Held → M → ℕ → ℕ → List ℕ → Result (Unit {0}) MediumFault → Type 0
Puts meaning hs a gs b p s bytes (Ok _) =
    (x : Held) × (x.page ≡ p) × (x.image ≡ patched ((holds (meaning a) hs).shown p) s bytes)
    × ((ks : List Held) × MadeRoom meaning (room hs p) hs a ks b (Ok tt) × (gs ≡ put ks x))
Puts meaning hs a gs b p s bytes (Err BadRun) = (good (meaning a).pages p s (length bytes) ≡ false) × (gs ≡ hs) × (b ≡ a)
Puts meaning hs a gs b p s bytes (Err Stopped) =
    MatchBool (meaning a).stopped ((gs ≡ hs) × (b ≡ a)) (MadeRoom meaning (room hs p) hs a gs b (Err Stopped))

-- what a settle does: every image goes below, the one held longest first, and then the medium below is settled
abbrev pub Drains : {M : Type 0} → (M → Meaning) → List Held → M → List Held → M → Result (Unit {0}) MediumFault → Type 0
Drains {M} meaning hs a gs b (Ok _) = (gs ≡ []) × ((x : M) × Flushes meaning hs a x × Settled (meaning x) (meaning b) (Ok tt))
Drains {M} meaning hs a gs b (Err e) =
    MatchBool (meaning a).stopped ((e ≡ Stopped) × (gs ≡ hs) × (b ≡ a))
    (Flushed meaning hs a gs b (Err e) ⊎ ((gs ≡ []) × ((x : M) × Flushes meaning hs a x × Settled (meaning x) (meaning b) (Err e))))

-- what is below is what was shown above, for good
pub record Landed (above below : Meaning) : Type 0 where
  pub shown : (p : ℕ) → p < above.pages → below.shown p ≡ above.shown p
  pub only : Settles below

-- exactly what a cut of a holding layer does: what is held is lost, and the medium below is cut, as that medium is
pub record HoldingCuts {M : Type 0} (meaning : M → Meaning) (cuts : M → M → Type 0) (a b : Holding M) : Type 0 where
  pub lost : images b ≡ []
  pub below : CutMedium (meaning a.medium) (meaning b.medium)
  pub exactly : cuts a.medium b.medium
