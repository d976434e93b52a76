-- A medium with page images held over it.
use Rattle.std.specs.Prelude.{◌≡◌, ℕ, ◌<◌, Bool, true, false, cond, ◌⊎◌, List, [], ◌∷◌, length, Some, None, Option, MatchOption, ◌==◌, nat_lt, slice_index_or, slice_set, refl}
use Rattle.std.proofs.Common.{inl, inr}
use Rattle.std.specs.Borrow.{MutBor}
use Rattle.std.specs.Option.{unwrap_or}
use Rattle.octets.specs.Files.{word}
use Rattle.medium.specs.Meaning.{Meaning, Sized, Shows}
use Rattle.layer.specs.Distinct.{look}
use Rattle.layer.specs.declared.held.Held.{Held}
use Rattle.layer.specs.declared.holding.Holding.{Holding}

-- a medium with images over some of its pages: such a page is shown as its image, and each of its 256 words may be left as
-- below or as in the image
abbrev pub over : Meaning → (ℕ → Option (List ℕ)) → Meaning
over m image = record {
  pages = m.pages;
  stopped = m.stopped;
  shown = λ p. unwrap_or (image p) (m.shown p);
  possible = λ p k w. m.possible p k w ⊎ MatchOption (image p) ⊥ (λ x. (k < 256) × (w ≡ word x k));
}

-- the image that is held of a page of the medium
abbrev pub image_of : Meaning → List Held → ℕ → Option (List ℕ)
image_of m hs p = cond (nat_lt p m.pages) (look hs p) None

-- a medium with these images held over it
abbrev pub holds : Meaning → List Held → Meaning
holds m hs = over m (image_of m hs)

-- a page shown has 1,024 bytes, held or not
full_image : (hs : List Held) (p : ℕ) (d : List ℕ) (t : Bool) → length d ≡ 1024 → length (unwrap_or (cond t (look hs p) None) d) ≡ 1024
full_image hs p d false e = e
full_image [] p d true e = e
full_image (h ∷ hs) p d true e =
    elim (h.page == p) as (λ t. length (unwrap_or (cond t (Some h.image) (look hs p)) d) ≡ 1024) [ true ↦ h.full | false ↦ full_image hs p d true e ]

-- every page has 1,024 bytes still
pub holds_sized : (m : Meaning) (hs : List Held) → Sized m → Sized (holds m hs)
holds_sized m hs h = record { full = λ p l. full_image hs p (m.shown p) (nat_lt p m.pages) (h.full p l) }

-- a word is shown as one that may be left: as in the image if there is one, else as below
shown_possible : (P : List ℕ → Type 0) (o : Option (List ℕ)) (d : List ℕ) (k : ℕ) → k < 256 → P (word d k)
    → P (word (unwrap_or o d) k) ⊎ MatchOption o ⊥ (λ x. (k < 256) × (word (unwrap_or o d) k ≡ word x k))
shown_possible P None d k l h = inl h
shown_possible P (Some x) d k l h = inr (l, refl)

-- what is shown may still be left, while the medium runs
pub over_shows : (m : Meaning) (image : ℕ → Option (List ℕ)) → Shows m → Shows (over m image)
over_shows m image h = record {
  shown_possible = λ runs p k l less. shown_possible (m.possible p k) (image p) (m.shown p) k less (h.shown_possible runs p k l less);
}

-- the images that a layer holds
abbrev pub images : {M : Type 0} → Holding M → List Held
images l = l.held.items

-- what a holding layer means, with what the medium below means
abbrev pub layered : {M : Type 0} → (M → Meaning) → Holding M → Meaning
layered meaning l = holds (meaning l.medium) (images l)

-- the medium below has not stopped
abbrev pub Runs : {M : Type 0} → (M → Meaning) → Holding M → Type 0
Runs meaning l = (meaning l.medium).stopped ≡ false

-- images with one more: in the place of the image of the same page, and else last
abbrev pub put : List Held → Held → List Held
put [] x = x ∷ []
put (h ∷ hs) x = cond (h.page == x.page) (x ∷ hs) (h ∷ put hs x)

-- where a page is held: nowhere, or at place i, where another image of it would be put
abbrev pub Placed : List Held → ℕ → Option ℕ → Type 0
Placed hs p None = look hs p ≡ None
Placed hs p (Some i) =
    (i < length hs) × ((d : Held) → ((slice_index_or hs i d).page ≡ p) × (look hs p ≡ Some (slice_index_or hs i d).image))
    × ((x : Held) → x.page ≡ p → slice_set hs i x ≡ put hs x)

-- what is run over a holding layer, with a state lent to it: it was given one that holds nothing, and below what it left is
-- what is there now
abbrev pub HeldBack : {M S R : Type 0} → (Holding M → MutBor S → Holding M × R → MutBor S → Type 0) → M → S → M × R → S → Type 0
HeldBack {M} {S} ran m s (n, r) t =
    (v : Holding M) × (w : Holding M) × (x : MutBor S) × (y : MutBor S) × (v.medium ≡ m) × (images v ≡ []) × (w.medium ≡ n)
    × (x.now ≡ s) × (y.now ≡ t) × ran v x (w, r) y
