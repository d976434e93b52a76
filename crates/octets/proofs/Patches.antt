-- Bytes with others in their place.
use Rattle.std.proofs.Common.{◌≡◌, ℕ, ◌+◌, ◌-◌, ◌<◌, ◌≤◌, ◌⊎◌, List, ◌++◌, length, get_or, take, drop, sym, refl, ap, ◌∙◌, inl, inr, ⊎_elim, arith, length-append, length-drop}
use borrow.Rule.Slice.PartMut.{put_mid}
use Rattle.std.proofs.lemmas.List.{drop-drop, get_or_append_left, get_or-append_right, get_or-take, get_or-drop, length-take-le, ext_get_or}
use Rattle.std.proofs.lemmas.Bool.{cases_lt}
use Rattle.octets.specs.Parts.{part, patched}
use Rattle.octets.proofs.Agreeing.{get_d_part, part_agrees}

pub put_mid_patched : (a k : ℕ) (xs ys zs : List ℕ) → ys ≡ zs → k ≡ length zs → put_mid a k xs ys ≡ patched xs a zs
put_mid_patched a k xs ys zs e l = rw (e, l, drop-drop (length zs) a xs)

module _ (b y : List ℕ) (s : ℕ) (fits : s + length y ≤ length b) where
  front : length (take s b) ≡ s
  front = length-take-le s b (omega arith)

  pub length_patched : length (patched b s y) ≡ length b
  length_patched =
      length-append (take s b) (y ++ drop (s + length y) b)
      ∙ omega (arith, length-append y (drop (s + length y) b), length-drop (s + length y) b, front)

  -- a byte before, inside and after what was put in
  pub patched_below : (k : ℕ) → k < s → get_or (patched b s y) k 0 ≡ get_or b k 0
  patched_below k h = get_or_append_left (take s b) (y ++ drop (s + length y) b) 0 k (omega (arith, front)) ∙ get_or-take s b k 0 h

  pub patched_inside : (k : ℕ) → s ≤ k → k < s + length y → get_or (patched b s y) k 0 ≡ get_or y (k - s) 0
  patched_inside k l h =
      get_or-append_right (take s b) (y ++ drop (s + length y) b) s k 0 front l ∙ get_or_append_left y (drop (s + length y) b) 0 (k - s) (omega arith)

  pub patched_above : (k : ℕ) → s + length y ≤ k → get_or (patched b s y) k 0 ≡ get_or b k 0
  patched_above k l =
      get_or-append_right (take s b) (y ++ drop (s + length y) b) s k 0 front (omega arith)
      ∙ get_or-append_right y (drop (s + length y) b) (length y) (k - s) 0 refl (omega arith)
      ∙ get_or-drop (s + length y) b (k - s - length y) 0 ∙ ap (λ i. get_or b i 0) (omega arith)

  pub patched_beside : (k : ℕ) → (k < s) ⊎ (s + length y ≤ k) → get_or (patched b s y) k 0 ≡ get_or b k 0
  patched_beside k = ⊎_elim (patched_below k) (patched_above k)

  -- a part that what was put in does not touch
  pub part_beside : (i n : ℕ) → (i + n ≤ s) ⊎ (s + length y ≤ i) → part (patched b s y) i n ≡ part b i n
  part_beside i n h =
      part_agrees (patched b s y) b i n length_patched (λ k l m. patched_beside k (⊎_elim (λ e. inl (omega arith)) (λ e. inr (omega arith)) h))

pub length_part : (b : List ℕ) (i n : ℕ) → i + n ≤ length b → length (part b i n) ≡ n
length_part b i n h = length-take-le n (drop i b) (omega (arith, length-drop i b))

-- a part that holds all that was put in
module _ (b y : List ℕ) (s i n : ℕ) (low : i ≤ s) (high : s + length y ≤ i + n) (room : i + n ≤ length b) where
  outer : s + length y ≤ length b
  outer = omega arith

  inner : s - i + length y ≤ length (part b i n)
  inner = omega (arith, length_part b i n room)

  round_at : (k : ℕ) → k < n → (i + k < s) ⊎ (s ≤ i + k) → (i + k < s + length y) ⊎ (s + length y ≤ i + k)
      → get_or (patched b s y) (i + k) 0 ≡ get_or (patched (part b i n) (s - i) y) k 0
  round_at k h (inl l) m =
      patched_below b y s outer (i + k) l ∙ sym (get_d_part b i n k h) ∙ sym (patched_below (part b i n) y (s - i) inner k (omega arith))
  round_at k h (inr l) (inl m) =
      patched_inside b y s outer (i + k) l m ∙ ap (λ j. get_or y j 0) (omega arith)
      ∙ sym (patched_inside (part b i n) y (s - i) inner k (omega arith) (omega arith))
  round_at k h (inr l) (inr m) =
      patched_above b y s outer (i + k) m ∙ sym (get_d_part b i n k h) ∙ sym (patched_above (part b i n) y (s - i) inner k (omega arith))

  pub part_round : part (patched b s y) i n ≡ patched (part b i n) (s - i) y
  part_round =
      ext_get_or 0 (part (patched b s y) i n) (patched (part b i n) (s - i) y)
      (omega (arith, length_part (patched b s y) i n (omega (arith, length_patched b y s outer)), length_patched (part b i n) y (s - i) inner, length_part b i n room))
      (λ k l. let h : k < n = omega (arith, length_part (patched b s y) i n (omega (arith, length_patched b y s outer))) in
      get_d_part (patched b s y) i n k h ∙ round_at k h (cases_lt (i + k) s) (cases_lt (i + k) (s + length y)))

-- a part that was put in is what was put in
pub part_patched : (b y : List ℕ) (s : ℕ) → s + length y ≤ length b → part (patched b s y) s (length y) ≡ y
part_patched b y s h =
    ext_get_or 0 (part (patched b s y) s (length y)) y (length_part (patched b s y) s (length y) (omega (arith, length_patched b y s h)))
    (λ k l. let less : k < length y = omega (arith, length_part (patched b s y) s (length y) (omega (arith, length_patched b y s h))) in
    get_d_part (patched b s y) s (length y) k less ∙ patched_inside b y s h (s + k) (omega arith) (omega arith) ∙ ap (λ j. get_or y j 0) (omega arith))
