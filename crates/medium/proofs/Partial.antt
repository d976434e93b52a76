-- Runs of which only some words are put.
use Rattle.std.proofs.Common.{◌≡◌, ℕ, ◌+◌, ◌-◌, ◌*◌, ◌/◌, ◌%◌, ◌^◌, ◌<◌, ◌≤◌, cond, ◌⊎◌, List, [], ◌++◌, length, get_or, take, drop, sym, refl, ap, ◌∙◌, inl, inr, ⊎_elim, length-append, length-drop, arith}
use Rattle.std.proofs.lemmas.List.{drop-drop, get_or-take, length-take-le}
use Rattle.std.proofs.Math.Seq.{drop-append_seam, take-append_seam}
use Rattle.std.proofs.lemmas.Bool.{cases_Bool, cases_lt, cond-true, cond-false, eq-eqb, ne_eqb}
use Rattle.octets.specs.Parts.{part, patched}
use Rattle.octets.proofs.Agreeing.{get_d_part, part_same}
use Rattle.octets.proofs.Patches.{length_part, length_patched, patched_inside, patched_beside}
use Rattle.octets.proofs.Words.{part_inside}
use Rattle.medium.specs.Trials.{Partly, stands}

-- nothing of a run
pub partly_nothing : (pattern start : ℕ) (bytes : List ℕ) → Partly pattern start [] bytes bytes
partly_nothing pattern start bytes = record { long = refl; inside = λ k l. absurd (omega arith); beside = λ k side. refl }

-- k words of a run are done, and the bytes to come are these
pub record Ahead (y : List ℕ) (size k : ℕ) (next : List ℕ) : Type 0 where
  pub four : size ≡ 4
  pub within : 4 * k ≤ length y
  pub rest : next ≡ drop (4 * k) y

-- the next word w, and what is to come after it
pub record More (y : List ℕ) (size k : ℕ) (w more : List ℕ) : Type 0 where
  pub room : 4 * k + 4 ≤ length y
  pub word : w ≡ part y (4 * k) 4
  pub ahead : Ahead y size (k + 1) more

pub ahead_more : (y : List ℕ) (size k : ℕ) (next w more : List ℕ) → Ahead y size k next → next ≡ w ++ more → length w ≡ size → More y size k w more
ahead_more y size k next w more h is long =
    let four : length w ≡ 4 = long ∙ h.four in
    let here : w ++ more ≡ drop (4 * k) y = sym is ∙ h.rest in
    let room : 4 * k + 4 ≤ length y = omega (arith, ap length here, length-drop (4 * k) y, length-append w more, four, h.within) in
    record {
      room = room;
      word = sym (take-append_seam w more) ∙ (λ j. take (four j) (here j));
      ahead = record {
        four = h.four;
        within = omega (arith, room);
        rest = sym (drop-append_seam w more) ∙ (λ j. drop (four j) (here j)) ∙ drop-drop 4 (4 * k) y ∙ ap (λ i. drop i y) (omega arith);
      };
    }

-- one word more of a run, which its bit has put or left
module _ (pattern start k : ℕ) (y old mid : List ℕ) (some : 4 * k + 4 ≤ length y) (fits : start + length y ≤ length old)
    (h : Partly pattern start (take (4 * k) y) old mid) where
  done : length (take (4 * k) y) ≡ 4 * k
  done = length-take-le (4 * k) y (omega arith)

  more : length (take (4 * (k + 1)) y) ≡ 4 * (k + 1)
  more = length-take-le (4 * (k + 1)) y (omega arith)

  -- byte i of the run, from the bytes before this word, and from the bytes before the run
  abbrev Put : List ℕ → ℕ → Type 0
  Put new i = get_or new (start + i) 0 ≡ cond (stands pattern k) (get_or y i 0) (get_or mid (start + i) 0)

  abbrev Is : List ℕ → ℕ → Type 0
  Is new i = get_or new (start + i) 0 ≡ cond (stands pattern (i / 4)) (get_or (take (4 * (k + 1)) y) i 0) (get_or old (start + i) 0)

  partly_more : (new : List ℕ) → length new ≡ length mid → ((i : ℕ) → 4 * k ≤ i → i < 4 * k + 4 → Put new i)
      → ((i : ℕ) → (i < start + 4 * k) ⊎ (start + 4 * k + 4 ≤ i) → get_or new i 0 ≡ get_or mid i 0)
      → Partly pattern start (take (4 * (k + 1)) y) old new
  partly_more new long here beside = record {
    long = long ∙ h.long;
    inside = λ i l. ⊎_elim (before i) (at i (omega (arith, more))) (cases_lt i (4 * k));
    beside = λ i side.
        beside i (⊎_elim (λ l. inl (omega arith)) (λ l. inr (omega (arith, more))) side)
        ∙ h.beside i (⊎_elim inl (λ l. inr (omega (arith, done, more))) side);
  }
    where
      before : (i : ℕ) → i < 4 * k → Is new i
      before i l =
          beside (start + i) (inl (omega arith)) ∙ h.inside i (omega (arith, done))
          ∙ ap (λ x. cond (stands pattern (i / 4)) x (get_or old (start + i) 0)) (get_or-take (4 * k) y i 0 l ∙ sym (get_or-take (4 * (k + 1)) y i 0 (omega arith)))

      at : (i : ℕ) → i < 4 * (k + 1) → 4 * k ≤ i → Is new i
      at i l low =
          let bit : k ≡ i / 4 = omega arith in
          let new-byte : get_or y i 0 ≡ get_or (take (4 * (k + 1)) y) i 0 = sym (get_or-take (4 * (k + 1)) y i 0 l) in
          let old-byte : get_or mid (start + i) 0 ≡ get_or old (start + i) 0 = h.beside (start + i) (inr (omega (arith, done))) in
          here i low (omega arith) ∙ (λ j. cond (stands pattern (bit j)) (new-byte j) (old-byte j))

  pub partly_put : (new : List ℕ) → pattern / 2 ^ (k % 64) % 2 ≡ 1 → new ≡ patched mid (start + 4 * k) (part y (4 * k) 4)
      → Partly pattern start (take (4 * (k + 1)) y) old new
  partly_put new stood e =
      rw e
      (partly_more (patched mid (start + 4 * k) w) (length_patched mid w (start + 4 * k) room) here beside)
    where
      w : List ℕ
      w = part y (4 * k) 4

      four : length w ≡ 4
      four = length_part y (4 * k) 4 some

      room : start + 4 * k + length w ≤ length mid
      room = omega (arith, four, h.long)

      here : (i : ℕ) → 4 * k ≤ i → i < 4 * k + 4 → Put (patched mid (start + 4 * k) w) i
      here i low high =
          patched_inside mid w (start + 4 * k) room (start + i) (omega arith) (omega (arith, four))
          ∙ get_d_part y (4 * k) 4 (start + i - (start + 4 * k)) (omega arith) ∙ ap (λ j. get_or y j 0) (omega arith)
          ∙ sym (cond-true (stands pattern k) _ _ (eq-eqb _ 1 stood))

      beside : (i : ℕ) → (i < start + 4 * k) ⊎ (start + 4 * k + 4 ≤ i) → get_or (patched mid (start + 4 * k) w) i 0 ≡ get_or mid i 0
      beside i side = patched_beside mid w (start + 4 * k) room i (⊎_elim inl (λ l. inr (omega (arith, four))) side)

  pub partly_left : (new : List ℕ) → (pattern / 2 ^ (k % 64) % 2 ≡ 1 → ⊥) → new ≡ mid → Partly pattern start (take (4 * (k + 1)) y) old new
  partly_left new off e =
      partly_more new (ap length e)
      (λ i low high. ap (λ x. get_or x (start + i) 0) e ∙ sym (cond-false (stands pattern k) (get_or y i 0) (get_or mid (start + i) 0) (ne_eqb _ 1 off)))
      (λ i side. ap (λ x. get_or x i 0) e)

-- a run of which each word is put or left
pub record Mixed (start : ℕ) (y old new : List ℕ) : Type 0 where
  pub long : length new ≡ length old
  pub inside : (j : ℕ) → 4 * j < length y → (part new (start + 4 * j) 4 ≡ part y (4 * j) 4) ⊎ (part new (start + 4 * j) 4 ≡ part old (start + 4 * j) 4)
  pub beside : (i : ℕ) → (i < start) ⊎ (start + length y ≤ i) → get_or new i 0 ≡ get_or old i 0

pub mixed_patched : (start : ℕ) (y old : List ℕ) → length y % 4 ≡ 0 → start + length y ≤ length old → Mixed start y old (patched old start y)
mixed_patched start y old whole fits = record {
  long = length_patched old y start fits;
  inside = λ j l. inl (part_inside old y start (4 * j) 4 fits (omega arith));
  beside = patched_beside old y start fits;
}

pub mixed_partly : (pattern start : ℕ) (y old new : List ℕ) → length y % 4 ≡ 0 → start + length y ≤ length old
    → Partly pattern start y old new → Mixed start y old new
mixed_partly pattern start y old new whole fits h = record {
  long = h.long;
  inside = λ j l. ⊎_elim
      (λ e. inl (word_is j (4 * j) y l (omega arith) (λ k. cond-true (stands pattern j) _ _ e)))
      (λ e. inr (word_is j (start + 4 * j) old l (omega arith) (λ k. cond-false (stands pattern j) _ _ e)))
      (cases_Bool (stands pattern j));
  beside = h.beside;
}
  where
    inside : (j i : ℕ) → 4 * j < length y → i < 4
        → get_or new (start + 4 * j + i) 0 ≡ cond (stands pattern j) (get_or y (4 * j + i) 0) (get_or old (start + 4 * j + i) 0)
    inside j i l m =
        let bit : (4 * j + i) / 4 ≡ j = omega arith in
        let place : start + (4 * j + i) ≡ start + 4 * j + i = omega arith in
        ap (λ x. get_or new x 0) (sym place) ∙ h.inside (4 * j + i) (omega arith)
        ∙ (λ t. cond (stands pattern (bit t)) (get_or y (4 * j + i) 0) (get_or old (place t) 0))

    word_is : (j i : ℕ) (from : List ℕ) → 4 * j < length y → i + 4 ≤ length from
        → ((k : ℕ) → cond (stands pattern j) (get_or y (4 * j + k) 0) (get_or old (start + 4 * j + k) 0) ≡ get_or from (i + k) 0)
        → part new (start + 4 * j) 4 ≡ part from i 4
    word_is j i from l room same =
        part_same new from (start + 4 * j) i 4 (length_part new (start + 4 * j) 4 (omega (arith, h.long)) ∙ sym (length_part from i 4 room))
        (λ k m r. inside j k l m ∙ same k)
