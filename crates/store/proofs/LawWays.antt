-- What an opening and a laying say of the file that is shown.
use Rattle.std.proofs.Common.{◌≡◌, ℕ, zero, suc, ◌+◌, ◌-◌, ◌^◌, ◌<◌, ◌≤◌, ◌⊎◌, List, [], ◌∷◌, map, length, get_or, take, replicate, IfOk, Ok, Err, Result, sym, ap, ◌∙◌, subst, inl, inr, ⊎_elim, lt_of_le_of_lt, arith, lit<}
use Rattle.std.specs.List.{range_with_len}
use Rattle.std.specs.Option.{option_map}
use Rattle.std.proofs.lemmas.List.{drop-replicate, ext_get_or, length-replicate, take-replicate}
use Rattle.std.proofs.lemmas.Bool.{cases_lt}
use Rattle.octets.specs.Numbers.{big, spell}
use Rattle.octets.specs.Parts.{part, patched}
use Rattle.octets.proofs.Numbers.{big_spell, length_spell}
use Rattle.octets.proofs.Patches.{length_patched, part_beside, part_patched, patched_inside}
use Rattle.medium.specs.Cuts.{shown_file}
use Rattle.medium.specs.Meaning.{Meaning, Settled, Settles, Sized, Wrote}
use Rattle.medium.proofs.Runs.{good_tells}
use Rattle.layout.specs.declared.first.FirstPage.{FirstPage}
use Rattle.layout.specs.declared.header.Side.{Side}
use Rattle.layout.specs.declared.header.Side.TheVariants.{A, B}
use Rattle.layout.specs.Pages.{entry_of, header_of, number_of, records, saved_slots, side_of, slots_by}
use Rattle.layout.specs.Sound.{Fits, Sound, SoundFile, counter_of, form_of, pages_of}
use Rattle.store.specs.declared.refusal.Refusal.{Refusal}
use Rattle.store.specs.declared.refusal.Refusal.TheVariants.{WorkPage, PageCount, NotAShowFile, Unsound, Medium, NotOpen, EditOpen, NoEdit, LastCounter, TooLong, TooMany, KeyInDraft, NoSuchKey, DraftFull, NoPlace}
use Rattle.store.specs.declared.state.Opened.{Opened}
use Rattle.store.specs.declared.state.State.{State}
use Rattle.store.specs.Laws.{Laid, OpensSound}
use Rattle.store.specs.Lays.{Lays, Writes, first_image, named, zero_page}
use Rattle.store.specs.Opening.{SoundOn}
use Rattle.store.specs.Opens.{Checked, First, Opens}

-- a page that is sound by what the first page tells is sound by what was read of it, and the other way round
module _ (m : Meaning) (first : FirstPage) (q : ℕ) (f : First m first) where
  sound_to : SoundOn m first q → Sound (counter_of (m.shown 0)) (pages_of (m.shown 0)) q (m.shown q)
  sound_to h = subst (λ n. Sound (counter_of (m.shown 0)) n q (m.shown q)) f.2 (subst (λ n. Sound n first.pages q (m.shown q)) f.3 h)

  sound_from : Sound (counter_of (m.shown 0)) (pages_of (m.shown 0)) q (m.shown q) → SoundOn m first q
  sound_from h =
      subst (λ n. Sound n first.pages q (m.shown q)) (sym f.3) (subst (λ n. Sound (counter_of (m.shown 0)) n q (m.shown q)) (sym f.2) h)

-- a file whose pages were all checked is sound
checked_sound : (m : Meaning) (first : FirstPage) (work : List ℕ) → Checked m first work → SoundFile (shown_file m)
checked_sound m first work c = record {
  first = c.0.1;
  pages = λ q l h. sound_to m first q c.0 (c.1 q l (subst (λ n. q < n) (sym c.0.2) h));
}

-- a file with a page that is not sound is not sound
page_unsound : (m : Meaning) (first : FirstPage) (q : ℕ) → First m first → 1 ≤ q → q < first.pages → (SoundOn m first q → ⊥) → SoundFile (shown_file m) → ⊥
page_unsound m first q f l h never s = never (sound_from m first q f (s.pages q l (subst (λ n. q < n) f.2 h)))

-- a file of fewer than two pages is not sound
few_unsound : (m : Meaning) → m.pages < 2 → SoundFile (shown_file m) → ⊥
few_unsound m h s =
    let least : 2 ≤ pages_of (m.shown 0) = s.first.least in
    let there : pages_of (m.shown 0) ≤ m.pages = s.first.there in
    omega arith

-- what is opened is sound, and what is refused for what is shown is not
pub opens_sound : {M : Type 0} (meaning : M → Meaning) (a b : M) (s t : State) (work new : List ℕ) (r : Result Opened Refusal) → Opens meaning a b s t work new r → OpensSound (meaning a) r
opens_sound meaning a b s t work new (Ok o) h = checked_sound (meaning a) h.1.0 new h.1.1
opens_sound meaning a b s t work new (Err WorkPage) h = tt
opens_sound meaning a b s t work new (Err EditOpen) h = tt
opens_sound meaning a b s t work new (Err PageCount) h = few_unsound (meaning a) h.2
opens_sound meaning a b s t work new (Err NotAShowFile) h = λ f. h.2 f.first
opens_sound meaning a b s t work new (Err (Unsound q)) h = page_unsound (meaning a) h.1.0 q h.1.1 h.1.2 h.1.3 h.1.4
opens_sound meaning a b s t work new (Err (Medium step p f)) h = tt
opens_sound meaning a b s t work new (Err NotOpen) h = h
opens_sound meaning a b s t work new (Err NoEdit) h = h
opens_sound meaning a b s t work new (Err LastCounter) h = h
opens_sound meaning a b s t work new (Err TooLong) h = h
opens_sound meaning a b s t work new (Err TooMany) h = h
opens_sound meaning a b s t work new (Err KeyInDraft) h = h
opens_sound meaning a b s t work new (Err NoSuchKey) h = h
opens_sound meaning a b s t work new (Err DraftFull) h = h
opens_sound meaning a b s t work new (Err NoPlace) h = h

-- a number of four bytes that was put in, and one beside it
module _ (b : List ℕ) (s n : ℕ) (fits : s + 4 ≤ length b) where
  room : s + length (spell 4 n) ≤ length b
  room = omega (arith, length_spell 4 n)

  word_length : length (patched b s (spell 4 n)) ≡ length b
  word_length = length_patched b (spell 4 n) s room

  word_put : n < 256 ^ 4 → big (part (patched b s (spell 4 n)) s 4) ≡ n
  word_put small =
      ap big (subst (λ k. part (patched b s (spell 4 n)) s k ≡ spell 4 n) (length_spell 4 n) (part_patched b (spell 4 n) s room)) ∙ big_spell 4 n small

  word_beside : (i : ℕ) → (i + 4 ≤ s) ⊎ (s + 4 ≤ i) → big (part (patched b s (spell 4 n)) i 4) ≡ big (part b i 4)
  word_beside i h =
      ap big (part_beside b (spell 4 n) s room i 4
      (⊎_elim (λ (l : i + 4 ≤ s). inl l) (λ (l : s + 4 ≤ i). inr (omega (arith, length_spell 4 n))) h))

-- a page that was named says so, and its counter is as before
module _ (page : List ℕ) (pages : ℕ) (long : length page ≡ 1024) where
  named_length : length (named page pages) ≡ 1024
  unfolding named
  named_length =
      let inner : length (patched page 0 (spell 4 1)) ≡ length page = word_length page 0 1 (omega arith) in
      word_length (patched page 0 (spell 4 1)) 4 pages (omega arith) ∙ inner ∙ long

  named_form : form_of (named page pages) ≡ 1
  unfolding named
  named_form =
      let inner : length (patched page 0 (spell 4 1)) ≡ length page = word_length page 0 1 (omega arith) in
      word_beside (patched page 0 (spell 4 1)) 4 pages (omega arith) 0 (inl (omega arith)) ∙ word_put page 0 1 (omega arith) (lit< tt)

  named_pages : pages ≤ 4096 → pages_of (named page pages) ≡ pages
  unfolding named
  named_pages h =
      let inner : length (patched page 0 (spell 4 1)) ≡ length page = word_length page 0 1 (omega arith) in
      word_put (patched page 0 (spell 4 1)) 4 pages (omega arith) (lt_of_le_of_lt h (lit< tt))

  named_counter : counter_of (named page pages) ≡ counter_of page
  unfolding named
  named_counter =
      let inner : length (patched page 0 (spell 4 1)) ≡ length page = word_length page 0 1 (omega arith) in
      word_beside (patched page 0 (spell 4 1)) 4 pages (omega arith) 8 (inr (omega arith)) ∙ word_beside page 0 1 (omega arith) 8 (inr (omega arith))

-- four zeros spell 0
zeros_spell : (n i : ℕ) → i + 4 ≤ n → big (part (replicate n 0) i 4) ≡ 0
zeros_spell n i h = ap big (ap (take 4) (drop-replicate i n 0) ∙ take-replicate 4 (n - i) 0 (omega arith))

-- so do any four bytes of a page of zeros
zero_word : (i : ℕ) → i + 4 ≤ 1024 → big (part zero_page i 4) ≡ 0
unfolding zero_page
zero_word i h = zeros_spell 1024 i h

-- a page of zeros is a page
zero_length : length zero_page ≡ 1024
unfolding zero_page
zero_length = length-replicate {A = ℕ} 1024 0

-- both edit numbers of a page of zeros are 0
zero_number : (s : Side) → number_of zero_page s ≡ 0
unfolding number_of
zero_number A = zero_word 0 (omega arith)
zero_number B = zero_word 104 (omega arith)

-- no header of a page of zeros is valid
zero_slots : saved_slots 0 zero_page ≡ []
zero_slots = λ i. slots_by zero_page (option_map (header_of zero_page) (side_of 0 (zero_number A i) (zero_number B i)))

-- so it has no records
zero_bare : records 0 zero_page ≡ []
zero_bare = ap (map (entry_of zero_page)) zero_slots

-- and it is sound, whichever page it is
zero_sound : (pages q : ℕ) → Sound 0 pages q zero_page
zero_sound pages q = record {
  numbered = record { low_a = omega (arith, zero_number A); low_b = omega (arith, zero_number B); differ = λ e. zero_number A };
  fits = subst (Fits pages q zero_page) (sym zero_slots)
      (record { few = omega arith; own = λ k h. absurd (omega arith); ordered = λ j k l h. absurd (omega arith) });
}

-- all of a page put in place of all of another
patched_whole : (old image : List ℕ) → length old ≡ length image → patched old 0 image ≡ image
patched_whole old image e =
    let fits : 0 + length image ≤ length old = omega arith in
    let long : length (patched old 0 image) ≡ length old = length_patched old image 0 fits in
    ext_get_or 0 (patched old 0 image) image (long ∙ e)
    (λ k l. patched_inside old image 0 fits k (omega arith) (omega arith) ∙ ap (λ j. get_or image j 0) (omega arith))

-- a page that was written as a whole shows the image
wrote_whole : (m n : Meaning) (q : ℕ) (image : List ℕ) → Sized m → length image ≡ 1024 → Wrote m n q 0 image (Ok tt) → n.shown q ≡ image
wrote_whole m n q image sized long w =
    w.3.here ∙ patched_whole (m.shown q) image (sized.full q (good_tells m.pages q 0 (length image) w.0).page ∙ sym long)

-- after an image was written to pages in a row, there are as many pages, and the pages outside the row are as before
module _ {M : Type 0} (meaning : M → Meaning) (image : List ℕ) where
  writes_count : (qs : List ℕ) (a b : M) → Writes meaning image qs a b → (meaning b).pages ≡ (meaning a).pages
  writes_count [] a b w = ap (λ x. (meaning x).pages) w
  writes_count (q ∷ qs) a b w = writes_count qs w.0 b w.2 ∙ w.1.3.gains.pages

  writes_others : (n s : ℕ) (a b : M) → Writes meaning image (range_with_len s n) a b → (q : ℕ) → (q < s) ⊎ (s + n ≤ q) → (meaning b).shown q ≡ (meaning a).shown q
  writes_others zero s a b w q h = ap (λ x. (meaning x).shown q) w
  writes_others (suc n) s a b w q h =
      writes_others n (s + 1) w.0 b w.2 q (⊎_elim (λ (l : q < s). inl (omega arith)) (λ (l : s + suc n ≤ q). inr (omega arith)) h)
      ∙ w.1.3.others q (λ e. ⊎_elim (λ (l : q < s). omega arith) (λ (l : s + suc n ≤ q). omega arith) h)

  -- and those of the row show the image
  writes_shown : ((x : M) → Sized (meaning x)) → length image ≡ 1024 → (n s : ℕ) (a b : M) → Writes meaning image (range_with_len s n) a b
      → (q : ℕ) → s ≤ q → q < s + n → (meaning b).shown q ≡ image
  writes_shown sized long zero s a b w q l h = absurd (omega arith)
  writes_shown sized long (suc n) s a b w q l h =
      ⊎_elim (λ (e : q < s + 1).
      writes_others n (s + 1) w.0 b w.2 q (inl e) ∙ ap (meaning w.0).shown (omega arith)
      ∙ wrote_whole (meaning a) (meaning w.0) s image (sized a) long w.1)
      (λ (e : s + 1 ≤ q). writes_shown sized long n (s + 1) w.0 b w.2 q e (omega arith))
      (cases_lt q (s + 1))

-- what was laid is an empty file
laid_empty : (m n : Meaning) (pages : ℕ) → 2 ≤ pages → pages ≤ 4096 → pages ≤ n.pages → Settles n → n.shown 0 ≡ first_image pages
    → ((q : ℕ) → 1 ≤ q → q < pages → n.shown q ≡ zero_page) → ((q : ℕ) → pages ≤ q → n.shown q ≡ m.shown q) → Laid m n pages
laid_empty m n pages least most there only first zeros others = record {
  sound = record {
    first = record { form = ap form_of first ∙ named_form zero_page pages zero_length; least = omega (arith, told); most = omega (arith, told); there = omega (arith, told) };
    pages = λ q l h. subst (λ c. Sound c (pages_of (n.shown 0)) q (n.shown q)) (sym counter)
        (subst (Sound 0 (pages_of (n.shown 0)) q) (sym (zeros q l (omega (arith, told)))) (zero_sound (pages_of (n.shown 0)) q));
  };
  tells = (told, counter);
  bare = λ q l h. ap (records 0) (zeros q l h) ∙ zero_bare;
  only = only;
  first = first;
  zeros = zeros;
  others = others;
}
  where
    told : pages_of (n.shown 0) ≡ pages
    told = ap pages_of first ∙ named_pages zero_page pages zero_length most

    counter : counter_of (n.shown 0) ≡ 0
    counter = ap counter_of first ∙ named_counter zero_page pages zero_length ∙ zero_word 8 (omega arith)

-- a laying that is done leaves an empty file
pub lays_empty : {M : Type 0} (meaning : M → Meaning) (sized : (x : M) → Sized (meaning x)) (pages : ℕ) (a b : M) (s t : State) (work new : List ℕ) (r : Result (Unit {0}) Refusal)
    → Lays meaning pages a b s t work new r → IfOk r (λ _. Laid (meaning a) (meaning b) pages)
lays_empty meaning sized pages a b s t work new (Err e) h = tt
lays_empty {M} meaning sized pages a b s t work new (Ok u) h =
    laid_empty (meaning a) (meaning b) pages h.0.2 h.0.3 (subst (λ k. pages ≤ k) (sym count) h.0.4) named_settled.4
    (named_settled.3 0 ∙ wrote_whole (meaning x) (meaning z) 0 (first_image pages) (sized x) (named_length zero_page pages zero_length) wrote)
    (λ q l m. still q (omega arith) ∙ writes_shown meaning zero_page sized zero_length pages 0 a y writes q (omega arith) (omega arith))
    (λ q l. still q (omega arith) ∙ writes_others meaning zero_page pages 0 a y writes q (inr (omega arith)))
  where
    x : M
    x = h.1.0

    y : M
    y = h.1.1.0

    z : M
    z = h.1.2.0

    writes : Writes meaning zero_page (range_with_len 0 pages) a y
    writes = h.1.1.1

    zeroed : Settled (meaning y) (meaning x) (Ok tt)
    zeroed = h.1.1.2

    wrote : Wrote (meaning x) (meaning z) 0 0 (first_image pages) (Ok tt)
    wrote = h.1.2.1

    named_settled : Settled (meaning z) (meaning b) (Ok tt)
    named_settled = h.1.2.2

    count : (meaning b).pages ≡ (meaning a).pages
    count = named_settled.2 ∙ wrote.3.gains.pages ∙ zeroed.2 ∙ writes_count meaning zero_page (range_with_len 0 pages) a y writes

    still : (q : ℕ) → 1 ≤ q → (meaning b).shown q ≡ (meaning y).shown q
    still q l = named_settled.3 q ∙ wrote.3.others q (λ e. omega arith) ∙ zeroed.3 q
