-- Going over all records of a file, and counting them.
use Rattle.std.proofs.Common.{◌≡◌, ℕ, suc, ◌+◌, ◌-◌, ◌<◌, List, [], ◌∷◌, ◌++◌, map, length, sum_by, Some, None, Option, MatchOption, sym, ap, ◌∙◌, arith}
use Rattle.std.specs.List.{range_with_len, flat_map}
use Rattle.std.proofs.lemmas.List.{length-map}
use Rattle.std.proofs.lemmas.List.Concat.{length-flat_map}
use Rattle.layout.specs.declared.header.Header.{Header}
use Rattle.layout.specs.Pages.{Entry, entry_of, slots, slots_by, records, valid}
use Rattle.octets.specs.Files.{file_of}
use Rattle.file.specs.Files.{page_records, file_records, later_pages}
use Rattle.layout.proofs.Fitting.{length_slots}

counting_next : (k n : ℕ) → k < n → range_with_len k (n - k) ≡ k ∷ range_with_len (k + 1) (n - (k + 1))
counting_next k n h = let e : n - k ≡ suc (n - (k + 1)) = omega arith in ap (range_with_len k) e

module _ (bytes : List ℕ) (counter pages : ℕ) where
  -- the records of the pages from page q on
  from : ℕ → List (ℕ × Entry)
  from q = flat_map (page_records bytes counter) (range_with_len q (pages - q))

  from_more : (q : ℕ) → q < pages → from q ≡ page_records bytes counter q ++ from (q + 1)
  unfolding from
  from_more q h = ap (flat_map (page_records bytes counter)) (counting_next q pages h)

  -- a page is begun
  pub begun : (q : ℕ) (es : List Entry) (page : List ℕ) → q < pages → page ≡ (file_of bytes).page q → es ≡ records counter page
      → map (λ e. (q, e)) es ++ flat_map (page_records bytes counter) (range_with_len (q + 1) (pages - (q + 1))) ≡ flat_map (page_records bytes counter) (range_with_len q (pages - q))
  unfolding from
  begun q es page h p e = ap (λ x. map (λ y. (q, y)) x ++ from (q + 1)) (e ∙ ap (records counter) p) ∙ sym (from_more q h)

-- a page with nothing left
pub ended : (q : ℕ) (es : List Entry) (after : List (ℕ × Entry)) → es ≡ [] → map (λ x. (q, x)) es ++ after ≡ after
ended q es after p = ap (λ xs. map (λ x. (q, x)) xs ++ after) p

-- a page has as many records as its valid header says, none if it has no valid header
pub counted : (counter : ℕ) (page : List ℕ) (o : Option Header) (n : ℕ) (Told : Header → Type 0) → o ≡ valid counter page → MatchOption o (n ≡ 0) Told
    → ((h : Header) → Told h → n ≡ h.count) → n ≡ length (records counter page)
counted counter page None n Told v e is = e ∙ ap (λ o. length (map (entry_of page) (slots_by page o))) v
counted counter page (Some h) n Told v t is =
    is h t ∙ sym (length-map (slots page h) (entry_of page) ∙ length_slots page h) ∙ ap (λ o. length (map (entry_of page) (slots_by page o))) v

-- a file has as many records as its pages have together
pub count_by_pages : (bytes : List ℕ) (counter pages : ℕ)
    → sum_by (λ q. length (records counter ((file_of bytes).page q))) (later_pages pages) ≡ length (file_records bytes counter pages)
count_by_pages bytes counter pages =
    sym (length-flat_map (page_records bytes counter) (later_pages pages)
    ∙ (λ i. sum_by (λ q. length-map {B = ℕ × Entry} (records counter ((file_of bytes).page q)) (λ e. (q, e)) i) (later_pages pages)))
