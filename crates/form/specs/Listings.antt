-- Cues and stills are lists of fields in range.
use Rattle.std.specs.Prelude.{◌≡◌, ℕ, List, Ok, Option, refl}
use Rattle.form.specs.declared.cue.Cue.{Cue}
use Rattle.form.specs.declared.still.Still.{Still}
use Rattle.form.specs.Fields.{all_fit, decoded}
use Rattle.form.specs.Ranges.{cue_fields, still_fields}
use Rattle.form.specs.Cues.{cue_made, cue_of, cue_values, cue_reads}
use Rattle.form.specs.Stills.{still_made, still_of, still_values, still_reads}
use Rattle.form.specs.FormLaws.{Listed, ranged_at, from_four, four, read_is}

pub cue_listed : Listed cue_fields cue_values cue_of
cue_listed = record {
  fit = λ c. c.in_range;
  of_values = λ c. ranged_at cue_fields cue_made c.start c.projector c.level c.fade (all_fit cue_fields (cue_values c)) refl c.in_range;
  values_of = from_four cue_fields cue_made cue_values (λ s p l f fit. refl);
}

pub still_listed : Listed still_fields still_values still_of
still_listed = record {
  fit = λ s. s.in_range;
  of_values = λ s. ranged_at still_fields still_made s.slide s.projector s.width s.hold (all_fit still_fields (still_values s)) refl s.in_range;
  values_of = from_four still_fields still_made still_values (λ s p w h fit. refl);
}

pub cue_read : (b : List ℕ) (vs : List (Option ℕ)) (c : Cue) → decoded 4 cue_fields b ≡ Ok vs → cue_values c ≡ four vs → Ok c ≡ cue_reads b
cue_read = read_is cue_fields cue_values cue_of cue_listed 4 refl

pub still_read : (b : List ℕ) (vs : List (Option ℕ)) (s : Still) → decoded 8 still_fields b ≡ Ok vs → still_values s ≡ four vs → Ok s ≡ still_reads b
still_read = read_is still_fields still_values still_of still_listed 8 refl
