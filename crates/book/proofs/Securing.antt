-- The cut theorem, put together.
use Rattle.std.proofs.Common.{◌≡◌, ℕ, List, Ok, Result}
use Rattle.medium.specs.Meaning.{Meaning, Sized}
use Rattle.form.specs.declared.form.BadByte.{BadByte}
use Rattle.store.specs.Edits.{touched_by}
use Rattle.book.specs.declared.call.Call.{Call}
use Rattle.book.specs.Theorem.{Secure, fed_all}
use Rattle.book.specs.Uses.{Answer, Moment, Ran}
use Rattle.book.proofs.Afterwards.{opens_alike, reads_forms}
use Rattle.book.proofs.Cutting.{starts}
use Rattle.book.proofs.Making.{ran_keeps, ran_survives}
use Rattle.book.proofs.Stopping.{ran_stopped}

pub ran_secure : {M F K : Type 0} (meaning : M → Meaning) → ((x : M) → Sized (meaning x)) → (kind : F → K) (bytes : F → List ℕ) (reads : K → List ℕ → Result F BadByte)
    → ((v : F) → reads (kind v) (bytes v) ≡ Ok v) → (cs : List (Call F K)) (rs : List (Answer F)) (a b : Moment M) → Ran meaning bytes reads cs rs a b
    → Secure meaning kind bytes reads cs rs a b
ran_secure meaning sized kind bytes reads there cs rs a b ran = record {
  begins = λ v begins.
      rw begins.0
      (starts meaning sized a.store.medium v (touched_by a.store.edit) begins.1);
  keeps = λ k kept. ran_keeps meaning sized bytes reads cs rs a b k ran kept;
  survives = λ k kept. ran_survives meaning sized bytes reads cs rs a b k ran kept;
  stops = λ k kept. ran_stopped meaning sized bytes reads cs rs a b k ran kept;
  reopens = opens_alike meaning sized;
  rereads = λ k kept.
      reads_forms meaning sized kind bytes reads there b (fed_all bytes k cs rs) (ran_keeps meaning sized bytes reads cs rs a b k ran kept);
}
