-- The ways in which a call under a form ends.
use Rattle.std.proofs.Common.{◌≡◌, ℕ, ◌≤◌, List, length, take, Ok, Err, Result, sym, refl, ap, ◌∙◌, subst, arith}
use Rattle.octets.specs.Parts.{patched}
use Rattle.octets.proofs.Patches.{part_patched}
use Rattle.medium.specs.Meaning.{Meaning}
use Rattle.form.specs.declared.form.BadByte.{BadByte}
use Rattle.store.specs.declared.formrefusal.FormRefusal.{FormRefusal}
use Rattle.store.specs.declared.formrefusal.FormRefusal.TheVariants.{Store}
use Rattle.store.specs.declared.refusal.Refusal.{Refusal}
use Rattle.store.specs.declared.state.Place.{Place}
use Rattle.store.specs.declared.state.State.{State}
use Rattle.store.specs.Forms.{LooksForm, of_form, under_key}
use Rattle.store.specs.Looks.{Finds, value_at}

-- a store's refusal that was passed up
under_refused : {T : Type 0} (key : ℕ) (r : Result T Refusal) (t : Result T FormRefusal) (x : FormRefusal) → t ≡ under_key key r → t ≡ Err x
    → (e : Refusal) × (r ≡ Err e) × (x ≡ Store key e)
under_refused key (Ok u) t x d is = let z : ◌≡◌ {A = ℕ} 0 1 = cc in absurd (omega arith)
under_refused {T} key (Err e) t x d is = (e, refl, (let p : ◌≡◌ {A = Result T FormRefusal} (Err (Store key e)) (Err x) = sym d ∙ is in cc))

-- a store's answer that was passed up
under_accepted : {T : Type 0} (key : ℕ) (r : Result T Refusal) (t : Result T FormRefusal) (v : T) → t ≡ under_key key r → t ≡ Ok v → r ≡ Ok v
under_accepted {T} key (Ok u) t v d is = let p : ◌≡◌ {A = Result T FormRefusal} (Ok u) (Ok v) = sym d ∙ is in cc
under_accepted key (Err e) t v d is = let z : ◌≡◌ {A = ℕ} 0 1 = cc in absurd (omega arith)

-- the bytes at the start of those that a form wrote
pub written : (out now bytes : List ℕ) (n : ℕ) → length out ≡ 200 → now ≡ patched out 0 bytes → n ≡ length bytes → length bytes ≤ 200 → take n now ≡ bytes
written out now bytes n size is count short = rw (is, count) (part_patched out bytes 0 (omega arith))

module _ {V : Type 0} (reads : List ℕ → Result V BadByte) (m : Meaning) (s : State) (key : ℕ) (work new : List ℕ) where
  pub look_refused : (r : Result (ℕ × Place) Refusal) (t : Result (ℕ × Place) FormRefusal) (x : FormRefusal) → Finds m s key work new r → t ≡ under_key key r → t ≡ Err x
      → LooksForm reads m s key work new (Err x)
  look_refused r t x l d is =
      let k = under_refused key r t x d is in
      subst (λ y. LooksForm reads m s key work new (Err y)) (sym k.2) (refl, subst (Finds m s key work new) k.1 l)

  pub look_read : (r : Result (ℕ × Place) Refusal) (t : Result (ℕ × Place) FormRefusal) (p : ℕ × Place) (value : List ℕ) (v : Result V BadByte) (w : Result V FormRefusal)
      → Finds m s key work new r → t ≡ under_key key r → t ≡ Ok p → value ≡ value_at new p.1 → v ≡ reads value → w ≡ of_form key p.0 v → LooksForm reads m s key work new w
  look_read r t p value (Ok x) w l d a at read e =
      let f = subst (Finds m s key work new) (under_accepted key r t p d a) l in
      subst (LooksForm reads m s key work new) (sym e) (p.1, f.0, sym (read ∙ ap reads at))
  look_read r t p value (Err bad) w l d a at read e =
      let f = subst (Finds m s key work new) (under_accepted key r t p d a) l in
      subst (LooksForm reads m s key work new) (sym e) (refl, f.1, (p.1, f.0, (bad, refl, sym (read ∙ ap reads at))))
