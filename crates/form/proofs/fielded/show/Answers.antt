use Rattle.std.proofs.Common.{◌≡◌, ℕ, zero, suc, ◌+◌, ◌≤◌, min, List, [], ◌∷◌, ◌++◌, length, take, map, Option, refl, subst, ap, sym, ◌∙◌, Bor, add-one, arith}
use Rattle.std.proofs.Output.{has_written_append, has_written_of_eq}
use Rattle.std.proofs.lemmas.List.{length_push, length-map, get_or-map}
use Rattle.std.proofs.lemmas.Slice.Zip.{zip_turn, zip_end}
use Rattle.form.specs.Texts.{field_text, fields_text}
use Rattle.form.specs.Walks.{At}
use Rattle.form.proofs.fielded.show.Goals as goal

fields_suc : (t : List ℕ) (ns : List (List ℕ)) (vs : List (Option ℕ)) (k : ℕ) (n : List ℕ) (v : Option ℕ) → At ns vs k n v
    → fields_text t (take k ns) (take k vs) ++ field_text n v ≡ fields_text t (take (suc k) ns) (take (suc k) vs)
fields_suc t [] vs k n v here = absurd (omega (arith, here.0))
fields_suc t (m ∷ ns) [] k n v here = absurd (omega (arith, here.1))
fields_suc t (m ∷ ns) (w ∷ vs) zero n v here = λ i. t ++ field_text (here.2 m i) (here.3 w i)
fields_suc t (m ∷ ns) (w ∷ vs) (suc k) n v here = fields_suc (t ++ field_text m w) ns vs k n v (omega (arith, here.0), omega (arith, here.1), here.2, here.3)

-- one field more
fields_more : (t : List ℕ) (ns : List (List ℕ)) (vs : List (Option ℕ)) (k : ℕ) (n : List ℕ) (v : Option ℕ) → At ns vs k n v
    → fields_text t (take k ns) (take k vs) ++ field_text n v ≡ fields_text t (take (k + 1) ns) (take (k + 1) vs)
fields_more t ns vs k n v here = fields_suc t ns vs k n v here ∙ ap (λ j. fields_text t (take j ns) (take j vs)) (sym (add-one k))

-- all of them
fields_all : (t : List ℕ) (ns : List (List ℕ)) (vs : List (Option ℕ)) (k : ℕ) → min (length ns) (length vs) ≤ k → fields_text t (take k ns) (take k vs) ≡ fields_text t ns vs
fields_all t [] vs zero h = refl
fields_all t [] vs (suc k) h = refl
fields_all t (n ∷ ns) [] zero h = refl
fields_all t (n ∷ ns) [] (suc k) h = refl
fields_all t (n ∷ ns) (v ∷ vs) zero h = absurd (omega arith)
fields_all t (n ∷ ns) (v ∷ vs) (suc k) h = fields_all (t ++ field_text n v) ns vs k (omega arith)

-- the texts of names
names_at : (xs : List (Bor (List ℕ))) (vs : List (Option ℕ)) (k : ℕ) (n : Bor (List ℕ)) (v : Option ℕ) → At xs vs k n v → At (map (λ x. x.now) xs) vs k n.now v
names_at xs vs k n v here =
    (omega (arith, here.0, length-map xs (λ (x : Bor (List ℕ)). x.now)), here.1, λ d. ap (λ (x : Bor (List ℕ)). x.now) (here.2 n) ∙ sym (get_or-map (λ (x : Bor (List ℕ)). x.now) xs k n d here.0), here.3)

pub loop-name-preserved : goal.loop-name-preserved
loop-name-preserved g c =
    let t = zip_turn c.names.result c.values.result c.loop-name.yielded _ _ c.next.new.self _ (cc) (cc) c.loop-name.yielded_by _ c.in-Some.is c.next.ensures.steps in
    let here : At g.V.Fielded.names (g.V.Fielded.values c.args.v.now) (length c.loop-name.yielded) c.in-Some.name.now.now c.in-Some.value.now =
    subst (λ ns. At ns (g.V.Fielded.values c.args.v.now) (length c.loop-name.yielded) c.in-Some.name.now.now c.in-Some.value.now) c.names.ensures
    (subst (λ vs. At (map (λ x. x.now) c.names.result) vs (length c.loop-name.yielded) c.in-Some.name.now.now c.in-Some.value.now) c.values.ensures (names_at _ _ _ _ _ t)) in (
      (tt, tt),
      tt,
      λ plain.
          let took = g.W.Write.write_str_gives in
          let before = c.loop-name.invariant.2 plain in
          let one = c.in_ok-show_field.ensures before.plain refl in
          rw (length_push c.loop-name.yielded (c.in-Some.name, c.in-Some.value)) (has_written_of_eq took _ _ _ _ (fields_more _ _ _ _ _ _ here) (has_written_append took _ _ _ _ _ before one)),
    )

pub returns : goal.returns
returns g c =
    let t = zip_end c.names.result c.values.result c.loop-name.yielded _ _ c.next.new.self _ (cc) (cc) c.loop-name.yielded_by c.in-None.is c.next.ensures.steps in
    λ plain ok. has_written_of_eq g.W.Write.write_str_gives _ _ _ _ (fields_all g.V.Fielded.name g.V.Fielded.names (g.V.Fielded.values c.args.v.now) (length c.loop-name.yielded) (omega (arith, t, ap length c.names.ensures, ap length c.values.ensures, length-map c.names.result (λ (x : Bor (List ℕ)). x.now)))) (c.loop-name.invariant.2 plain)
