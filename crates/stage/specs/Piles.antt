-- A use on a pile of layers: what is below before and after it.
use Rattle.std.specs.Prelude.{◌≡◌, ℕ, List, []}
use Rattle.medium.specs.Meaning.{Meaning}
use Rattle.layer.specs.declared.holding.Holding.{Holding}
use Rattle.layer.specs.declared.window.Window.{Window}
use Rattle.layer.specs.Holds.{images}
use Rattle.store.specs.declared.state.State.TheVariants.{Shut}
use Rattle.store.specs.declared.store.Store.{Store}
use Rattle.book.specs.declared.slips.Slips.{Slips}
use Rattle.script.specs.declared.script.Span.{Span}
use Rattle.script.specs.declared.script.Step.{Step}
use Rattle.stage.specs.Steps.{UseMade}

-- steps on a store that starts shut over one medium and ends with another
abbrev pub OverMade : {M : Type 0} → (M → Meaning) → List Step → Slips → Slips → List ℕ → List ℕ → M → M → Type 0
OverMade {M} meaning steps x y s t m n =
    (a : Store M) × (b : Store M) × (a.medium ≡ m) × (a.state ≡ Shut) × (b.medium ≡ n) × UseMade meaning steps a b x y s t

-- what is done through a window
abbrev pub ThroughMade : {M : Type 0} → Span → (Window M → Window M → Type 0) → M → M → Type 0
ThroughMade {M} span done m n =
    (v : Window M) × (w : Window M) × (v.medium ≡ m) × (v.first ≡ span.first) × (v.count ≡ span.count) × (w.medium ≡ n) × done v w

-- what is done over a holding layer, which holds nothing at first; what it holds at the end is lost
abbrev pub HoldMade : {M : Type 0} → (Holding M → Holding M → Type 0) → M → M → Type 0
HoldMade {M} done m n = (v : Holding M) × (w : Holding M) × (v.medium ≡ m) × (images v ≡ []) × (w.medium ≡ n) × done v w
