-- What a script does, use by use, and the text that it adds.
use Rattle.std.specs.Prelude.{◌≡◌, ℕ, ◌-◌, ◌*◌, ◌^◌, min, false, if◌then◌else◌, List, [], ◌∷◌, ◌++◌, length, take, replicate}
use Rattle.medium.specs.Flat.{flat}
use Rattle.medium.specs.Meaning.{Meaning}
use Rattle.medium.specs.declared.memory.Memory.{Memory}
use Rattle.medium.specs.declared.trial.Trial.{Trial}
use Rattle.layer.specs.Holds.{layered}
use Rattle.layer.specs.Windows.{seen}
use Rattle.book.specs.declared.slips.Slips.{Slips}
use Rattle.script.specs.Ranges.{pages_of}
use Rattle.script.specs.declared.script.Card.{Card}
use Rattle.script.specs.declared.script.Layers.{Layers}
use Rattle.script.specs.declared.script.Layers.TheVariants.{Bare, Window, Hold, WindowHold, HoldWindow}
use Rattle.script.specs.declared.script.Named.{Named}
use Rattle.script.specs.declared.script.Named.TheVariants.{Memory as OnMemory, Trial as OnTrial}
use Rattle.script.specs.declared.script.Script.{Script}
use Rattle.script.specs.declared.script.Step.{Step}
use Rattle.script.specs.declared.script.Use.{Use}
use Rattle.stage.specs.Piles.{HoldMade, OverMade, ThroughMade}
use Rattle.stage.specs.Steps.{with_bad}

-- steps on a memory medium over bytes
abbrev pub MemoryMade : List Step → Slips → Slips → List ℕ → List ℕ → List ℕ → Type 0
MemoryMade steps x y s t b = (m : Memory) × (n : Memory) × (m.bytes.now ≡ b) × OverMade (λ (k : Memory). flat false k.bytes.now) steps x y s t m n

-- what a trial medium means
abbrev pub trial_meaning : Trial → Meaning
trial_meaning k = flat k.stopped k.bytes.now

-- steps on a medium under layers
abbrev pub LayersMade : {M : Type 0} → (M → Meaning) → Layers → List Step → Slips → Slips → List ℕ → List ℕ → M → M → Type 0
LayersMade meaning Bare steps x y s t m n = OverMade meaning steps x y s t m n
LayersMade meaning (Window span) steps x y s t m n = ThroughMade span (OverMade (seen meaning) steps x y s t) m n
LayersMade meaning Hold steps x y s t m n = HoldMade (OverMade (layered meaning) steps x y s t) m n
LayersMade meaning (WindowHold span) steps x y s t m n = HoldMade (ThroughMade span (OverMade (seen (layered meaning)) steps x y s t)) m n
LayersMade meaning (HoldWindow span) steps x y s t m n = ThroughMade span (HoldMade (OverMade (layered (seen meaning)) steps x y s t)) m n

-- steps on a trial medium over bytes, new as the card says
abbrev pub TrialMade : Card → Layers → List Step → Slips → Slips → List ℕ → List ℕ → List ℕ → Type 0
TrialMade card under steps x y s t b =
    (m : Trial) × (n : Trial) × (m.bytes.now ≡ b) × (m.left ≡ card.stop) × (m.pattern ≡ card.pattern) × (m.stopped ≡ false)
    × LayersMade trial_meaning under steps x y s t m n

-- steps on the medium that is named, over bytes
abbrev pub NamedMade : Named → List Step → Slips → Slips → List ℕ → List ℕ → List ℕ → Type 0
NamedMade (OnMemory pages) steps x y s t b = MemoryMade steps x y s t b
NamedMade (OnTrial card under) steps x y s t b = TrialMade card under steps x y s t b

-- bytes made so many: the first ones stay, and what is added is zero
abbrev pub refitted : ℕ → List ℕ → List ℕ
refitted size b = take size b ++ replicate (size - length b) 0

-- the bytes that a use begins with, where the one before left others
abbrev pub begun : Use → List ℕ → List ℕ
begun u b = refitted (min (pages_of u.named * 1024) (2 ^ 64 - 1)) (if u.again then b else [])

-- uses one after the other, each over fresh bytes or over some that were left: which these are is not said, since a medium that is
-- passed on by value says nothing of the bytes that were lent to it; so nothing is said of pokes either
abbrev pub UsesMade : List Use → Slips → Slips → List ℕ → List ℕ → Type 0
UsesMade [] x y s t = (y ≡ x) × (t ≡ s)
UsesMade (u ∷ us) x y s t =
    (z : Slips) × (r : List ℕ) × (b : List ℕ) × NamedMade u.named u.steps.items x z s r (begun u b) × UsesMade us z y r t

-- all uses of a script, from no slips on, and the line that tells of a bad one
abbrev pub ScriptMade : Script → List ℕ → List ℕ → Type 0
ScriptMade script s t =
    (x : Slips) × (y : Slips) × (r : List ℕ) × (x.given.items ≡ []) × UsesMade script.uses.items x y s r × (t ≡ with_bad r script.bad)
