use Rattle.std.proofs.Common.{◌≡◌, ℕ, ◌-◌, ◌<◌, ◌≤◌}
use Rattle.store.specs.Opening.{SoundOn}
use Rattle.store.proofs.open.check_pages.Given as goal

abbrev pub invariant-loop-q : goal.invariant-loop-q
invariant-loop-q g l =
    ((j : ℕ) → 1 ≤ j → j < l.q → SoundOn (g.M.Medium.meaning l.medium) l.first j)
    × (2 ≤ l.q → l.work ≡ (g.M.Medium.meaning l.medium).shown (l.q - 1))
