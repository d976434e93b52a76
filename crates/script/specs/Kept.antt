-- What an accepted line keeps to.
use Rattle.std.specs.Prelude.{◌≤◌}
use Rattle.script.specs.Ranges.{pages_of, work_of}
use Rattle.script.specs.declared.lines.Line.{Line}
use Rattle.script.specs.declared.lines.Line.TheVariants.{Begin, Step, Poke}

-- a medium has at most 4,096 pages, and a work page at most 4,096 bytes
abbrev pub Keeps : Line → Type 0
Keeps (Begin again named) = pages_of named ≤ 4096
Keeps (Step step) = work_of step ≤ 4096
Keeps (Poke poke) = Unit {0}
