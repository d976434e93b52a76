-- What lines ask for.
use Rattle.std.specs.Prelude.{ℕ}
use Rattle.script.specs.declared.script.Named.{Named}
use Rattle.script.specs.declared.script.Named.TheVariants.{Memory, Trial}
use Rattle.script.specs.declared.script.Step.{Step}
use Rattle.script.specs.declared.script.Step.TheVariants.{Work, Lay, Call, LookNumbered, BadField, Ask, DumpWork, DumpPage}

-- the pages that a medium asks for
abbrev pub pages_of : Named → ℕ
pages_of (Memory pages) = pages
pages_of (Trial card under) = card.pages

-- the bytes of a work page, where a line asks for one
abbrev pub work_of : Step → ℕ
work_of (Work bytes) = bytes
work_of (Lay pages) = 0
work_of (Call call) = 0
work_of (LookNumbered key number) = 0
work_of (BadField slip bit) = 0
work_of Ask = 0
work_of DumpWork = 0
work_of (DumpPage page) = 0
