-- Pages of keys.
use Rattle.std.proofs.Common.{ℕ, ◌-◌, ◌%◌, ◌<◌, ◌≤◌, mod-lt, arith}
use Rattle.layout.specs.Pages.{page_of}
use Rattle.book.specs.Keeps.{Later}

least_lt : (n d : ℕ) → 0 < d → n % d < d
least_lt n d h = mod-lt n h

-- the page of a key is one after the first
pub key_later : (pages key : ℕ) → 2 ≤ pages → Later pages (page_of pages key)
key_later pages key h = (omega arith, omega (arith, least_lt key (pages - 1) (omega arith)))
