-- Page images that are held, the one held longest first.
use Rattle.std.specs.Prelude.{ℕ, Bool, true, cond, not, ◌&&◌, List, [], ◌∷◌, is_some, Some, None, Option, ◌==◌}
use Rattle.layer.specs.declared.held.Held.{Held}

-- the image that is held of a page
abbrev pub look : List Held → ℕ → Option (List ℕ)
look [] p = None
look (h ∷ hs) p = cond (h.page == p) (Some h.image) (look hs p)

-- no page is held twice
abbrev pub distinct : List Held → Bool
distinct [] = true
distinct (h ∷ hs) = not (is_some (look hs h.page)) && distinct hs
