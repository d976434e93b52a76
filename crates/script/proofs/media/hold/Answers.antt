use Rattle.std.proofs.Common.{◌≡◌, ℕ, ◌<◌, ◌≤◌, List, [], ◌∷◌, length, get_or, Some, codes, ap, ◌∙◌, refl, arith, rules}
use Rattle.script.proofs.media.hold.Goals as goal

-- a word of six bytes that are known
is_window : (w : List ℕ) → 6 ≤ length w → length w < 7 → get_or w 0 0 ≡ 119 → get_or w 1 0 ≡ 105 → get_or w 2 0 ≡ 110 → get_or w 3 0 ≡ 100 → get_or w 4 0 ≡ 111
    → get_or w 5 0 ≡ 119 → w ≡ codes "window"
is_window [] a b c d e f g h = absurd (omega (arith, a))
is_window (p ∷ []) a b c d e f g h = absurd (omega (arith, a))
is_window (p ∷ q ∷ []) a b c d e f g h = absurd (omega (arith, a))
is_window (p ∷ q ∷ r ∷ []) a b c d e f g h = absurd (omega (arith, a))
is_window (p ∷ q ∷ r ∷ s ∷ []) a b c d e f g h = absurd (omega (arith, a))
is_window (p ∷ q ∷ r ∷ s ∷ t ∷ []) a b c d e f g h = absurd (omega (arith, a))
is_window (p ∷ q ∷ r ∷ s ∷ t ∷ u ∷ []) a b c d e f g h = rw (c, d, e, f, g, h) refl
is_window (p ∷ q ∷ r ∷ s ∷ t ∷ u ∷ v ∷ w) a b c d e f g h = absurd (omega (arith, b))

pub returns-in_ok-trial-in-window : goal.returns-in_ok-trial-in-window
returns-in_ok-trial-in-window c =
    let word : c.in_ok-next_word.field-0.now ≡ codes "window" = search (rules, is_window) in
    (refl, c.in_ok-next_word.ensures.word ∙ ap Some word, (search rules, search rules), search rules, search rules)
