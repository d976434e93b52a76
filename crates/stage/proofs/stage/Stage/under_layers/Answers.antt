use Rattle.stage.proofs.Stepping.{made_map}
use Rattle.stage.proofs.stage.Stage.under_layers.Goals as goal

pub returns-in-Window : goal.returns-in-Window
returns-in-Window g c =
    let (v, w, x, y, below, first, count, left, before, after, ran) = c.through.ensures in
    made_map c.through.result.1 _ _ (λ _ p. rw c.in-Window.is (v, w, below, first, count, left, p)) (simp (before, after) at ran.1)

pub returns-in-Hold : goal.returns-in-Hold
returns-in-Hold g c =
    let (v, w, x, y, below, none, left, before, after, ran) = c.holding_back.ensures in
    made_map c.holding_back.result.1 _ _ (λ _ p. rw c.in-Hold.is (v, w, below, none, left, p)) (simp (before, after) at ran.1)

pub returns-in-WindowHold : goal.returns-in-WindowHold
returns-in-WindowHold g c =
    let (v, w, x, y, below, none, left, before, after, ran) = c.holding_back-in-WindowHold.ensures in
    made_map c.holding_back-in-WindowHold.result.1 _ _ (λ _ p. rw c.in-WindowHold.is (v, w, below, none, left, p)) (simp (before, after) at ran.1)

pub returns-in-HoldWindow : goal.returns-in-HoldWindow
returns-in-HoldWindow g c =
    let (v, w, x, y, below, first, count, left, before, after, ran) = c.through-in-HoldWindow.ensures in
    made_map c.through-in-HoldWindow.result.1 _ _ (λ _ p. rw c.in-HoldWindow.is (v, w, below, first, count, left, p)) (simp (before, after) at ran.1)
