use Rattle.std.proofs.Common.{◌+◌, ◌*◌, ap, ◌∙◌, rules}
use Rattle.std.proofs.lemmas.Bool.{both_ways}
use Rattle.octets.specs.Parts.{patched}
use Rattle.medium.proofs.Writes.{wrote_flat, stopped_flat}
use Rattle.medium.proofs.trials.TrialMedium.write.Goals as goal

pub returns-then-stops_now-clause-rule : goal.returns-then-stops_now-clause-rule
returns-then-stops_now-clause-rule c =
    let g = c.in_ok-admit.ensures.0 in
    let counts = c.if-stops_now.ensures.counts in
    let partly = simp (c.stops_now.ensures.keeps.0, c.stops_now.ensures.keeps.1) at c.patch_partly.ensures in
    (g, counts.2, search (rules, stopped_flat), λ on. absurd (both_ways _ c.in_ok-admit.ensures.1 on))

pub returns-clause-rule : goal.returns-clause-rule
returns-clause-rule c =
    let g = c.in_ok-admit.ensures.0 in
    let counts = c.if-stops_now.ensures.counts in
    let put = c.patch.ensures ∙ ap (λ b. patched b (c.args.page * 1024 + c.args.at) c.args.bytes.now) c.stops_now.ensures.keeps.0 in
    search (rules, wrote_flat)
