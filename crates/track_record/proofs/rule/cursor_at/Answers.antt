use Prim.Native.Nat.{ℕ, ◌-◌, ◌/◌}
use native.Mathlib.Omega.{arith}
use mathlib.Core.Path.{◌≡◌, ap, ◌∙◌}
use Rattle.track_rules.specs.Steps.{word_totals, settle_of, cursor_of}
use Rattle.track_record.proofs.rule.cursor_at.Goals as goal

pub returns : goal.returns
unfolding cursor_of
returns c =
    let a = c.args in
    let z : c.saturating_sub.result ≡ (a.index - 1) / 2 - a.axis.counts.negative_implicit = omega (arith, c.saturating_sub.ensures, c.saturating_sub-track.ensures) in
    c.settle.ensures ∙ ap (λ (t : ℕ). settle_of (word_totals a.axis.repetitions a.components.now) 0 t) z
