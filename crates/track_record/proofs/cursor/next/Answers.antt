use native.Mathlib.Omega.{arith}
use Prim.Native.Nat.{ℕ, ◌+◌}
use mathlib.Core.Path.{◌≡◌, sym, ap, ◌∙◌}
use lib.ListN.{drop}
use Rattle.track_rules.specs.Steps.{word_totals, settle_of}
use Rattle.track_rules.proofs.Cursors.{next_stays, next-at}
use Rattle.track_record.proofs.cursor.next.Goals as goal

pub returns-in_default : goal.returns-in_default
returns-in_default c = sym (next_stays (word_totals c.args.repetitions c.args.components.now) c.args.at (omega (arith, c.in_default.ensures)))

pub returns : goal.returns
returns c =
    let ns = word_totals c.args.repetitions c.args.components.now in
    let u = c.args.at in
    let e : c.in-Some.offset ≡ u.offset + 1 = omega (arith, c.in-Some.ensures) in
    c.settle.ensures ∙ ap (λ (n : ℕ). settle_of (drop u.component ns) u.component n) e ∙ sym (next-at ns u (omega (arith, c.in-Some.ensures)))
