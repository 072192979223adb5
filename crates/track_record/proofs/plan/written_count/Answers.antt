use Prim.Native.Nat.{◌≤◌}
use native.Mathlib.Omega.{arith}
use native.Mathlib.Numerals.{add-one}
use mathlib.Core.Path.{◌≡◌, ap, ◌∙◌}
use lib.ListN.{length, drop, drop_of_length-le}
use Rattle.track_rules.specs.Steps.{word_totals, sum_of}
use Rattle.track_rules.proofs.Words.{words_length}
use Rattle.track_rules.proofs.Cursors.{no-sum}
use Rattle.track_record.proofs.Components.{sum-here}
use Rattle.track_record.proofs.plan.written_count.Goals as goal

pub returns-then-left-tracks : goal.returns-then-left-tracks
returns-then-left-tracks c = omega (arith, sum-here c.args.axis.repetitions c.args.components.now c.loop-word.word-index (omega arith), c.total-tracks.ensures)

pub loop-word-preserved : goal.loop-word-preserved
loop-word-preserved c =
    let k = c.loop-word.word-index in
    rw (add-one k) (omega (arith, sum-here c.args.axis.repetitions c.args.components.now k (omega arith), c.total-tracks.ensures))

pub returns : goal.returns
returns c =
    let l = c.loop-word in
    let a = c.args in
    let ns = word_totals a.axis.repetitions a.components.now in
    let h : length ns ≤ l.word-index = omega (arith, words_length a.axis.repetitions a.components.now) in
    let d : sum_of (drop l.word-index ns) ≡ 0 = ap sum_of (drop_of_length-le ns h) ∙ no-sum in
    omega arith
