use Prim.Native.Nat.{◌+◌, ◌-◌, ◌≤◌}
use mathlib.Core.Path.{◌≡◌}
use lib.ListN.{length}
use Rattle.picture_rules.specs.Steps.{runs_of}
use Rattle.picture_words.specs.Words.{words_of, words_left}
use Rattle.std.specs.Prelude.{Ok}
use Rattle.picture_areas.specs.Runs.{answered_drawn}
use Rattle.picture_rows.specs.Steps.{started, runs_in}
use Rattle.picture_rows.proofs.draw.draw_runs.Given as goal

abbrev pub invariant-loop-at : goal.invariant-loop-at
invariant-loop-at l =
    (l.column + length (words_left l.line l.at) ≤ 10001)
    × (runs_in l.row 1 (runs_of (words_of l.line)) (started l.fn.panel l.initial.words l.initial.bytes)
    ≡ runs_in l.row l.column (runs_of (words_left l.line l.at)) (record { answer = answered_drawn l.fn.panel (Ok l.drawn); words = l.words; bytes = l.bytes }))

abbrev pub decreases-loop-at : goal.decreases-loop-at
decreases-loop-at l = length l.line + 1 - l.at
