-- Past so many of the components the cursor is settled as it was before them.
use Prim.Native.Nat.{◌+◌}
use mathlib.Core.Path.{◌≡◌}
use lib.ListN.{drop}
use Rattle.track_rules.specs.Steps.{word_totals, settle_of}
use Rattle.track_record.proofs.cursor.settle.Given as goal

abbrev pub invariant-loop-passed : goal.invariant-loop-passed
invariant-loop-passed l =
    settle_of (drop l.passed (word_totals l.repetitions l.rest)) (l.at.component + l.passed) l.offset ≡ settle_of (word_totals l.repetitions l.rest) l.at.component l.at.offset
