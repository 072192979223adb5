use Prim.Native.Nat.{◌+◌, ◌-◌, ◌≤◌}
use mathlib.Core.Path.{◌≡◌}
use lib.ListN.{drop}
use Rattle.track_rules.specs.Steps.{word_totals, sum_of}
use Rattle.track_record.proofs.plan.written_count.Given as goal

abbrev pub invariant-loop-word : goal.invariant-loop-word
invariant-loop-word l =
    (l.left ≤ l.explicit) × (l.explicit - l.left + sum_of (drop l.word-index (word_totals l.axis.repetitions l.components)) ≡ sum_of (word_totals l.axis.repetitions l.components))
