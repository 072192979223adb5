use Prim.Native.Nat.{◌-◌}
use mathlib.Core.Path.{◌≡◌}
use lib.ListN.{length, drop}
use Rattle.text.specs.Split.{split}
use Rattle.sheet_rules.specs.Contents.{lines_from}
use Rattle.sheet_rules.specs.Kinds.{row_follows}
use Rattle.picture_end.proofs.follow.row_follows.Given as goal

abbrev pub invariant-loop-end : goal.invariant-loop-end
invariant-loop-end l = row_follows (lines_from (split 10 l.rest)) ≡ row_follows (lines_from (split 10 (drop l.at l.rest)))

abbrev pub decreases-loop-end : goal.decreases-loop-end
decreases-loop-end l = length l.rest - l.at
