use Prim.Native.Nat.{◌≤◌}
use mathlib.Core.Path.{◌≡◌}
use lib.ListN.{length}
use Rattle.panel_answer.specs.Answer.{held_with}
use Rattle.panel_answer.specs.Listed.{answered_next}
use Rattle.panel_answer.specs.Text.{lines_from}
use Rattle.panel_answer.proofs.Fills.{Writing}
use Rattle.panel_answer.proofs.fill.fill.Given as goal

abbrev pub invariant-loop-next : goal.invariant-loop-next
invariant-loop-next l =
    (length l.out ≡ length l.initial.out) × (l.count ≤ length l.initial.out)
    × Writing l.initial.out (held_with l.grid l.lent l.lands) (answered_next l.initial.next) (answered_next l.next) l.out l.count

abbrev pub decreases-loop-next : goal.decreases-loop-next
decreases-loop-next l = lines_from (held_with l.grid l.lent l.lands) (answered_next l.next)
