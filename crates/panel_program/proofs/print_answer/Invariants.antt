use Rattle.std.proofs.Common.{◌≡◌, length}
use Rattle.panel_answer.specs.Answer.{held_with}
use Rattle.panel_answer.specs.Listed.{answered_next}
use Rattle.panel_answer.specs.Text.{lines_from, text_from}
use Rattle.panel_program.proofs.Bytes.{PrintedOk}
use Rattle.panel_program.proofs.print_answer.Given as goal

abbrev pub invariant-loop-lent : goal.invariant-loop-lent
invariant-loop-lent g l =
    (length l.out ≡ 65536)
    × PrintedOk _ _ l.written (g.W.Write.contents l.initial.output) (g.W.Write.contents l.output)
    (text_from (held_with l.begun.grid l.lent l.lands) (answered_next l.next)) (text_from (held_with l.begun.grid l.lent l.lands) (answered_next l.initial.next))

-- the lines that are left
abbrev pub decreases-loop-lent : goal.decreases-loop-lent
decreases-loop-lent g l = lines_from (held_with l.begun.grid l.lent l.lands) (answered_next l.next)
