use Rattle.std.proofs.Common.{◌+◌, ◌-◌, ◌≤◌, ◌≡◌}
use Rattle.history_lines.specs.Found.{after_lines}
use Rattle.history_lines.proofs.find.after_lines.Given as goal

abbrev pub invariant-loop-number : goal.invariant-loop-number
invariant-loop-number l = (1 ≤ l.number) × (after_lines l.count 1 l.s 0 ≡ after_lines (l.count + 1 - l.number) l.number l.s l.at)
