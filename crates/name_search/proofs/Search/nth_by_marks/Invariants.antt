use mathlib.Core.Path.{◌≡◌}
use Prim.Native.Nat.{◌-◌}
use Rattle.name_lines.specs.Marks.{walk}
use Rattle.name_search.specs.Sought.{marks_in}
use Rattle.name_search.proofs.Scanning.{scan_in}
use Rattle.name_search.proofs.Search.nth_by_marks.Given as goal

abbrev pub invariant-loop-lines : goal.invariant-loop-lines
invariant-loop-lines l = scan_in l.self.sought.nth.way (marks_in l.self) l.lines l.m ≡ walk l.self.sought.nth.way (marks_in l.self) l.self.sought.nth.from l.self.sought.nth.over

abbrev pub decreases-loop-lines : goal.decreases-loop-lines
decreases-loop-lines l = l.lines.end - l.lines.low
