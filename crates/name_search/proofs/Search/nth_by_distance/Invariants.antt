use mathlib.Core.Path.{◌≡◌}
use Prim.Native.Nat.{◌≤◌, max}
use Rattle.name_lines.specs.Marks.{walk}
use Rattle.name_search.specs.Sought.{marks_in}
use Rattle.name_search.proofs.Search.nth_by_distance.Given as goal

abbrev pub invariant-loop-line : goal.invariant-loop-line
invariant-loop-line l = (l.from ≤ max 20000 l.self.sought.nth.from) × (walk l.self.sought.nth.way (marks_in l.self) l.from l.m ≡ walk l.self.sought.nth.way (marks_in l.self) l.self.sought.nth.from l.self.sought.nth.over)

abbrev pub decreases-loop-line : goal.decreases-loop-line
decreases-loop-line l = l.m
