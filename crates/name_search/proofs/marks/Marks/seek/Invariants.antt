use mathlib.Core.Path.{◌≡◌}
use Prim.Native.Nat.{◌-◌}
use Rattle.name_lines.specs.Marks.{marked}
use Rattle.name_search.specs.Scans.{scan}
use Rattle.name_search.proofs.Scanning.{rest_from}
use Rattle.name_search.proofs.marks.Marks.seek.Given as goal

abbrev pub invariant-loop-i : goal.invariant-loop-i
invariant-loop-i l = scan l.way (λ k. marked l.self.marked (k - l.self.window.low)) (rest_from l.way l.self.window.low l.i) (l.self.window.end - l.self.window.low - l.i) l.m ≡ scan l.way (λ k. marked l.self.marked (k - l.self.window.low)) l.self.window.low (l.self.window.end - l.self.window.low) l.over
