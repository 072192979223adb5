-- The loop's invariant: the search of the lines that are left comes to what the whole search comes to.
use mathlib.Core.Path.{◌≡◌, ◌∙◌}
use mathlib.Core.Bool.{Bool}
use Prim.Native.Nat.{ℕ, ◌-◌, ◌≤◌}
use native.Mathlib.Omega.{arith}
use Rattle.name_lines.specs.Marks.{seek_of}
use Rattle.name_lines.proofs.HighestLine.{sought_past}
use Rattle.name_search.specs.Scans.{next_window}
use Rattle.name_search.specs.Sought.{marks_in}
use Rattle.name_search.proofs.Scanning.{scan_in, scan-end, scan_sought, scan-found, scan-left}
use Rattle.name_search.proofs.Search.nth_by_marks.Goals as goal
use Rattle.std.specs.Prelude.{Ok, Err}

pub loop-lines-init : goal.loop-lines-init
loop-lines-init c = let a = c.args in let p : ℕ → Bool = marks_in a.self in
    rw c.lines_sought-lines.ensures (scan_sought a.self.sought.nth.way p a.self.sought.nth.from c.highest_line-highest.result a.self.sought.nth.over (λ j h. sought_past a.self.sought.axis a.self.names.entries.now a.self.names.store.now a.self.areas.edges.now a.self.areas.names.now a.self.areas.store.now a.self.name.stem.now a.self.name.edge j (rw c.highest_line-highest.ensures at h)))

pub returns-in-Ok : goal.returns-in-Ok
returns-in-Ok c = let a = c.args in let l = c.loop-lines in let h : l.lines.low ≤ l.lines.end = omega (arith, c.loop-lines-test.true) in let p : ℕ → Bool = marks_in a.self in
    let found : seek_of (Ok c.in-Ok.line) ≡ scan_in a.self.sought.nth.way p (next_window a.self.sought.nth.way l.lines) l.m = rw (c.in-Ok.is, c.next_window-window.ensures) at c.nth_in_window.ensures in
    scan-found p l.lines h a.self.sought.nth.way l.m c.in-Ok.line found ∙ l.invariant

pub loop-lines-preserved : goal.loop-lines-preserved
loop-lines-preserved c = let a = c.args in let l = c.loop-lines in let h : l.lines.low ≤ l.lines.end = omega (arith, c.loop-lines-test.true) in let p : ℕ → Bool = marks_in a.self in
    let found : seek_of (Err c.in-Err.left) ≡ scan_in a.self.sought.nth.way p (next_window a.self.sought.nth.way l.lines) l.m = rw (c.in-Err.is, c.next_window-window.ensures) at c.nth_in_window.ensures in
    rw (c.lines_left-lines.ensures, c.next_window-window.ensures) (scan-left p l.lines h a.self.sought.nth.way l.m c.in-Err.left found ∙ l.invariant)

pub returns : goal.returns
returns c = let a = c.args in let l = c.loop-lines in scan-end a.self.sought.nth.way (marks_in a.self) l.lines.low (l.lines.end - l.lines.low) l.m (omega (arith, c.loop-lines-test.false)) ∙ l.invariant
