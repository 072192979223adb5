-- The loop's invariant: the search of the lines that are left comes to what the whole search comes to.
use mathlib.Core.Path.{◌≡◌, sym, ◌∙◌}
use Prim.Native.Nat.{◌+◌, ◌-◌}
use native.Mathlib.Omega.{arith}
use Rattle.name_lines.specs.Marks.{marked}
use Rattle.name_search.specs.Scans.{place_at}
use Rattle.name_search.proofs.Scanning.{rest_from, scan-end, scan-miss, scan-hit, scan-over}
use Rattle.name_search.proofs.marks.Marks.seek.Goals as goal
use Rattle.name_search.proofs.marks.Marks.seek.Goals.{then-self-place+else-m-eq0, else-self-place}

pub returns-then-m-eq0 : goal.returns-then-m-eq0
returns-then-m-eq0 c = let a = c.args in let l = c.loop-i in let s : a.self.now.window.low + (place_at a.way (a.self.now.window.end - a.self.now.window.low) l.i) - a.self.now.window.low ≡ c.place_at-place.result = omega (arith, c.place_at-place.ensures) in
    rw c.place_at-place.ensures (sym (scan-hit a.way (λ l. marked a.self.now.marked (l - a.self.now.window.low)) a.self.now.window.low (a.self.now.window.end - a.self.now.window.low) l.i c.loop-i-test.true l.m (rw s c.if-self-place.true) c.if-m-eq0.true) ∙ l.invariant)

pub loop-i-preserved : goal.loop-i-preserved
loop-i-preserved c = let a = c.args in let l = c.loop-i in let t = c.loop-i-test.true in let s : a.self.now.window.low + (place_at a.way (a.self.now.window.end - a.self.now.window.low) l.i) - a.self.now.window.low ≡ c.place_at-place.result = omega (arith, c.place_at-place.ensures) in
    elim c.if-self-place.branch [ then-self-place+else-m-eq0 w ↦ rw w.m-is (sym (scan-over a.way (λ l. marked a.self.now.marked (l - a.self.now.window.low)) a.self.now.window.low (a.self.now.window.end - a.self.now.window.low) l.i t l.m (rw s w.if-self-place.true) w.if-m-eq0.false) ∙ l.invariant) | else-self-place w ↦ rw w.m-is (sym (scan-miss a.way (λ l. marked a.self.now.marked (l - a.self.now.window.low)) a.self.now.window.low (a.self.now.window.end - a.self.now.window.low) l.i t l.m (rw s w.if-self-place.false)) ∙ l.invariant) ]

pub returns : goal.returns
returns c = let a = c.args in let l = c.loop-i in scan-end a.way (λ l. marked a.self.now.marked (l - a.self.now.window.low)) (rest_from a.way a.self.now.window.low l.i) ((a.self.now.window.end - a.self.now.window.low) - l.i) l.m (omega arith) ∙ l.invariant
