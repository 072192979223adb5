-- The loop's invariant: a bound on from, and that the search from there on comes to what the whole search comes to.
use mathlib.Core.Path.{◌≡◌, sym, ◌∙◌}
use mathlib.Core.Bool.{Bool}
use Prim.Native.Nat.{ℕ}
use native.Mathlib.Omega.{arith}
use Rattle.name_lines.specs.Marks.{walk}
use Rattle.name_search.specs.Nearest.{nearest_of}
use Rattle.name_search.specs.Sought.{marks_in}
use Rattle.name_search.proofs.Walks.{walk-left, walk-below, walk-past, walk-next}
use Rattle.name_search.proofs.Search.nth_by_distance.Goals as goal
use Rattle.std.specs.Prelude.{Some, None}

pub returns-in_default : goal.returns-in_default
returns-in_default c = let a = c.args in let l = c.loop-line in let p : ℕ → Bool = marks_in a.self in let found : nearest_of None ≡ walk a.self.sought.nth.way p l.from 0 = rw (c.in_default.is, c.part-sought.ensures) at c.nearest_line.ensures in
    walk-left p a.self.sought.nth.way l.from 0 l.m found ∙ l.invariant.1

pub past_line-from-requires : goal.past_line-from-requires
past_line-from-requires c = let a = c.args in let l = c.loop-line in let p : ℕ → Bool = marks_in a.self in let found : nearest_of (Some c.in-Some.line) ≡ walk a.self.sought.nth.way p l.from 0 = rw (c.in-Some.is, c.part-sought.ensures) at c.nearest_line.ensures in
    omega (arith, c.well_formed, walk-below p a.self.sought.nth.way l.from c.in-Some.line a.self.sought.nth.from found l.invariant.0)

pub loop-line-preserved : goal.loop-line-preserved
loop-line-preserved c = let a = c.args in let l = c.loop-line in let p : ℕ → Bool = marks_in a.self in let found : nearest_of (Some c.in-Some.line) ≡ walk a.self.sought.nth.way p l.from 0 = rw (c.in-Some.is, c.part-sought.ensures) at c.nearest_line.ensures in
    (rw c.past_line-from.ensures (walk-past p a.self.sought.nth.way l.from c.in-Some.line a.self.sought.nth.from found l.invariant.0), rw c.past_line-from.ensures (sym (walk-next p a.self.sought.nth.way l.from c.in-Some.line l.m found c.if-m-eq0.false) ∙ l.invariant.1))
