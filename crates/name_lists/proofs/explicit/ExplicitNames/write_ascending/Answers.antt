use native.Mathlib.Omega.{arith}
use mathlib.Core.Path.{◌≡◌, refl, ◌∙◌, ap}
use Prim.Native.Nat.{ℕ, ◌+◌, ◌-◌}
use lib.ListN.{drop}
use Rattle.name_lists.specs.Ascending.{count_up_to}
use Rattle.name_lists.proofs.Boundary.{Boundary, boundary-begin, boundary-next, between-words, none-listed}
use Rattle.name_template.proofs.Leading.{rest_all}
use Rattle.name_lists.proofs.Lines.{lines-begin, lines_part, lines_sum, lines-turn, lines-done, lines-left}
use Rattle.name_lists.proofs.explicit.ExplicitNames.write_ascending.Goals as goal
use Rattle.name_lists.proofs.explicit.ExplicitNames.write_ascending.Goals.{After-entries_up_to}

-- where the entries of the next line begin
passed : (c : After-entries_up_to) → c.loop-line.at + c.entries_up_to.result ≡ c.loop-line.at + count_up_to c.loop-line.line (drop c.loop-line.at c.args.self.names.entries.now)
passed c = ap (λ (n : ℕ). c.loop-line.at + n) (c.entries_up_to.ensures ∙ ap (count_up_to c.loop-line.line) (rest_all c.args.self.names.entries.now c.loop-line.at))

next : (c : After-entries_up_to) → Boundary c.args.self.names.entries.now (c.loop-line.at + c.entries_up_to.result) (c.loop-line.line + 1)
next c = let l = c.loop-line in boundary-next c.args.self.names.entries.now l.at l.line (l.at + c.entries_up_to.result) (passed c) l.line (omega arith) l.invariant.0

pub loop-line-init : goal.loop-line-init
loop-line-init c = let a = c.args in (
  boundary-next a.self.names.entries.now 0 0 c.entries_up_to-at.result (omega (arith, c.entries_up_to-at.ensures)) 0 (omega arith) (boundary-begin a.self.names.entries.now c.requires),
  lines-begin a.self.explicit a.self.names.entries.now a.self.names.store.now a.words.now,
)

pub overflow_add-end : goal.overflow_add-end
overflow_add-end c = let i = (next (goal.at.overflow_add-end c).After-entries_up_to).inside in omega (arith, c.entries_up_to.ensures)

pub slice_bounds-own-end : goal.slice_bounds-own-end
slice_bounds-own-end c = (next (goal.at.slice_bounds-own-end c).After-entries_up_to).inside

pub write_line-count-requires : goal.write_line-count-requires
write_line-count-requires c = let a = c.args in let l = c.loop-line in
    let d = (goal.at.write_line-count-requires c).After-entries_up_to in
    rw (between-words a.self.names.entries.now l.at l.line (l.at + c.entries_up_to.result) (passed d) l.invariant.0 a.self.names.store.now)
    (lines_part a.self.explicit a.self.names.entries.now a.self.names.store.now a.words.now l.words l.count l.line l.invariant.1 _ (omega arith) (omega arith) (omega arith))

pub loop-line-preserved : goal.loop-line-preserved
loop-line-preserved c = let a = c.args in let l = c.loop-line in let w = c.write_line-count in
    let d = (goal.at.loop-line-preserved c).After-entries_up_to in (
      next d,
      lines-turn a.self.explicit a.self.names.entries.now a.self.names.store.now a.words.now l.words l.count l.line l.invariant.1 _ (omega arith) (omega arith) (omega arith) _ w.result
          (rw (← between-words a.self.names.entries.now l.at l.line (l.at + c.entries_up_to.result) (passed d) l.invariant.0 a.self.names.store.now) w.ensures),
    )

pub returns-then-at-self : goal.returns-then-at-self
returns-then-at-self c = let a = c.args in let l = c.loop-line in
    lines-left a.self.explicit a.self.names.entries.now a.self.names.store.now a.words.now l.words l.count l.line l.invariant.1
    (none-listed a.self.names.entries.now a.self.names.store.now l.at l.line (omega (arith, c.if-at-self.true)) l.invariant.0 l.line (a.self.explicit + 2 - l.line) (omega arith))

pub returns : goal.returns
returns c = let a = c.args in let l = c.loop-line in
    lines-done a.self.explicit a.self.names.entries.now a.self.names.store.now a.words.now l.words l.count l.line l.invariant.1 (omega arith)

pub overflow_add-count : goal.overflow_add-count
overflow_add-count c = let a = c.args in let l = c.loop-line in
    let d = (goal.at.overflow_add-count c).After-entries_up_to in
    let w = rw (between-words a.self.names.entries.now l.at l.line (l.at + c.entries_up_to.result) (passed d) l.invariant.0 a.self.names.store.now) at c.write_line-count.ensures in
    let f = lines_sum a.self.explicit a.self.names.entries.now a.self.names.store.now a.words.now l.words l.count l.line l.invariant.1 _ refl (omega arith) (omega arith) c.write_line-count.result w.counted in omega (arith, f)
