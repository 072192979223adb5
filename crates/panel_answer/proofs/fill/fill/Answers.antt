use Prim.Native.Nat.{ℕ, ◌+◌, ◌-◌, ◌≤◌}
use mathlib.Core.Path.{◌≡◌, sym, ap, subst}
use mathlib.Core.Bool.{false}
use mathlib.Core.List.{List}
use native.Mathlib.Omega.{arith}
use lib.ListN.{length, take, drop}
use Rattle.std.specs.Prelude.{Option}
use Rattle.sheet_rules.specs.Panels.{tables_in}
use Rattle.panel_text.specs.Written.{WritesLine}
use Rattle.panel_answer.specs.declared.AnswerLine.{AnswerLine as Told}
use Rattle.panel_answer.specs.Answer.{GridHeld, held_with}
use Rattle.panel_answer.specs.Listed.{AnswerLine, answered_line, answered_next}
use Rattle.panel_answer.specs.Walk.{is_end, line_text, line_after}
use Rattle.panel_answer.proofs.Text.{one_fewer}
use Rattle.panel_answer.proofs.Fills.{Writing, rest-lent, rest_back, not-end, some_left, begun, line-more, none_left, in_room}
use Rattle.panel_answer.proofs.fill.fill.Goals as goal

pub returns : goal.returns
returns c =
    let a = c.args in
    let l = c.loop-next in
    let h : GridHeld = held_with a.grid a.lent a.lands.now in
    let (same, within, w) = l.invariant in
    record { written = w.written; fewer = λ room (g : is_end (answered_next a.at) ≡ false). none_left a.out.now h (answered_next a.at) (answered_next l.next) (ap (λ (n : Option Told). is_end (answered_next n)) c.in_default.is) g }

pub returns-then-out-count-lt-LINE_BYTES : goal.returns-then-out-count-lt-LINE_BYTES
returns-then-out-count-lt-LINE_BYTES c =
    let a = c.args in
    let l = c.loop-next in
    let h : GridHeld = held_with a.grid a.lent a.lands.now in
    let (same, within, w) = l.invariant in
    let v : Writing a.out.now h (answered_next a.at) (answered_line c.in-Some.line) l.out l.count = subst (λ (n : Option Told). Writing a.out.now h (answered_next a.at) (answered_next n) l.out l.count) c.in-Some.is w in
    record { written = v.written; fewer = λ (room : 128 ≤ length a.out.now) (g : is_end (answered_next a.at) ≡ false). v.fewer (omega (arith, same, within, room, c.if-out-count-lt-LINE_BYTES.true)) }

pub loop-next-init : goal.loop-next-init
loop-next-init c = let a = c.args in in_room a.out.now (held_with a.grid a.lent a.lands.now) (answered_next a.at) (answered_next a.at) a.out.now 0 (begun a.out.now (held_with a.grid a.lent a.lands.now) (answered_next a.at))

pub loop-next-preserved : goal.loop-next-preserved
unfolding tables_in
loop-next-preserved c =
    let a = c.args in
    let l = c.loop-next in
    let h : GridHeld = held_with a.grid a.lent a.lands.now in
    let at : AnswerLine = answered_next a.at in
    let line : AnswerLine = answered_line c.in-Some.line in
    let (same, within, w) = l.invariant in
    let k = c.put_line-count in
    let p : WritesLine (take (length l.out - l.count) (drop l.count l.out)) (line_text h line) k.new.out k.result = k.ensures in
    let v : Writing a.out.now h at line l.out l.count = subst (λ (n : Option Told). Writing a.out.now h at (answered_next n) l.out l.count) c.in-Some.is w in
    let more = line-more a.out.now h at line l.out k.new.out l.count k.result v (not-end c.in-Some.line) (omega (arith, same, within, c.if-out-count-lt-LINE_BYTES.false)) (subst (λ (z : List ℕ). WritesLine z (line_text h line) k.new.out k.result) (rest-lent l.out l.count) p) in
    rw c.next_line-next.ensures
    (in_room a.out.now h at (line_after h line) _ (l.count + k.result)
    (subst (λ (z : List ℕ). Writing a.out.now h at (line_after h line) z (l.count + k.result)) (sym (rest_back l.out k.new.out l.count)) more))

pub loop-next-smaller : goal.loop-next-smaller
unfolding tables_in
loop-next-smaller c =
    let h : GridHeld = held_with c.args.grid c.args.lent c.args.lands.now in
    let line : AnswerLine = answered_line c.in-Some.line in
    rw (c.in-Some.is, c.next_line-next.ensures) (omega (arith, one_fewer h line (some_left h line (not-end c.in-Some.line))))
