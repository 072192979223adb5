use Rattle.std.proofs.Common.{rules, ◌≡◌, arith, ◌∙◌, drop}
use Rattle.std.proofs.lemmas.Grind.{common_steps}
use Rattle.history_lines.specs.Found.{Unmarked, MarkedBy}
use Rattle.history_lines.proofs.Steps.{line_unmarked, line_open, line_found}
use Rattle.history_lines.proofs.find.find_line.Goals as goal

pub returns-in_err-text : goal.returns-in_err-text
returns-in_err-text c =
    let a = c.args in
    let cut : c.in_ok-get.field-0.now ≡ drop a.place a.s.now = grind (arith, common_steps) in
    let m : Unmarked a.number (drop a.place a.s.now) = rw (← cut) (search rules) in
    c.from_residual-in_err-text.ensures ∙ line_unmarked a.number a.s.now a.place m

pub returns-in_err-length : goal.returns-in_err-length
returns-in_err-length c =
    let a = c.args in
    let cut : c.in_ok-get.field-0.now ≡ drop a.place a.s.now = grind (arith, common_steps) in
    let m : MarkedBy a.number (drop a.place a.s.now) c.in_ok-text.text.now = rw (← cut) (search rules) in
    c.from_residual-in_err-length.ensures ∙ line_open a.number a.s.now a.place c.in_ok-text.text.now (grind (arith, common_steps)) m (search rules)

pub returns : goal.returns
returns c =
    let a = c.args in
    let cut : c.in_ok-get.field-0.now ≡ drop a.place a.s.now = grind (arith, common_steps) in
    let m : MarkedBy a.number (drop a.place a.s.now) c.in_ok-text.text.now = rw (← cut) (search rules) in
    search (rules, line_found a.number a.s.now a.place c.in_ok-text.text.now (grind (arith, common_steps)) m)
