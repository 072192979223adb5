use Rattle.std.specs.Prelude.{ℕ, Result}
use mathlib.Core.Path.{sym, ap, subst, ◌∙◌}
use Rattle.sheet_rules.specs.declared.LineFault.{LineFault}
use Rattle.sheet_step.specs.Drafts.{held_of}
use Rattle.sheet.specs.Steps.{line_or_none, IsLine}
use Rattle.sheet.specs.Steps.{fault_in, stop_in}
use Rattle.sheet.proofs.Steps.{ends-broken, ends-refused, ends-after}
use Rattle.sheet.proofs.end.read_panel.Goals as goal

pub returns-in-Some-clause-run : goal.returns-in-Some-clause-run
returns-in-Some-clause-run c =
    let a = c.args in
    let k = c.read_lines-lines in
    ends-broken a.sheet.now (held_of a.draft.now) c.in-Some.line (held_of k.new.draft) (subst IsLine c.in-Some.is k.ensures.positive) (ap line_or_none (sym c.in-Some.is) ∙ k.ensures.picture)

pub returns-in-Ok-clause-run : goal.returns-in-Ok-clause-run
returns-in-Ok-clause-run c =
    let a = c.args in
    let k = c.read_lines-lines in
    rw c.at_line-end.ensures
    (ends-after a.sheet.now (held_of a.draft.now) (sym k.ensures.picture ∙ ap line_or_none c.in_default.is) c.in-Ok.line (held_of k.new.draft)
    (ap (λ (r : Result ℕ LineFault). record { fault = fault_in r; line = stop_in r; held = held_of k.new.draft }) (sym c.in-Ok.is) ∙ k.ensures.lines)
    c.end_panel.result (held_of c.end_panel.new.draft) c.end_panel.ensures)

pub returns-in-Err-clause-run : goal.returns-in-Err-clause-run
returns-in-Err-clause-run c =
    let a = c.args in
    let k = c.read_lines-lines in
    ends-refused a.sheet.now (held_of a.draft.now) (sym k.ensures.picture ∙ ap line_or_none c.in_default.is) c.in-Err.refused (held_of k.new.draft) (held_of k.new.draft)
    (ap (λ (r : Result ℕ LineFault). record { fault = fault_in r; line = stop_in r; held = held_of k.new.draft }) (sym c.in-Err.is) ∙ k.ensures.lines)
