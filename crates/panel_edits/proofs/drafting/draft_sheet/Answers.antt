use native.Mathlib.Omega.{arith}
use mathlib.Core.Path.{◌∙◌}
use Rattle.sheet_step.specs.Drafts.{held_of}
use Rattle.panel_edits.proofs.Bases.{base_long, base_judged, drafted_held}
use Rattle.panel_edits.proofs.drafting.draft_sheet.Goals as goal

pub returns-then-sheet-gt-SHEET_BYTES-clause-answer :
    goal.returns-then-sheet-gt-SHEET_BYTES-clause-answer
returns-then-sheet-gt-SHEET_BYTES-clause-answer c = base_long c.args.sheet.now (omega (arith, c.if-sheet-gt-SHEET_BYTES.true))

pub returns-clause-answer : goal.returns-clause-answer
returns-clause-answer c =
    let a = c.args in
    let k = c.read_lines in
    c.judged_lines.ensures
    ∙ base_judged a.sheet.now (omega arith) (held_of a.draft.now) c.requires k.result (held_of k.new.draft) k.ensures.lines k.ensures.overlap k.ensures.picture

pub returns-clause-held : goal.returns-clause-held
returns-clause-held c =
    let a = c.args in
    let k = c.read_lines in
    drafted_held a.sheet.now (omega arith) (held_of a.draft.now) c.requires k.result (held_of k.new.draft) k.ensures.lines c.judged_lines.result c.judged_lines.ensures
