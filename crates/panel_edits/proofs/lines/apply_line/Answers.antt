use Rattle.text.specs.Split.{split}
use Rattle.coordinates.specs.Refusals.{fault_number}
use Rattle.panel_cells.specs.Steps.{area_number_of}
use Rattle.sheet_step.specs.Drafts.{held_of}
use Rattle.sheet.proofs.Steps.{shared-few}
use Rattle.panel_edits.specs.Applied.{reopened_held}
use Rattle.panel_edits.proofs.Drafts.{line_said}
use Rattle.panel_edits.proofs.lines.apply_line.Goals as goal

pub judged-requires : goal.judged-requires
judged-requires c = rw c.edit_line-read.ensures.overlap (shared-few (reopened_held (held_of c.args.draft.now)) _)

pub returns : goal.returns
returns c =
    let a = c.args in
    let k = c.edit_line-read in
    rw c.judged.ensures
    (line_said a.draft.now (split 9 a.text.now) (area_number_of k.result.shared) (record { fault = fault_number k.result.fault; held = held_of k.new.draft }) k.ensures.read k.ensures.overlap)
