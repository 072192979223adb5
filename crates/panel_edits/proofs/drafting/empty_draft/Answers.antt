use Rattle.std.proofs.Common.{rules}
use Rattle.sheet.proofs.Answers.{start-zero}
use Rattle.panel_edits.proofs.drafting.empty_draft.Goals as goal

pub returns : goal.returns
returns c = start-zero _ _ (search rules) c.default-2.ensures
