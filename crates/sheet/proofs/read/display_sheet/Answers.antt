use Rattle.std.proofs.lemmas.Result.{err_from_is_err_and}
use Rattle.std.proofs.lemmas.Grind.{common_steps}
use native.Mathlib.Omega.{arith}
use Rattle.sheet_rules.specs.Answers.{noted}
use Rattle.sheet.proofs.Answers.{display_read, display_refused}
use Rattle.sheet.proofs.read.display_sheet.Goals as goal

pub returns-in_err-read-clause-display : goal.returns-in_err-read-clause-display
returns-in_err-read-clause-display c =
    let p = err_from_is_err_and c.from_residual.result c.from_residual.ensures.1 in
    rw (p.1, p.2) (display_refused _ _ _ _ c.in_err-read.ensures.read)

pub returns-clause-display : goal.returns-clause-display
returns-clause-display c =
    display_read _ _ _ (noted c.in_ok-read.read.overlap) _ _ _ c.in_ok-read.ensures.read (grind (arith, common_steps)) (grind (arith, common_steps))
