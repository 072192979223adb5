use Rattle.std.proofs.lemmas.Result.{err_from_is_err_and}
use Rattle.sheet_rules.specs.Answers.{noted}
use Rattle.sheet.specs.Steps.{read_under}
use Rattle.sheet.proofs.Answers.{no-pair}
use Rattle.sheet.proofs.read.read_sheet.Goals as goal

pub returns-in_err-read-clause-read : goal.returns-in_err-read-clause-read
unfolding read_under
returns-in_err-read-clause-read c =
    let p = err_from_is_err_and c.from_residual.result c.from_residual.ensures.1 in
    rw (p.1, p.2) c.in_err-read.ensures.read

pub returns-clause-read : goal.returns-clause-read
unfolding read_under
returns-clause-read c = no-pair _ _ _ (noted c.in_ok-read.read.overlap) _ c.in_ok-read.ensures.read
