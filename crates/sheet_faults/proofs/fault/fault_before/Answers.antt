use mathlib.Core.Path.{sym}
use Rattle.coordinates.specs.Refusals.{number_of}
use Rattle.sheet_faults.proofs.Stages.{own_first}
use Rattle.sheet_faults.proofs.fault.fault_before.Goals as goal

pub returns-in-Err : goal.returns-in-Err
returns-in-Err c = rw c.in-Err.is (sym (own_first (number_of c.in-Err.fault) c.args.reading.stage))
