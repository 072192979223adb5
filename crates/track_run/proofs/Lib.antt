-- Laws of the lent run. The theorems that a reader looks for:
--   `filled-run`: the loop leaves the records of the axis and the rest of the run as it was
--   `run-accepted`: the run after an accepted call
--   `run-line-record`: the third demand's track claim, of the lent run after the call
pub mod Filling
