-- The cases hold, by computation. Assumes nothing.
use lib.Dec.{T}
use Rattle.text.specs.Split.{same}
use Rattle.picture_rules.specs.Picture.{all_dots, is_dots}
use Rattle.picture_rules.specs.Steps.{with_word, runs_of, drawn, fits, run_step, runs_from, row_step, rows_from}
use Rattle.picture_rules.specs.Cases.{every, cases, holds}

pub cases_hold : T (every holds cases)
unfolding holds same all_dots is_dots with_word runs_of drawn fits run_step runs_from row_step rows_from
cases_hold = tt
