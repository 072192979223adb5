-- The worked cases hold. Assumes nothing.
use mathlib.Core.Path.{◌≡◌, refl}
use mathlib.Core.Bool.{true}
use Rattle.free_cells.specs.Steps.{overlaps}
use Rattle.cell_placing.specs.Items.{group_of}
use Rattle.cell_placing.specs.Plain.{all_below, fits, unoccupied, past_in_row, last_of_rest, past_cursor, candidate, first_from, column_in, first_row, place_one, up_to}
use Rattle.cell_placing.specs.Cases.{cases, all_hold, same_lands}

pub cases_hold : all_hold cases ≡ true
unfolding cases all_hold same_lands all_below fits unoccupied past_in_row last_of_rest past_cursor candidate first_from column_in first_row place_one up_to overlaps group_of
cases_hold = refl
