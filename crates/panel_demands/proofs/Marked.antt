-- M1 to M12 hold, by computation. Assumes nothing.
use mathlib.Core.Path.{◌≡◌, refl}
use lib.Dec.{T}
use lib.Ieee.{of_bits, to_bits, is_nan, add, sub, mul, div, lt, of_int}
use lib.ListN.{length}
use Rattle.sizing.specs.Words.{printed_bits}
use Rattle.coordinates.specs.Answers.{origin_zero_answer, grid_line_answer}
use Rattle.template_rules.specs.Explicit.{explicit_size_of, template_size_of, with_areas}
use Rattle.template_rules.specs.Counts.{outside_count, automatic_count, before_count, automatic_tracks, any_empty, all_fixed, every_fixed}
use Rattle.template_rules.specs.Space.{outside_space, repetition_space}
use Rattle.template_rules.specs.Repetitions.{fitting_of, held_of, repetitions_of}
use Rattle.template_rules.specs.Whole.{floor_of, ceiling_of}
use Rattle.name_rules.specs.Rule.{seek, named?}
use Rattle.name_rules.specs.Cases as Names
use Rattle.track_rules.specs.Written.{written_out}
use Rattle.track_rules.specs.Records.{open_to, all_tracks, records_of}
use Rattle.panel_demands.specs.Marked.{M1_to_M12, all}

-- three lines, seven counts, seven placements and one axis
pub how_many : length M1_to_M12 ≡ 18
how_many = refl

pub marked : T (all M1_to_M12)
unfolding origin_zero_answer grid_line_answer explicit_size_of template_size_of with_areas
    outside_count automatic_count before_count automatic_tracks any_empty all_fixed every_fixed outside_space repetition_space fitting_of held_of repetitions_of floor_of ceiling_of
    of_bits lt add mul of_int div sub Names.holds seek named? records_of all_tracks written_out open_to printed_bits is_nan to_bits
marked = tt
