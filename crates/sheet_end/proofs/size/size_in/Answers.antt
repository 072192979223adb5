use Rattle.std.specs.Prelude.{Some, None}
use mathlib.Core.Bool.{Bool, true, false, cond}
use lib.Dec.{T, eqb}
use lib.Ieee.Fits.{and_i}
use Rattle.sizing.specs.Words.{float_up_to, largest_bits, sizing_of}
use Rattle.sizing.specs.Ranges.{sizing_in_range}
use Rattle.sizing.proofs.Words.{length_in_range_lem, sizing_in_range_lem}
use Rattle.template_rules.specs.Explicit.{inner_in_range, space_in_range}
use Rattle.template_rules.proofs.Answer.{answer-in-range}
use Rattle.axis_tables.specs.declared.AxisSpace.{AxisSpace}
use Rattle.axis_tables.specs.Reads.{inner_in}
use Rattle.sheet_end.specs.End.{size_in}
use Rattle.sheet_end.proofs.size.size_in.Goals as goal

-- whatever the state holds, its inner size and its gap are read as sizes in range
inner-ranged : (s : AxisSpace) → T (inner_in_range (inner_in s))
inner-ranged s = go (eqb s.definite 0)
  where
    go : (t : Bool) → T (inner_in_range (cond t None (Some (float_up_to largest_bits s.inner))))
    go true = tt
    go false = length_in_range_lem s.inner

ranged : (s : AxisSpace) → T (space_in_range (inner_in s) (sizing_of s.gap))
ranged s = and_i (inner_in_range (inner_in s)) (sizing_in_range (sizing_of s.gap)) (inner-ranged s) (sizing_in_range_lem s.gap)

pub returns : goal.returns
unfolding size_in
returns c = rw (c.compute_explicit_grid_size_in_axis.ensures, c.from.ensures, c.template_in.ensures.maximums, c.template_in.ensures.minimums, c.template_in.ensures.components)
    (answer-in-range _ _ _ _ _ (ranged c.args.state.grid.space))
