-- What a placement is resolved beside where the name entries of its axis are kept together.
use Rattle.std.specs.Prelude.{ℕ}
use Rattle.coordinates.specs.declared.axis.Axis.{Axis}
use Rattle.name_groups.specs.declared.key.Grouping.TheVariants.{Whole}
use Rattle.panel_resolving.specs.declared.Around.{Around}

abbrev pub whole_around : Axis → ℕ → ℕ → Around
whole_around axis explicit areas = record { axis = axis; explicit = explicit; areas = areas; grouping = Whole }
