-- The sizes of a track on an axis as the record of a `track` line, and of a `spare` line.
use Rattle.std.specs.Prelude.{Result, Ok, Err}
use Rattle.coordinates.specs.declared.axis.Axis.{Axis}
use Rattle.coordinates.specs.declared.refusal.Fault.{Fault}
use Rattle.sheet_forms.specs.declared.TrackSizes.{TrackSizes}
use Rattle.sheet_forms.specs.declared.Record.{Record}
use Rattle.sheet_forms.specs.declared.Record.TheVariants.{Track, Spare}

abbrev pub track_of : Result (Axis × TrackSizes) Fault → Result Record Fault
track_of (Ok (axis, sizes)) = Ok (Track axis sizes)
track_of (Err fault) = Err fault

abbrev pub spare_of : Result (Axis × TrackSizes) Fault → Result Record Fault
spare_of (Ok (axis, sizes)) = Ok (Spare axis sizes)
spare_of (Err fault) = Err fault
