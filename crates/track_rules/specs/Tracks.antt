-- Track records (document 01, layer 5).
use Rattle.std.specs.Prelude.{ℕ, Bool, true, false, Result, Ok, Err}
use Rattle.coordinates.specs.Refusals.{Refusal, no_refusal, refusal_of, number_of}
use Rattle.coordinates.specs.declared.refusal.Fault.{Fault}
use Rattle.sizing.specs.Words.{zero32}
use Rattle.sizing.specs.declared.MinMax.{MinMax}
use Rattle.sizing.specs.declared.Sizing.{Sizing}
use Rattle.sizing.specs.declared.Sizing.TheVariants.{Length, Auto}
use Rattle.track_rules.specs.declared.GridTrack.{GridTrack}
use Rattle.track_rules.specs.declared.GridTrackKind.{GridTrackKind}
use Rattle.track_rules.specs.declared.GridTrackKind.TheVariants.{Track, Gutter}
use Rattle.track_rules.specs.declared.TrackSource.{TrackSource}
use Rattle.track_rules.specs.declared.TrackSource.TheVariants as Source
use Rattle.track_rules.specs.declared.WrittenTrack.{WrittenTrack}

abbrev pub zero_size : MinMax
zero_size = record { min = Length zero32; max = Length zero32 }

abbrev pub auto_size : MinMax
auto_size = record { min = Auto; max = Auto }

-- every record; a collapsed one is "a fixed track of size 0" (CSS Grid Level 2, 7.2), and "collapsing keeps the source" (document 02, Req 08)
abbrev pub grid_track : GridTrackKind → TrackSource → MinMax → Bool → GridTrack
grid_track kind source size true = record { kind = kind; collapsed = true; source = source; size = zero_size }
grid_track kind source size false = record { kind = kind; collapsed = false; source = source; size = size }

-- a gutter is as wide as the gap
abbrev pub gutter_of : Sizing → Bool → GridTrack
gutter_of gap collapsed = grid_track Gutter Source.Gutter (record { min = gap; max = gap }) collapsed

-- a track as it is written out, or collapsed
abbrev pub track_of : WrittenTrack → Bool → GridTrack
track_of x collapsed = grid_track Track x.source x.size collapsed

-- the zero value: every number 0, every enum its first case
abbrev pub zero_grid_track : GridTrack
zero_grid_track = grid_track Track Source.Negative zero_size false

-- one record, or a refusal and the zero record
pub record RecordAnswer : Type 0 where
  pub refusal : Refusal
  pub track : GridTrack

-- a refused answer: the number, line 0 and the zero record
abbrev pub refused_record : ℕ → RecordAnswer
refused_record number = record { refusal = refusal_of number; track = zero_grid_track }

-- the numbers and values of what a call for one record answers
abbrev pub answered_record : Result GridTrack Fault → RecordAnswer
answered_record (Ok track) = record { refusal = no_refusal; track = track }
answered_record (Err fault) = refused_record (number_of fault)
