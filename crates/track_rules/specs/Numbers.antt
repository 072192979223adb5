-- What a record is and where it came from, as numbers.
use Rattle.std.specs.Prelude.{ℕ}
use Rattle.track_rules.specs.declared.GridTrackKind.{GridTrackKind}
use Rattle.track_rules.specs.declared.GridTrackKind.TheVariants.{Track, Gutter}
use Rattle.track_rules.specs.declared.TrackSource.{TrackSource}
use Rattle.track_rules.specs.declared.TrackSource.TheVariants as Source

abbrev pub kind_number : GridTrackKind → ℕ
kind_number Track = 0
kind_number Gutter = 1

-- in the order of document 02, Req 08: negative implicit, template, automatic repeat, area only, positive implicit, gutter
abbrev pub source_number : TrackSource → ℕ
source_number Source.Negative = 0
source_number Source.Template = 1
source_number Source.Automatic = 2
source_number Source.Area = 3
source_number Source.Positive = 4
source_number Source.Gutter = 5
