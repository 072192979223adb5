-- Kinds and sources are small numbers. Assumes nothing.
use Prim.Native.Nat.{◌≤◌}
use native.Mathlib.Omega.{arith}
use Rattle.track_rules.specs.declared.GridTrackKind.{GridTrackKind}
use Rattle.track_rules.specs.declared.GridTrackKind.TheVariants.{Track, Gutter}
use Rattle.track_rules.specs.declared.TrackSource.{TrackSource}
use Rattle.track_rules.specs.declared.TrackSource.TheVariants as Source
use Rattle.track_rules.specs.Numbers.{kind_number, source_number}

-- a kind is 0 or 1
pub kind_small : (k : GridTrackKind) → kind_number k ≤ 1
kind_small Track = omega arith
kind_small Gutter = omega arith

-- a source is at most 5
pub source_small : (s : TrackSource) → source_number s ≤ 5
source_small Source.Negative = omega arith
source_small Source.Template = omega arith
source_small Source.Automatic = omega arith
source_small Source.Area = omega arith
source_small Source.Positive = omega arith
source_small Source.Gutter = omega arith
