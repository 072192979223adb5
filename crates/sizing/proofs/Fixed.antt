-- A size has a definite value exactly where its kind is fixed, and so has a track with a fixed kind: what the Rust unwraps. Assumes nothing.
use Rattle.std.specs.Prelude.{Option, Some, None}
use mathlib.Core.Path.{◌≡◌, refl}
use mathlib.Core.Bool.{◌||◌}
use lib.Ieee.{Float}
use Rattle.sizing.specs.declared.Sizing.{Sizing}
use Rattle.sizing.specs.declared.Sizing.TheVariants.{Length, Percent, Fraction, Auto, MinContent, MaxContent, FitContentLength, FitContentPercent}
use Rattle.sizing.specs.declared.MinMax.{MinMax}
use Rattle.sizing.specs.Definite.{definite_of, is_definite, raised_or, track_value_of, is_fixed, fixed_track}

pub fixed_definite : (size : Sizing) (inner : Float) → is_definite (definite_of size inner) ≡ is_fixed size
fixed_definite (Length v) inner = refl
fixed_definite (Percent p) inner = refl
fixed_definite (Fraction v) inner = refl
fixed_definite Auto inner = refl
fixed_definite MinContent inner = refl
fixed_definite MaxContent inner = refl
fixed_definite (FitContentLength v) inner = refl
fixed_definite (FitContentPercent p) inner = refl

raised_definite : (maximum minimum : Option Float) → is_definite (raised_or maximum minimum) ≡ is_definite minimum || is_definite maximum
raised_definite (Some b) (Some s) = refl
raised_definite (Some b) None = refl
raised_definite None (Some s) = refl
raised_definite None None = refl

pub fixed_track_definite : (track : MinMax) (inner : Float) → is_definite (track_value_of track inner) ≡ fixed_track track
fixed_track_definite track inner =
    rw (raised_definite, fixed_definite track.min inner, fixed_definite track.max inner)
