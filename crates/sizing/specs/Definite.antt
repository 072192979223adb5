-- The definite size of a track or a gap in an inner size (document 01, layers 2 and 3).
use Rattle.std.specs.Prelude.{Bool, true, false, cond, ◌||◌, Float, Option, Some, None}
use Rattle.std.specs.Float.{binary32}
use Rattle.std.specs.Float.Ieee.{mul, lt}
use Rattle.sizing.specs.declared.Sizing.{Sizing}
use Rattle.sizing.specs.declared.Sizing.TheVariants.{Length, Percent, Fraction, Auto, MinContent, MaxContent, FitContentLength, FitContentPercent}
use Rattle.sizing.specs.declared.MinMax.{MinMax}
use Rattle.sizing.specs.Words.{zero32}

-- without an inner size a length alone is definite: there is nothing to take a percentage of
abbrev pub length_alone : Sizing → Option Float
length_alone (Length v) = Some v
length_alone (Percent p) = None
length_alone (Fraction v) = None
length_alone Auto = None
length_alone MinContent = None
length_alone MaxContent = None
length_alone (FitContentLength v) = None
length_alone (FitContentPercent p) = None

-- a length, or a percentage times the inner size (layer 2); no other kind has a definite size
abbrev pub definite_of : Sizing → Float → Option Float
definite_of (Length v) inner = Some v
definite_of (Percent p) inner = Some (mul binary32 p inner)
definite_of (Fraction v) inner = None
definite_of Auto inner = None
definite_of MinContent inner = None
definite_of MaxContent inner = None
definite_of (FitContentLength v) inner = None
definite_of (FitContentPercent p) inner = None

abbrev pub is_definite : Option Float → Bool
is_definite (Some v) = true
is_definite None = false

-- a maximum raised to a minimum
abbrev pub raised_to : Float → Float → Float
raised_to maximum minimum = cond (lt maximum minimum) minimum maximum

-- the definite maximum raised to the definite minimum, else the minimum (layer 3)
abbrev pub raised_or : Option Float → Option Float → Option Float
raised_or (Some maximum) (Some minimum) = Some (raised_to maximum minimum)
raised_or (Some maximum) None = Some maximum
raised_or None minimum = minimum

-- what a track counts as in an inner size (layer 3)
abbrev pub track_value_of : MinMax → Float → Option Float
track_value_of t inner = raised_or (definite_of t.max inner) (definite_of t.min inner)

-- 0 for what has no definite size
abbrev pub or_zero : Option Float → Float
or_zero (Some v) = v
or_zero None = zero32

-- `resolve_or_zero` of a gap (layer 2): the length, or the fraction times the inner size
abbrev pub gap_of : Sizing → Float → Float
gap_of gap inner = or_zero (definite_of gap inner)

-- length and percentage are the fixed kinds (layer 2)
abbrev pub is_fixed : Sizing → Bool
is_fixed (Length v) = true
is_fixed (Percent p) = true
is_fixed (Fraction v) = false
is_fixed Auto = false
is_fixed MinContent = false
is_fixed MaxContent = false
is_fixed (FitContentLength v) = false
is_fixed (FitContentPercent p) = false

-- a track with a fixed kind at one end (layer 3)
abbrev pub fixed_track : MinMax → Bool
fixed_track t = is_fixed t.min || is_fixed t.max
