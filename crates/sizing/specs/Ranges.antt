-- The ranges of sizes (document 01, panel ranges and panel sheet), over the exact value of an f32.
use Rattle.std.specs.Prelude.{ℕ, ◌*◌, Bool, true, false, not, cond, ◌&&◌, ◌||◌, leb, eqb, Float}
use Rattle.std.specs.Float.{nan, inf, fin, binary32}
use Rattle.std.specs.Float.Ieee.{of_bits, up, down}
use Rattle.sizing.specs.declared.Sizing.{Sizing}
use Rattle.sizing.specs.declared.Sizing.TheVariants.{Length, Percent, Fraction, Auto, MinContent, MaxContent, FitContentLength, FitContentPercent}

-- a number from 0 to n, no minus zero; `fin s m e` is m * up e / down e, negative where s
unfoldable pub up_to : ℕ → Float → Bool
up_to n nan = false
up_to n (inf s) = false
up_to n (fin s m e) = not s && leb (m * up e) (n * down e)

-- lengths, gaps, fractions and inner sizes are 0 to 65,535
abbrev pub largest_length : ℕ
largest_length = 65535

-- percentages are 0 to 10
abbrev pub largest_percentage : ℕ
largest_percentage = 10

-- kinds are numbers 0 to 7 in the order of a sheet's words: len pct fr auto min max fitl fitp
abbrev pub is_kind : ℕ → Bool
is_kind kind = leb kind 7

-- pct and fitp
abbrev pub is_percentage : ℕ → Bool
is_percentage kind = eqb kind 1 || eqb kind 7

-- auto, min and max
abbrev pub is_keyword : ℕ → Bool
is_keyword kind = eqb kind 3 || (eqb kind 4 || eqb kind 5)

-- fractions and fit-content are for the maximum only (layer 2)
abbrev pub maximum_only : ℕ → Bool
maximum_only kind = eqb kind 2 || (eqb kind 6 || eqb kind 7)

-- a kind that a minimum may have
unfoldable pub minimum_kind : ℕ → Bool
minimum_kind kind = not (maximum_only kind) && is_kind kind

-- the largest value of a kind; a keyword has value zero
unfoldable pub largest_of : ℕ → ℕ
largest_of kind = cond (is_percentage kind) largest_percentage (cond (is_keyword kind) 0 largest_length)

-- bits give a size in the range of its kind, else they are refused by 3
unfoldable pub value_in_range : ℕ → ℕ → Bool
unfolding up_to largest_of
value_in_range kind bits = is_kind kind && up_to (largest_of kind) (of_bits binary32 bits)

-- the same for an inner size
unfoldable pub length_in_range : ℕ → Bool
unfolding up_to
length_in_range bits = up_to largest_length (of_bits binary32 bits)

-- a size whose number is in the range of its kind
abbrev pub sizing_in_range : Sizing → Bool
sizing_in_range (Length v) = up_to largest_length v
sizing_in_range (Percent p) = up_to largest_percentage p
sizing_in_range (Fraction v) = up_to largest_length v
sizing_in_range Auto = true
sizing_in_range MinContent = true
sizing_in_range MaxContent = true
sizing_in_range (FitContentLength v) = up_to largest_length v
sizing_in_range (FitContentPercent p) = up_to largest_percentage p
