-- A size as one word of a lent table: its kind times 2^32, and the bits of its f32. Any word gives a size.
use Rattle.std.specs.Prelude.{ℕ, ◌+◌, ◌*◌, ◌/◌, ◌%◌, cond, eqb, leb, Float}
use Rattle.std.specs.Float.{binary32}
use Rattle.std.specs.Float.Ieee.{of_bits, to_bits, is_nan}
use Rattle.sizing.specs.declared.Sizing.{Sizing}
use Rattle.sizing.specs.declared.Sizing.TheVariants.{Length, Percent, Fraction, Auto, MinContent, MaxContent, FitContentLength, FitContentPercent}
use Rattle.sizing.specs.declared.MinMax.{MinMax}

abbrev pub zero32 : Float
zero32 = of_bits binary32 0

-- the bits of 65,535, the largest length, fraction, gap and inner size
abbrev pub largest_bits : ℕ
largest_bits = 0x477f_ff00

-- the bits of 10, the largest percentage
abbrev pub largest_percent_bits : ℕ
largest_percent_bits = 0x4120_0000

-- the f32 of a bit pattern from 0 to that of the largest number allowed, else 0
unfoldable pub float_up_to : ℕ → ℕ → Float
float_up_to most bits = cond (leb bits most) (of_bits binary32 bits) zero32

-- kinds in the order of a sheet's words: len pct fr auto min max fitl fitp; any other is auto
unfoldable pub sizing_of_kind : ℕ → ℕ → Sizing
sizing_of_kind kind bits =
    cond (eqb kind 0) (Length (float_up_to largest_bits bits))
    (cond (eqb kind 1) (Percent (float_up_to largest_percent_bits bits))
    (cond (eqb kind 2) (Fraction (float_up_to largest_bits bits))
    (cond (eqb kind 4) MinContent
    (cond (eqb kind 5) MaxContent
    (cond (eqb kind 6) (FitContentLength (float_up_to largest_bits bits))
    (cond (eqb kind 7) (FitContentPercent (float_up_to largest_percent_bits bits)) Auto))))))

unfoldable pub sizing_of : ℕ → Sizing
unfolding sizing_of_kind
sizing_of word = sizing_of_kind (word / 4294967296) (word % 4294967296)

abbrev pub min_max_of : ℕ → ℕ → MinMax
min_max_of low high = record { min = sizing_of low; max = sizing_of high }

-- the word of a kind and bits
abbrev pub size_word_of : ℕ → ℕ → ℕ
size_word_of kind bits = kind * 4294967296 + bits

-- the kind that a size is printed by
abbrev pub kind_of : Sizing → ℕ
kind_of (Length v) = 0
kind_of (Percent p) = 1
kind_of (Fraction v) = 2
kind_of Auto = 3
kind_of MinContent = 4
kind_of MaxContent = 5
kind_of (FitContentLength v) = 6
kind_of (FitContentPercent p) = 7

-- the bits of an f32; a NaN, which is no size, is printed as 0
unfoldable pub printed_bits : Float → ℕ
unfolding is_nan to_bits
printed_bits x = cond (is_nan x) 0 (to_bits binary32 x)

-- the bits that a size is printed by; a keyword has value zero
abbrev pub bits_of : Sizing → ℕ
bits_of (Length v) = printed_bits v
bits_of (Percent p) = printed_bits p
bits_of (Fraction v) = printed_bits v
bits_of Auto = 0
bits_of MinContent = 0
bits_of MaxContent = 0
bits_of (FitContentLength v) = printed_bits v
bits_of (FitContentPercent p) = printed_bits p
