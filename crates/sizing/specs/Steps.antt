-- Rules that mirror the code, for its private functions; laws join them to the definitions that public calls cite.
use Rattle.std.specs.Prelude.{ℕ, Bool, false, cond, leb, Float}
use Rattle.std.specs.Float.{binary32}
use Rattle.std.specs.Float.Ieee.{to_bits, is_nan}
use Rattle.sizing.specs.Words.{largest_bits, largest_percent_bits}
use Rattle.sizing.specs.Ranges.{is_percentage, is_keyword}

-- the bits of the largest value of a kind
unfoldable pub largest_bits_of : ℕ → ℕ
largest_bits_of kind = cond (is_percentage kind) largest_percent_bits (cond (is_keyword kind) 0 largest_bits)

-- an f32 whose bits are at most those of the largest number allowed; a NaN has none
unfoldable pub bits_up_to : ℕ → Float → Bool
unfolding is_nan to_bits
bits_up_to most x = cond (is_nan x) false (leb (to_bits binary32 x) most)
