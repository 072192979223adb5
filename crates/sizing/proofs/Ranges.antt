-- A range is one comparison of bits, by one law over its largest number. Assumes nothing.
use Prim.Native.Nat.{ℕ}
use mathlib.Core.Path.{◌≡◌, refl, sym, ap, subst, ◌∙◌}
use mathlib.Core.Bool.{Bool, true, false, cond}
use lib.Dec.{T, leb, lit<}
use lib.Ieee.{Float, nan, inf, fin, binary32, of_bits, to_bits, is_nan, fits}
use lib.Ieee.Bits.{of_bits-to_bits}
use Rattle.sizing.specs.Words.{largest_bits, largest_percent_bits}
use Rattle.sizing.specs.Ranges.{up_to, largest_length, largest_percentage, largest_of, is_percentage, is_keyword}
use Rattle.sizing.specs.Steps.{largest_bits_of, bits_up_to}
use Rattle.sizing.proofs.Patterns.{up-to-bits}

pub length_bits : (bits : ℕ) → up_to largest_length (of_bits binary32 bits) ≡ leb bits largest_bits
length_bits = up-to-bits largest_length largest_bits (lit< tt) refl (lit< tt)

pub percentage_bits : (bits : ℕ) → up_to largest_percentage (of_bits binary32 bits) ≡ leb bits largest_percent_bits
percentage_bits = up-to-bits largest_percentage largest_percent_bits (lit< tt) refl (lit< tt)

zero_bits : (bits : ℕ) → up_to 0 (of_bits binary32 bits) ≡ leb bits 0
zero_bits = up-to-bits 0 0 (lit< tt) refl (lit< tt)

pub kind_bits : (kind bits : ℕ) → up_to (largest_of kind) (of_bits binary32 bits) ≡ leb bits (largest_bits_of kind)
unfolding largest_of largest_bits_of
kind_bits kind bits = go (is_percentage kind) (is_keyword kind)
  where
    go : (p k : Bool) → up_to (cond p largest_percentage (cond k 0 largest_length)) (of_bits binary32 bits) ≡ leb bits (cond p largest_percent_bits (cond k 0 largest_bits))
    go true k = percentage_bits bits
    go false true = zero_bits bits
    go false false = length_bits bits

-- the same of any f32 by its own bits: one that is no NaN has bits that give it back, and a NaN is in no range
pub value_bits : (n most : ℕ) → ((b : ℕ) → up_to n (of_bits binary32 b) ≡ leb b most) → (x : Float) → T (fits binary32 x) → up_to n x ≡ bits_up_to most x
unfolding up_to bits_up_to is_nan
value_bits n most law nan h = refl
value_bits n most law (inf s) h = sym (ap (up_to n) (of_bits-to_bits binary32 (inf s) h)) ∙ law (to_bits binary32 (inf s))
value_bits n most law (fin s m e) h = sym (ap (up_to n) (of_bits-to_bits binary32 (fin s m e) h)) ∙ law (to_bits binary32 (fin s m e))

-- what the two calls of `bits_up_to` say of a number that is an f32
pub length_value : (x : Float) → fits binary32 x ≡ true → bits_up_to largest_bits x ≡ up_to largest_length x
length_value x h = sym (value_bits largest_length largest_bits length_bits x (subst T (sym h) tt))

pub percentage_value : (x : Float) → fits binary32 x ≡ true → bits_up_to largest_percent_bits x ≡ up_to largest_percentage x
percentage_value x h = sym (value_bits largest_percentage largest_percent_bits percentage_bits x (subst T (sym h) tt))
