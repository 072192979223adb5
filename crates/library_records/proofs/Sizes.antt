-- The word of a size in range, and places among tracks that repeat. Assumes nothing.
use Prim.Native.Nat.{ℕ, ◌+◌, ◌/◌, ◌%◌, ◌≤◌}
use native.Mathlib.Omega.{arith}
use native.Mathlib.Nat.{mod-add-mod}
use mathlib.Core.Path.{◌≡◌, sym, ap, ap₂, subst, ◌∙◌}
use mathlib.Core.Bool.{Bool, true}
use lib.Dec.{T}
use borrow.Author.Tests.{le-leb}
use Rattle.sizing.specs.Words.{largest_bits, float_up_to, sizing_of_kind, sizing_of, size_word_of, kind_of, bits_of}
use Rattle.sizing.specs.Ranges.{value_in_range}
use Rattle.sizing.proofs.Bits.{bits_back}
use Rattle.sizing.proofs.Words.{word_back}
use Rattle.library_numbers.specs.Records.{size_word}

-- the word of a length in range is its own
pub length-word : (word : ℕ) → word ≤ largest_bits → word ≡ size_word (sizing_of word)
unfolding sizing_of sizing_of_kind float_up_to
length-word word h =
    let d : word / 4294967296 ≡ 0 = omega arith in
    let m : word % 4294967296 ≡ word = omega arith in
    rw (d, m, le-leb word largest_bits h) (omega (arith, bits_back word h))

-- and so is that of any size in range
pub range_word : (word : ℕ) (b : Bool) → b ≡ value_in_range (word / 4294967296) (word % 4294967296) → b ≡ true → word ≡ size_word (sizing_of word)
range_word word b e t =
    let kind = word / 4294967296 in
    let bits = word % 4294967296 in
    let w : size_word_of kind bits ≡ word = omega arith in
    let back = word_back kind bits (subst T (sym t ∙ e) tt) in
    sym
    (ap₂ size_word_of (ap (λ (n : ℕ). kind_of (sizing_of n)) (sym w) ∙ back.0) (ap (λ (n : ℕ). bits_of (sizing_of n)) (sym w) ∙ back.1) ∙ w)

-- one place further
pub further : (inner next offset i length : ℕ) → inner ≡ (offset + i) % length → next ≡ (inner + 1) % length → next ≡ (offset + (i + 1)) % length
further inner next offset i length e f =
    let a : offset + i + 1 ≡ offset + (i + 1) = omega arith in
    f ∙ ap (λ (n : ℕ). (n + 1) % length) e ∙ mod-add-mod (offset + i) length 1 ∙ ap (λ (n : ℕ). n % length) a
