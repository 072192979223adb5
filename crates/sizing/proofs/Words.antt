-- A size in range is printed as it was read, and every word gives a size in range. Assumes nothing.
use Rattle.std.specs.Prelude.{Some, None}
use Prim.Native.Nat.{ℕ, zero, suc, ◌/◌, ◌%◌, ◌≤◌, ◌<◌}
use mathlib.Core.Path.{◌≡◌, refl, sym, subst, ◌∙◌}
use mathlib.Core.Bool.{Bool, true, false, cond}
use native.Mathlib.Omega.{arith}
use lib.Dec.{T, leb, eqb, leb→le, lit≤}
use lib.Ieee.{Float, binary32, of_bits, mul}
use lib.Ieee.Fits.{and_l, and_r}
use borrow.Author.Tests.{le-leb, ne_eqb}
use Rattle.sizing.specs.declared.Sizing.{Sizing}
use Rattle.sizing.specs.Words.{zero32, largest_bits, largest_percent_bits, float_up_to, sizing_of_kind, sizing_of, size_word_of, kind_of, printed_bits, bits_of}
use Rattle.sizing.specs.Definite.{definite_of}
use Rattle.sizing.specs.Ranges.{up_to, largest_length, largest_percentage, largest_of, is_kind, is_percentage, is_keyword, value_in_range, sizing_in_range}
use Rattle.sizing.specs.Steps.{largest_bits_of}
use Rattle.sizing.proofs.Bits.{bits_back}
use Rattle.sizing.proofs.Ranges.{length_bits, percentage_bits, kind_bits}

-- ---- every word gives a size in range
up_to_self : (n most bits : ℕ) → ((b : ℕ) → up_to n (of_bits binary32 b) ≡ leb b most) → T (up_to n (float_up_to most bits))
unfolding float_up_to
up_to_self n most bits law = go (leb bits most) (law bits)
  where
    go : (t : Bool) → up_to n (of_bits binary32 bits) ≡ t → T (up_to n (cond t (of_bits binary32 bits) zero32))
    go true e = subst T (sym e) tt
    go false e = subst T (sym (law 0 ∙ le-leb 0 most (omega arith))) tt

either : (t : Bool) (a b : Sizing) → T (sizing_in_range a) → T (sizing_in_range b) → T (sizing_in_range (cond t a b))
either true a b p q = p
either false a b p q = q

kind_in_range : (kind bits : ℕ) → T (sizing_in_range (sizing_of_kind kind bits))
unfolding sizing_of_kind
kind_in_range kind bits =
    let l = up_to_self largest_length largest_bits bits length_bits in
    let p = up_to_self largest_percentage largest_percent_bits bits percentage_bits in
    either (eqb kind 0) _ _ l
    (either (eqb kind 1) _ _ p
    (either (eqb kind 2) _ _ l
    (either (eqb kind 4) _ _ tt
    (either (eqb kind 5) _ _ tt
    (either (eqb kind 6) _ _ l
    (either (eqb kind 7) _ _ p tt))))))

pub length_in_range_lem : (bits : ℕ) → T (up_to largest_length (float_up_to largest_bits bits))
length_in_range_lem bits = up_to_self largest_length largest_bits bits length_bits

pub sizing_in_range_lem : (word : ℕ) → T (sizing_in_range (sizing_of word))
unfolding sizing_of
sizing_in_range_lem word = kind_in_range (word / 4294967296) (word % 4294967296)

-- ---- the kind and bits of a size in range come back
within : (kind bits : ℕ) → T (value_in_range kind bits) → (kind ≤ 7) × (bits ≤ largest_bits_of kind)
unfolding value_in_range
within kind bits h = (
  leb→le kind 7 (and_l (is_kind kind) (up_to (largest_of kind) (of_bits binary32 bits)) h),
  leb→le bits (largest_bits_of kind) (subst T (kind_bits kind bits) (and_r (is_kind kind) (up_to (largest_of kind) (of_bits binary32 bits)) h)),
)

float_back : (most bits : ℕ) → most ≤ largest_bits → bits ≤ most → printed_bits (float_up_to most bits) ≡ bits
unfolding float_up_to
float_back most bits h k = rw (le-leb bits most k) (bits_back bits (omega arith))

parts : (kind bits : ℕ) → bits < 4294967296 → sizing_of (size_word_of kind bits) ≡ sizing_of_kind kind bits
unfolding sizing_of
parts kind bits h =
    let k : size_word_of kind bits / 4294967296 ≡ kind = omega arith in
    let b : size_word_of kind bits % 4294967296 ≡ bits = omega arith in
    rw (k, b)

abbrev Back : ℕ → ℕ → Sizing → Type 0
Back kind bits size = (kind_of size ≡ kind) × (bits_of size ≡ bits)

at_most_zero : (bits : ℕ) → bits ≤ 0 → 0 ≡ bits
at_most_zero bits h = omega arith

kind_back : (kind bits : ℕ) → kind ≤ 7 → bits ≤ largest_bits_of kind → Back kind bits (sizing_of_kind kind bits)
unfolding sizing_of_kind largest_bits_of
kind_back zero bits k h = (refl, float_back largest_bits bits (lit≤ tt) h)
kind_back (suc zero) bits k h = (refl, float_back largest_percent_bits bits (lit≤ tt) h)
kind_back (suc (suc zero)) bits k h = (refl, float_back largest_bits bits (lit≤ tt) h)
kind_back (suc (suc (suc zero))) bits k h = (refl, at_most_zero bits h)
kind_back (suc (suc (suc (suc zero)))) bits k h = (refl, at_most_zero bits h)
kind_back (suc (suc (suc (suc (suc zero))))) bits k h = (refl, at_most_zero bits h)
kind_back (suc (suc (suc (suc (suc (suc zero)))))) bits k h = (refl, float_back largest_bits bits (lit≤ tt) h)
kind_back (suc (suc (suc (suc (suc (suc (suc zero))))))) bits k h = (refl, float_back largest_percent_bits bits (lit≤ tt) h)
kind_back (suc (suc (suc (suc (suc (suc (suc (suc n)))))))) bits k h = absurd (over n k)
  where
    over : (n : ℕ) → suc (suc (suc (suc (suc (suc (suc (suc n))))))) ≤ 7 → ⊥
    over n k = omega arith

largest-small : (kind : ℕ) → largest_bits_of kind ≤ largest_bits
unfolding largest_bits_of
largest-small kind = go (is_percentage kind) (is_keyword kind)
  where
    go : (p k : Bool) → cond p largest_percent_bits (cond k 0 largest_bits) ≤ largest_bits
    go true k = lit≤ tt
    go false true = lit≤ tt
    go false false = lit≤ tt

pub word_back : (kind bits : ℕ) → T (value_in_range kind bits) → (kind_of (sizing_of (size_word_of kind bits)) ≡ kind) × (bits_of (sizing_of (size_word_of kind bits)) ≡ bits)
word_back kind bits h =
    let w = within kind bits h in
    let l = largest-small kind in
    subst (Back kind bits) (sym (parts kind bits (omega arith))) (kind_back kind bits w.0 w.1)

-- a word up to that of the largest length is of kind 0, and its bits are itself
pub length_word : (w : ℕ) (inner : Float) → w ≤ 0x477fff00 → definite_of (sizing_of w) inner ≡ Some (float_up_to largest_bits w)
unfolding sizing_of sizing_of_kind
length_word w inner h =
    let kind : w / 4294967296 ≡ 0 = omega arith in
    let bits : w % 4294967296 ≡ w = omega arith in
    rw (kind, bits)

-- a word from that of a percentage of 0 to that of the largest is of kind 1
pub percentage_word : (w : ℕ) (inner : Float) → 4294967296 ≤ w → w ≤ 5387583488 → definite_of (sizing_of w) inner ≡ Some (mul binary32 (float_up_to largest_percent_bits (w % 4294967296)) inner)
unfolding sizing_of sizing_of_kind
percentage_word w inner low high =
    let kind : w / 4294967296 ≡ 1 = omega arith in
    rw kind

none_either : (t : Bool) (a b : Sizing) (inner : Float) → definite_of a inner ≡ None → definite_of b inner ≡ None → definite_of (cond t a b) inner ≡ None
none_either true a b inner p q = p
none_either false a b inner p q = q

kind_indefinite : (kind bits : ℕ) (inner : Float) → 2 ≤ kind → definite_of (sizing_of_kind kind bits) inner ≡ None
unfolding sizing_of_kind
kind_indefinite kind bits inner h =
    let length : eqb kind 0 ≡ false = ne_eqb kind 0 (λ y. omega (arith, y)) in
    let percentage : eqb kind 1 ≡ false = ne_eqb kind 1 (λ y. omega (arith, y)) in
    rw (length, percentage) (none_either (eqb kind 2) _ _ inner refl
    (none_either (eqb kind 4) _ _ inner refl
    (none_either (eqb kind 5) _ _ inner refl
    (none_either (eqb kind 6) _ _ inner refl
    (none_either (eqb kind 7) _ _ inner refl refl)))))

-- a word from that of a fraction of 0 on is of a kind without a definite size
pub indefinite_word : (w : ℕ) (inner : Float) → 8589934592 ≤ w → definite_of (sizing_of w) inner ≡ None
unfolding sizing_of
indefinite_word w inner h = kind_indefinite (w / 4294967296) (w % 4294967296) inner (omega arith)
