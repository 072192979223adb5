-- A whole size is found exactly where there is one. Assumes nothing.
use Rattle.std.specs.Prelude.{Some, None}
use Prim.Native.Nat.{ℕ, ◌*◌, ◌/◌, ◌≤◌, ◌<◌, min}
use mathlib.Core.Path.{◌≡◌, refl, sym, ap, ◌∙◌, subst}
use mathlib.Core.Logic.{◌↔◌}
use mathlib.Core.Bool.{Bool, true, false, cond, ◌&&◌, true≢false}
use native.Mathlib.Nat.{div-lt_iff_lt-mul, mul-one, mul-div_cancel, mul_right_comm, eq_of_mul-eq-mul_right}
use native.Mathlib.Omega.{arith}
use borrow.Author.Tests.{le-leb, eqb-true, eq-eqb}
use lib.IntN.{pos}
use lib.Dec.{T, leb, eqb, leb→le}
use lib.Ieee.{Float, nan, inf, fin, up, down, binary32, eq, fits, of_bits}
use lib.Ieee.Bits.{of_bits-fits}
use lib.Ieee.Fits.{down_pos, of_int-fits}
use Rattle.sizing.specs.Ranges.{up_to, largest_length}
use Rattle.sizing.specs.Words.{zero32, float_up_to, largest_bits}
use Rattle.sizing.proofs.Rounding.{value_unique}
use Rattle.sizing.proofs.Ranges.{length_bits}
use Rattle.template_rules.specs.Whole.{floor_of, largest_count}
use Rattle.template_rules.specs.Space.{whole32}
use Rattle.template_rules.proofs.WholeNumbers.{Is, count-is}
use Rattle.least_resize.specs.Whole.{IsPixels, whole_size_of}

-- ---- the f32 of an inner size: in range, and a value of the format
in_range : (bits : ℕ) → T (up_to largest_length (float_up_to largest_bits bits))
unfolding float_up_to
in_range bits = go (leb bits largest_bits) (length_bits bits)
  where
    go : (t : Bool) → up_to largest_length (of_bits binary32 bits) ≡ t → T (up_to largest_length (cond t (of_bits binary32 bits) zero32))
    go true e = subst T (sym e) tt
    go false e = subst T (sym (length_bits 0 ∙ le-leb 0 largest_bits (omega arith))) tt

of_format : (bits : ℕ) → T (fits binary32 (float_up_to largest_bits bits))
unfolding float_up_to
of_format bits = go (leb bits largest_bits)
  where
    go : (t : Bool) → T (fits binary32 (cond t (of_bits binary32 bits) zero32))
    go true = of_bits-fits binary32 bits
    go false = of_bits-fits binary32 0

-- ---- floor and comparison
pub floor_le : (x : Float) → T (up_to largest_length x) → floor_of x ≤ 65535
unfolding up_to floor_of
floor_le nan h = absurd h
floor_le (inf s) h = absurd h
floor_le (fin true m e) h = absurd h
floor_le (fin false m e) h = capped (m * up e / down e) ((div-lt_iff_lt-mul {y = 65536} (down_pos e)).1 (less (m * up e) (down e) (down_pos e) (leb→le (m * up e) (65535 * down e) h)))
  where
    less : (a d : ℕ) → 0 < d → a ≤ 65535 * d → a < 65536 * d
    less a d p h = omega arith

    capped : (q : ℕ) → q < 65536 → min q 4294967295 ≤ 65535
    capped q h = omega arith

pub size_le : (bits n : ℕ) → n ≡ floor_of (float_up_to largest_bits bits) → n ≤ 65535
size_le bits n e = subst (λ (k : ℕ). k ≤ 65535) (sym e) (floor_le (float_up_to largest_bits bits) (in_range bits))

-- the floor of a whole number is that number
floor_is : (x : Float) (n : ℕ) → Is x n → n ≤ 65535 → floor_of x ≡ n
unfolding floor_of
floor_is nan n h l = absurd h
floor_is (inf s) n h l = absurd h
floor_is (fin true m e) n h l = absurd (true≢false h.0)
floor_is (fin false m e) n h l = kept (m * up e / down e) (ap (λ (a : ℕ). a / down e) (sym (mul-one (m * up e)) ∙ h.1) ∙ mul-div_cancel n (down_pos e))
  where
    kept : (q : ℕ) → q ≡ n → min q largest_count ≡ n
    kept q g = omega arith

-- a size in range that compares equal to a whole number is that number
equal_is : (x y : Float) (n : ℕ) → Is x n → T (up_to largest_length y) → eq x y ≡ true → Is y n
unfolding up_to eq
equal_is nan y n h k e = absurd h
equal_is (inf s) y n h k e = absurd h
equal_is (fin true m a) y n h k e = absurd (true≢false h.0)
equal_is (fin false m a) nan n h k e = absurd k
equal_is (fin false m a) (inf t) n h k e = absurd k
equal_is (fin false m a) (fin true o b) n h k e = absurd k
equal_is (fin false m a) (fin false o b) n h k e =
    (refl, mul-one (o * up b) ∙ sym (eq_of_mul-eq-mul_right (down a) (down_pos a) (n * down b) (o * up b) (mul_right_comm n (down b) (down a) ∙ ap (λ (z : ℕ). z * down b) (sym h.1 ∙ mul-one (m * up a)) ∙ eqb-true (m * up a * down b) (o * up b * down a) (left (eqb (m * up a * down b) (o * up b * down a)) e))))
  where
    left : (c : Bool) → (c && true) ≡ true → c ≡ true
    left true z = refl
    left false z = absurd (true≢false (sym z))

-- and a whole number compares equal to itself
equal_self : (x : Float) (n : ℕ) → Is x n → eq x x ≡ true
unfolding eq
equal_self nan n h = absurd h
equal_self (inf s) n h = absurd h
equal_self (fin true m e) n h = absurd (true≢false h.0)
equal_self (fin false m e) n h = rw (eq-eqb (m * up e * down e) (m * up e * down e) refl)

-- ---- a whole size is found exactly where there is one
pub whole_exactly : (bits n : ℕ) → (whole_size_of (float_up_to largest_bits bits) ≡ Some n) ↔ IsPixels (float_up_to largest_bits bits) n
unfolding whole_size_of
whole_exactly bits n = (found (eq (whole32 (floor_of x)) x) refl, back)
  where
    x : Float
    x = float_up_to largest_bits bits

    small : (k : ℕ) → k ≤ 65535 → k ≤ 16777216
    small k h = omega arith

    inner : (k : ℕ) → Some k ≡ Some n → k ≡ n
    inner k e = cc

    other : None ≡ Some n → ⊥
    other e = let z : ◌≡◌ {A = ℕ} 0 1 = cc in omega arith

    found : (t : Bool) → eq (whole32 (floor_of x)) x ≡ t → cond t (Some (floor_of x)) None ≡ Some n → IsPixels x n
    found true e h =
        let q : floor_of x ≡ n = inner (floor_of x) h in
        let l : n ≤ 65535 = size_le bits n (sym q) in
        let i : Is x n = equal_is (whole32 n) x n (count-is n (small n l)) (in_range bits) (subst (λ (k : ℕ). eq (whole32 k) x ≡ true) q e) in
        record { within = l; same = value_unique binary32 x (whole32 n) n 1 n 1 (omega arith) (omega arith) (of_format bits) (of_int-fits binary32 (pos n)) i (count-is n (small n l)) refl }
    found false e h = absurd (other h)

    back : IsPixels x n → cond (eq (whole32 (floor_of x)) x) (Some (floor_of x)) None ≡ Some n
    back p =
        let c : Is (whole32 n) n = count-is n (small n p.within) in
        let f : floor_of (whole32 n) ≡ n = floor_is (whole32 n) n c p.within in
        rw (p.same, f, equal_self (whole32 n) n c)
