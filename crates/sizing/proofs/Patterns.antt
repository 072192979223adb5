-- The bit patterns of binary32 below the infinity's: what number each stands for, and which are sizes in range. Assumes nothing.
use mathlib.Core.Path.{◌≡◌, refl, sym, ap, ◌∙◌, subst}
use mathlib.Core.Logic.{inl, inr}
use Prim.Native.Nat.{ℕ, zero, suc, ◌+◌, ◌*◌, ◌/◌, ◌%◌, ◌^◌, ◌≤◌, ◌<◌}
use native.Mathlib.Nat.{le_trans, le_of_eq, lt_of_lt_of_le, not-le_of_lt, eq-or-lt_of_le, mod-eq_of_lt, mul-one, mul_assoc, mul_right_comm, mul-le-mul_right, mul-le-mul_left, le_of_mul-le-mul_right, pow-succ'}
use native.Mathlib.Omega.{arith}
use mathlib.Core.Bool.{Bool, true, false, not, cond, true≢false}
use lib.Dec.{T, leb, ltb, eqb, leb→le, le→leb, nleb→lt, ltb→lt, nltb→le, eqb→eq, not_T}
use lib.Pow.{pow_pos, pow_mono}
use lib.Ieee.{Float, nan, inf, fin, binary32, odd, of_fields, of_bits, up, down}
use lib.Ieee.Bits.{is_true, is_false, cond_no}
use lib.Ieee.Exact.{HasValue, odd_sign}
use lib.Ieee.Fits.{down_pos}
use Rattle.sizing.specs.Ranges.{up_to}

pub of_bits_is : (b : ℕ) → of_bits binary32 b ≡ of_fields binary32 (leb 2147483648 b) (b % 2147483648 / 8388608) (b % 8388608)
unfolding of_bits
of_bits_is b = refl

-- ---- the number of a pattern, in units of 2 ^ -149, by its two fields
abbrev pub units_of : ℕ → ℕ → ℕ
units_of zero t = t * 2 ^ 0
units_of (suc x) t = (8388608 + t) * 2 ^ x

differ : (x : ℕ) → suc x < 255 → suc x ≡ 255 → ⊥
differ x h e = omega arith

fields_value : (x t : ℕ) → x < 255 → HasValue (of_fields binary32 false x t) false (units_of x t) (2 ^ 149)
unfolding of_fields
fields_value zero t h = odd_sign 24 false t 0 149
fields_value (suc x) t h =
    subst (λ (v : Float). HasValue v false (units_of (suc x) t) (2 ^ 149))
    (sym (cond_no (eqb (suc x) 255) (cond (eqb t 0) (inf false) nan) (odd 24 false (8388608 + t) x 149)
    (not_T (eqb (suc x) 255) (λ (u : T (eqb (suc x) 255)). differ x h (eqb→eq (suc x) 255 u)))))
    (odd_sign 24 false (8388608 + t) x 149)

abbrev pub val : ℕ → ℕ
val b = units_of (b / 8388608) (b % 8388608)

small : (b : ℕ) → b < 2139095040 → b < 2147483648
small b h = omega arith

field_lt : (b : ℕ) → b < 2139095040 → b / 8388608 < 255
field_lt b h = omega arith

-- 2139095040 is 255 * 2 ^ 23, the pattern of the infinity
pub bits_value : (b : ℕ) → b < 2139095040 → HasValue (of_bits binary32 b) false (val b) (2 ^ 149)
bits_value b h =
    subst (λ (v : Float). HasValue v false (val b) (2 ^ 149))
    (sym (of_bits_is b
    ∙ ap (λ (s : Bool). of_fields binary32 s (b % 2147483648 / 8388608) (b % 8388608)) (is_false (leb 2147483648 b) (not_T (leb 2147483648 b) (λ (u : T (leb 2147483648 b)). not-le_of_lt (small b h) (leb→le 2147483648 b u))))
    ∙ ap (λ (y : ℕ). of_fields binary32 false (y / 8388608) (b % 8388608)) (mod-eq_of_lt (small b h))))
    (fields_value (b / 8388608) (b % 8388608) (field_lt b h))

-- ---- the order of the patterns is the order of the numbers
low_le : (t u : ℕ) → t ≤ u → t * 1 ≤ u * 1
low_le t u h = omega arith

low_under : (t u : ℕ) → t < 8388608 → t * 1 ≤ 8388608 + u
low_under t u h = omega arith

double : (t : ℕ) → t < 8388608 → 8388608 + t ≤ 8388608 * 2
double t h = omega arith

units_mono : (x y t u : ℕ) → t < 8388608 → u < 8388608 → x * 8388608 + t ≤ y * 8388608 + u → units_of x t ≤ units_of y u
units_mono zero zero t u a b h = low_le t u (omega arith)
units_mono zero (suc y) t u a b h =
    le_trans (low_under t u a) (le_trans (le_of_eq (sym (mul-one (8388608 + u)))) (mul-le-mul_left (8388608 + u) (pow_pos y)))
units_mono (suc x) zero t u a b h = absurd (clash x t u a b h)
  where
    clash : (x t u : ℕ) → t < 8388608 → u < 8388608 → suc x * 8388608 + t ≤ 0 * 8388608 + u → ⊥
    clash x t u a b h = omega arith
units_mono (suc x) (suc y) t u a b h =
    elim (eq-or-lt_of_le (le-field x y t u b h)) [
      | inl e ↦ subst (λ (k : ℕ). (8388608 + t) * 2 ^ x ≤ (8388608 + u) * 2 ^ k) e (mul-le-mul_right (2 ^ x) (same-field x y t u e h))
      | inr l ↦
          le_trans (mul-le-mul_right (2 ^ x) (double t a))
          (le_trans (le_of_eq (mul_assoc 8388608 2 (2 ^ x) ∙ ap (λ (k : ℕ). 8388608 * k) (sym (pow-succ' 2 x))))
          (le_trans (mul-le-mul_left 8388608 (pow_mono l)) (mul-le-mul_right (2 ^ y) (lead u))))
    ]
  where
    le-field : (x y t u : ℕ) → u < 8388608 → suc x * 8388608 + t ≤ suc y * 8388608 + u → x ≤ y
    le-field x y t u b h = omega arith

    same-field : (x y t u : ℕ) → x ≡ y → suc x * 8388608 + t ≤ suc y * 8388608 + u → 8388608 + t ≤ 8388608 + u
    same-field x y t u e h = omega arith

    lead : (u : ℕ) → 8388608 ≤ 8388608 + u
    lead u = omega arith

pub val_mono : (b c : ℕ) → b ≤ c → val b ≤ val c
val_mono b c h = units_mono (b / 8388608) (c / 8388608) (b % 8388608) (c % 8388608) (omega arith) (omega arith) (omega arith)

-- ---- the numbers from 0 to n are the patterns up to that of n
module _ (n : ℕ) where
  -- a value that is a / 2 ^ 149 is in range exactly when a is at most n * 2 ^ 149
  in-of : (x : Float) (a : ℕ) → HasValue x false a (2 ^ 149) → a ≤ n * 2 ^ 149 → up_to n x ≡ true
  unfolding up_to
  in-of nan a v h = absurd v
  in-of (inf s) a v h = absurd v
  in-of (fin true m e) a v h = absurd (true≢false v.0)
  in-of (fin false m e) a v h =
      is_true (leb (m * up e) (n * down e)) (le→leb (m * up e) (n * down e)
      (le_of_mul-le-mul_right
      (le_trans (le_of_eq v.1) (le_trans (mul-le-mul_right (down e) h) (le_of_eq (mul_right_comm n (2 ^ 149) (down e)))))
      (pow_pos 149)))

  out_of : (x : Float) (a : ℕ) → HasValue x false a (2 ^ 149) → n * 2 ^ 149 < a → up_to n x ≡ false
  unfolding up_to
  out_of nan a v h = absurd v
  out_of (inf s) a v h = absurd v
  out_of (fin true m e) a v h = absurd (true≢false v.0)
  out_of (fin false m e) a v h =
      is_false (leb (m * up e) (n * down e)) (not_T (leb (m * up e) (n * down e)) (λ u.
      not-le_of_lt h (le_of_mul-le-mul_right
      (le_trans (le_of_eq (sym v.1)) (le_trans (mul-le-mul_right (2 ^ 149) (leb→le (m * up e) (n * down e) u)) (le_of_eq (mul_right_comm n (down e) (2 ^ 149)))))
      (down_pos e))))

  -- a set sign, or the highest field, is out of range
  odd-neg : (d q k l : ℕ) → up_to n (odd d true q k l) ≡ false
  unfolding odd up_to
  odd-neg d zero k l = refl
  odd-neg d (suc q) k l = refl

  cond-out : (b : Bool) (x y : Float) → up_to n x ≡ false → up_to n y ≡ false → up_to n (cond b x y) ≡ false
  cond-out true x y p q = p
  cond-out false x y p q = q

  special-out : (s b : Bool) → up_to n (cond b (inf s) nan) ≡ false
  unfolding up_to
  special-out s true = refl
  special-out s false = refl

  neg-out : (x t : ℕ) → up_to n (of_fields binary32 true x t) ≡ false
  unfolding of_fields
  neg-out zero t = odd-neg 24 t 0 149
  neg-out (suc x) t = cond-out (eqb (suc x) 255) (cond (eqb t 0) (inf true) nan) (odd 24 true (8388608 + t) x 149) (special-out true (eqb t 0)) (odd-neg 24 (8388608 + t) x 149)

  top-out : (s : Bool) (t : ℕ) → up_to n (of_fields binary32 s 255 t) ≡ false
  unfolding of_fields
  top-out s t = special-out s (eqb t 0)

  high : (b : ℕ) → 2139095040 ≤ b → up_to n (of_bits binary32 b) ≡ false
  high b h = ap (up_to n) (of_bits_is b) ∙ go (leb 2147483648 b) (nleb→lt 2147483648 b)
    where
      field : (b : ℕ) → b < 2147483648 → 2139095040 ≤ b → b % 2147483648 / 8388608 ≡ 255
      field b k h = omega arith

      go : (s : Bool) → (T (not s) → b < 2147483648) → up_to n (of_fields binary32 s (b % 2147483648 / 8388608) (b % 8388608)) ≡ false
      go true k = neg-out (b % 2147483648 / 8388608) (b % 8388608)
      go false k = ap (λ (x : ℕ). up_to n (of_fields binary32 false x (b % 8388608))) (field b (k tt) h) ∙ top-out false (b % 8388608)

  -- the whole law: one comparison of the pattern, with the pattern B of n
  pub up-to-bits : (B : ℕ) → B < 2139095040 → val B ≡ n * 2 ^ 149 → n * 2 ^ 149 < val (suc B) → (b : ℕ) → up_to n (of_bits binary32 b) ≡ leb b B
  up-to-bits B H e l b = go (leb b B) (leb→le b B) (nleb→lt b B)
    where
      below : (b B : ℕ) → B < 2139095040 → b ≤ B → b < 2139095040
      below b B H h = omega arith

      over : B < b → (s : Bool) → (T s → b < 2139095040) → (T (not s) → 2139095040 ≤ b) → up_to n (of_bits binary32 b) ≡ false
      over k true p q = out_of (of_bits binary32 b) (val b) (bits_value b (p tt)) (lt_of_lt_of_le l (val_mono (suc B) b k))
      over k false p q = high b (q tt)

      go : (t : Bool) → (T t → b ≤ B) → (T (not t) → B < b) → up_to n (of_bits binary32 b) ≡ t
      go true h k = in-of (of_bits binary32 b) (val b) (bits_value b (below b B H (h tt))) (le_trans (val_mono b B (h tt)) (le_of_eq e))
      go false h k = over (k tt) (ltb b 2139095040) (ltb→lt b 2139095040) (nltb→le b 2139095040)
