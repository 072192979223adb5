-- Running sums of tracks' sizes in range are finite, and none is less than the one before. Assumes nothing.
use Rattle.std.specs.Prelude.{Option, Some, None}
use mathlib.Core.Path.{◌≡◌, sym, ◌∙◌, subst}
use mathlib.Core.List.{List, [], ◌∷◌, ◌++◌}
use Prim.Native.Nat.{ℕ, suc, ◌+◌, ◌*◌, ◌^◌, ◌≤◌, ◌<◌, zero-le}
use native.Mathlib.Nat.{le_trans, le_of_eq, mul-one, mul_assoc, mul-le-mul, mul-le-mul_right, mul-pos}
use native.Mathlib.Omega.{arith}
use mathlib.Core.Bool.{Bool, true, false, cond}
use lib.Dec.{T, leb→le, lit<, lit≤}
use lib.Pow.{pow_mono, shl_lt}
use lib.ListN.{length}
use lib.Ieee.{Float, nan, inf, fin, binary32, of_bits, round, add, mul, lt, le, fits, up, down}
use lib.Ieee.Bits.{of_bits-fits}
use lib.Ieee.Fits.{round-fits, add-fits}
use lib.Ieee.Exact.{HasValue, round_exact}
use lib.Ieee.Positive.{num, den, den_pos}
use Rattle.sizing.specs.declared.Sizing.{Sizing}
use Rattle.sizing.specs.declared.Sizing.TheVariants.{Length, Percent, Fraction, Auto, MinContent, MaxContent, FitContentLength, FitContentPercent}
use Rattle.sizing.specs.declared.MinMax.{MinMax}
use Rattle.sizing.specs.Words.{zero32}
use Rattle.sizing.specs.Ranges.{up_to, largest_length, largest_percentage, sizing_in_range}
use Rattle.sizing.specs.Definite.{definite_of, raised_or, track_value_of, or_zero}
use Rattle.sizing.specs.Sums.{sum_from}
use Rattle.sizing.proofs.Operations.{nonneg, own, add_at, mul_at}
use Rattle.sizing.proofs.Rounding.{round_le, round_finite, values_of_le, le_add}
use Rattle.sizing.proofs.Sums.{sum_one_more}

-- ---- numbers of at most k times 2 ^ 20, which the format holds for k below 2 ^ 24
abbrev pub Within : ℕ → Float → Type 0
Within k x = T (nonneg x) × (num x ≤ k * 1048576 * den x)

abbrev mark : ℕ → Float
mark k = round binary32 false (k * 1048576) 1

mark-value : (k : ℕ) → k < 16777216 → HasValue (mark k) false (k * 1048576) 1
mark-value k h =
    round_exact binary32 false (k * 1048576) 1 k 169 (lit< tt) h
    (lt-le (k * 2 ^ 169) (2 ^ (24 + 169)) (2 ^ (149 + 128)) (shl_lt 24 169 h) (pow_mono {i = 24 + 169} {j = 149 + 128} (lit≤ tt)))
    (mul_assoc k 1048576 (2 ^ 149) ∙ sym (mul-one (k * 2 ^ 169)))
  where
    lt-le : (a b c : ℕ) → a < b → b ≤ c → a < c
    lt-le a b c h k = omega arith

round_within : (k a c : ℕ) → k < 16777216 → 0 < c → a * 1 ≤ k * 1048576 * c → Within k (round binary32 false a c)
round_within k a c h p w =
    let z = mark k in
    let v = mark-value k h in
    let r = round binary32 false a c in
    let f : T (nonneg r) = round_finite binary32 a c z (k * 1048576) 1 p (lit< tt) (round-fits binary32 false (k * 1048576) 1) v w in
    let l : T (le r z) = round_le binary32 a c z (k * 1048576) 1 p (lit< tt) (round-fits binary32 false (k * 1048576) 1) v w in
    (f, le_trans (le_of_eq (sym (mul-one (num r)))) (values_of_le r z (num r) (den r) (k * 1048576) 1 (den_pos r) (lit< tt) (own r f) v l))

-- ---- a track's size in range is at most 2 ^ 20: a length is at most 65,535, a percentage of it ten times that
abbrev pub Small : Float → Type 0
Small = Within 1

up_to_within : (n : ℕ) (x : Float) → T (up_to n x) → T (nonneg x) × (num x ≤ n * den x)
unfolding up_to
up_to_within n nan h = absurd h
up_to_within n (inf s) h = absurd h
up_to_within n (fin true m e) h = absurd h
up_to_within n (fin false m e) h = (tt, leb→le (m * up e) (n * down e) h)

length-small : (x : Float) → T (up_to largest_length x) → Small x
length-small x h = let w = up_to_within largest_length x h in (w.0, more (num x) (den x) w.1)
  where
    more : (a c : ℕ) → a ≤ 65535 * c → a ≤ 1 * 1048576 * c
    more a c h = omega arith

product_small : (p x : Float) → T (up_to largest_percentage p) → T (up_to largest_length x) → Small (mul binary32 p x)
product_small p x h k =
    let u = up_to_within largest_percentage p h in
    let v = up_to_within largest_length x k in
    subst Small (sym (mul_at binary32 p x (num p) (den p) (num x) (den x) (den_pos p) (den_pos x) (own p u.0) (own x v.0)))
    (round_within 1 (num p * num x) (den p * den x) (lit< tt) (mul-pos (den_pos p) (den_pos x)) (grow (num p) (den p) (num x) (den x) u.1 v.1))
  where
    grow : (a c b d : ℕ) → a ≤ 10 * c → b ≤ 65535 * d → a * b * 1 ≤ 1 * 1048576 * (c * d)
    grow a c b d h g =
        let u : a * b ≤ 10 * c * (65535 * d) = mul-le-mul h g in
        omega arith

zero-within : (k : ℕ) → Within k zero32
unfolding of_bits
zero-within k = (tt, zero-le)

abbrev SmallSize : Option Float → Type 0
SmallSize (Some v) = Small v
SmallSize None = Unit

definite_small : (size : Sizing) (inner : Float) → T (sizing_in_range size) → T (up_to largest_length inner) → SmallSize (definite_of size inner)
definite_small (Length v) inner h k = length-small v h
definite_small (Percent p) inner h k = product_small p inner h k
definite_small (Fraction v) inner h k = tt
definite_small Auto inner h k = tt
definite_small MinContent inner h k = tt
definite_small MaxContent inner h k = tt
definite_small (FitContentLength v) inner h k = tt
definite_small (FitContentPercent p) inner h k = tt

raised-small : (maximum minimum : Option Float) → SmallSize maximum → SmallSize minimum → Small (or_zero (raised_or maximum minimum))
raised-small (Some b) (Some s) p q = go (lt b s)
  where
    go : (t : Bool) → Small (cond t s b)
    go true = q
    go false = p
raised-small (Some b) None p q = p
raised-small None (Some s) p q = q
raised-small None None p q = zero-within 1

pub track-small : (track : MinMax) (inner : Float) → T (sizing_in_range track.min) → T (sizing_in_range track.max) → T (up_to largest_length inner) → Small (or_zero (track_value_of track inner))
track-small track inner h g k =
    raised-small (definite_of track.max inner) (definite_of track.min inner) (definite_small track.max inner g k) (definite_small track.min inner h k)

-- ---- sums of fewer than 2 ^ 24 such sizes
abbrev pub Smalls : List Float → Type 0
Smalls [] = Unit
Smalls (x ∷ xs) = Small x × Smalls xs

step : (k : ℕ) (t x : Float) → suc k < 16777216 → Within k t → Small x → Within (suc k) (add binary32 t x)
step k t x h p q =
    subst (Within (suc k)) (sym (add_at binary32 t x (num t) (den t) (num x) (den x) (den_pos t) (den_pos x) (own t p.0) (own x q.0)))
    (round_within (suc k) (num t * den x + num x * den t) (den t * den x) h (mul-pos (den_pos t) (den_pos x)) (grow k (num t) (den t) (num x) (den x) p.1 q.1))
  where
    grow : (k a c b d : ℕ) → a ≤ k * 1048576 * c → b ≤ 1 * 1048576 * d → (a * d + b * c) * 1 ≤ suc k * 1048576 * (c * d)
    grow k a c b d h g =
        let u : a * d ≤ k * 1048576 * c * d = mul-le-mul_right d h in
        let v : b * c ≤ 1 * 1048576 * d * c = mul-le-mul_right c g in
        omega arith

sum-within : (xs : List Float) (k : ℕ) (t : Float) → k + length xs < 16777216 → Within k t → Smalls xs → Within (k + length xs) (sum_from t xs)
unfolding sum_from
sum-within [] k t h p q = subst (λ (n : ℕ). Within n t) (omega arith) p
sum-within (x ∷ xs) k t h p q =
    subst (λ (n : ℕ). Within n (sum_from (add binary32 t x) xs)) (shift k (length xs))
    (sum-within xs (suc k) (add binary32 t x) (subst (λ (n : ℕ). n < 16777216) (sym (shift k (length xs))) h) (step k t x (less k (length xs) h) p q.0) q.1)
  where
    shift : (k n : ℕ) → suc k + n ≡ k + suc n
    shift k n = omega arith

    less : (k n : ℕ) → k + suc n < 16777216 → suc k < 16777216
    less k n h = omega arith

pub sum_fits : (xs : List Float) (t : Float) → T (fits binary32 t) → T (fits binary32 (sum_from t xs))
unfolding sum_from
sum_fits [] t h = h
sum_fits (x ∷ xs) t h = sum_fits xs (add binary32 t x) (add-fits binary32 t x)

-- a sum from 0 is finite and not negative
pub sum_finite : (xs : List Float) → length xs < 16777216 → Smalls xs → T (nonneg (sum_from zero32 xs))
sum_finite xs h q = (sum-within xs 0 zero32 (omega arith) (zero-within 0) q).0

-- a sum is no less than that of one size fewer
pub sum_never_falls : (xs : List Float) (x : Float) → length xs < 16777216 → Smalls xs → Small x → T (le (sum_from zero32 xs) (sum_from zero32 (xs ++ (x ∷ []))))
sum_never_falls xs x h q s =
    rw sum_one_more (le_add binary32 (sum_from zero32 xs) x (sum_fits xs zero32 (of_bits-fits binary32 0)) (sum_finite xs h q) s.0)
