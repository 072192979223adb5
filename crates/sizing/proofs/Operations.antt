-- Sums and products of numbers that are finite and not negative are one rounding of the exact fraction, by any fraction a / c that a number equals. Assumes nothing.
use mathlib.Core.Path.{◌≡◌, refl, ap, ◌∙◌}
use Prim.Native.Nat.{ℕ, ◌+◌, ◌*◌, ◌<◌}
use native.Mathlib.Nat.{mul_comm, mul_assoc, mul_left_comm, mul-pos}
use native.Mathlib.Omega.{arith}
use mathlib.Core.Bool.{Bool, true, false, true≢false}
use lib.Dec.{T}
use lib.Ieee.{Float, nan, inf, fin, Format, up, down, round, add, mul}
use lib.Ieee.Fits.{down_pos}
use lib.Ieee.Exact.{HasValue}
use lib.Ieee.Scale.{round_same}
use lib.Ieee.Positive.{num, den}

-- ---- finite and not negative; minus zero is out
abbrev pub nonneg : Float → Bool
nonneg nan = false
nonneg (inf s) = false
nonneg (fin true m e) = false
nonneg (fin false m e) = true

pub own : (x : Float) → T (nonneg x) → HasValue x false (num x) (den x)
own nan p = absurd p
own (inf s) p = absurd p
own (fin true m e) p = absurd p
own (fin false m e) p = (refl, refl)

pub nonneg_of : (x : Float) (a c : ℕ) → HasValue x false a c → T (nonneg x)
nonneg_of nan a c h = absurd h
nonneg_of (inf s) a c h = absurd h
nonneg_of (fin true m e) a c h = absurd (true≢false h.0)
nonneg_of (fin false m e) a c h = tt

-- ---- the operations, as one rounding of the exact fraction
module _ (X Y p q a b c d : ℕ) (x : X * c ≡ a * p) (y : Y * d ≡ b * q) where
  left-side : X * q * (c * d) ≡ a * d * (p * q)
  left-side = simp (mul_assoc, mul_comm, mul_left_comm) (simp (mul_assoc, mul_comm, mul_left_comm) at (ap (λ (z : ℕ). z * (q * d)) x))

  right_side : Y * p * (c * d) ≡ b * c * (p * q)
  right_side = simp (mul_assoc, mul_comm, mul_left_comm) (simp (mul_assoc, mul_comm, mul_left_comm) at (ap (λ (z : ℕ). z * (p * c)) y))

  cross-sum : (X * q + Y * p) * (c * d) ≡ (a * d + b * c) * (p * q)
  cross-sum = omega (arith, left-side, right_side)

  cross-prod : X * Y * (c * d) ≡ a * b * (p * q)
  cross-prod =
      simp (mul_assoc, mul_comm, mul_left_comm) (simp (mul_assoc, mul_comm, mul_left_comm) at (ap (λ (z : ℕ). z * (Y * d)) x ∙ ap (λ (z : ℕ). a * p * z) y))

pub add_at : (f : Format) (x y : Float) (a c b d : ℕ) → 0 < c → 0 < d → HasValue x false a c → HasValue y false b d → add f x y ≡ round f false (a * d + b * c) (c * d)
unfolding add
add_at f nan y a c b d C D h k = absurd h
add_at f (inf s) y a c b d C D h k = absurd h
add_at f (fin true m e) y a c b d C D h k = absurd (true≢false h.0)
add_at f (fin false m e) nan a c b d C D h k = absurd k
add_at f (fin false m e) (inf t) a c b d C D h k = absurd k
add_at f (fin false m e) (fin true n g) a c b d C D h k = absurd (true≢false k.0)
add_at f (fin false m e) (fin false n g) a c b d C D h k =
    round_same f false (m * up e * down g + n * up g * down e) (down e * down g) (a * d + b * c) (c * d) (mul-pos (down_pos e) (down_pos g)) (mul-pos C D)
    (cross-sum (m * up e) (n * up g) (down e) (down g) a b c d h.1 k.1)

pub mul_at : (f : Format) (x y : Float) (a c b d : ℕ) → 0 < c → 0 < d → HasValue x false a c → HasValue y false b d → mul f x y ≡ round f false (a * b) (c * d)
unfolding mul
mul_at f nan y a c b d C D h k = absurd h
mul_at f (inf s) y a c b d C D h k = absurd h
mul_at f (fin true m e) y a c b d C D h k = absurd (true≢false h.0)
mul_at f (fin false m e) nan a c b d C D h k = absurd k
mul_at f (fin false m e) (inf t) a c b d C D h k = absurd k
mul_at f (fin false m e) (fin true n g) a c b d C D h k = absurd (true≢false k.0)
mul_at f (fin false m e) (fin false n g) a c b d C D h k =
    round_same f false (m * up e * (n * up g)) (down e * down g) (a * b) (c * d) (mul-pos (down_pos e) (down_pos g)) (mul-pos C D)
    (cross-prod (m * up e) (n * up g) (down e) (down g) a b c d h.1 k.1)
