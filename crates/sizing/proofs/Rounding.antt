-- Rounding gives a number of the format back, and keeps the order of numbers that are finite and not negative. Assumes nothing.
use mathlib.Core.Path.{◌≡◌, refl, sym, ap, ◌∙◌, subst}
use mathlib.Core.Logic.{◌⊎◌, inl, inr}
use Prim.Native.Nat.{ℕ, zero, suc, ◌+◌, ◌-◌, ◌*◌, ◌/◌, ◌%◌, ◌^◌, ◌≤◌, ◌<◌}
use native.Mathlib.Nat.{le_trans, le_of_eq, le_antisymm, le_of_lt, lt_of_lt_of_le, not-le_of_lt, lt_of_not-le, le_of_suc-le-suc, zero-mul, mul-one, mul_comm, mul_assoc, mul_right_comm, mul-le-mul_right, mul-lt-mul_of_pos_right, mul-pos}
use native.Mathlib.Omega.{arith}
use mathlib.Core.Bool.{Bool, true, false, ◌&&◌, ◌||◌, cond, true≢false}
use lib.IntN.{ℤ, pos, negsuc}
use lib.Dec.{T, leb, ltb, eqb, leb→le, ltb→lt, eqb→eq}
use lib.Pow.{pow-add, pow_pos, pow-lt}
use lib.Ieee.Digits.{back}
use borrow.Author.Tests.{ltb-false}
use lib.Ieee.{Float, nan, inf, fin, Format, prec, emax, low, up, down, round, add, lt, le, fits, to_bits, of_bits, size, hid, units, odd}
use lib.Ieee.Bits.{of_bits-to_bits}
use lib.Ieee.Fits.{down_pos, and_l, and_r, round-fits, round_is}
use lib.Ieee.Exact.{HasValue, round_exact}
use lib.Ieee.Nearest.{div_same}
use lib.Ieee.Order.{transfer, round_mono, kept, drop}
use lib.Ieee.Scale.{round_same}
use lib.Ieee.Positive.{num, den, den_pos}
use Rattle.sizing.proofs.Operations.{nonneg, own, nonneg_of, add_at}

-- ---- a value of the format is written in one way, and rounding it changes nothing
same_bits : (f : Format) (x y : Float) (a c b d : ℕ) → 0 < c → 0 < d → HasValue x false a c → HasValue y false b d → a * d ≡ b * c → to_bits f x ≡ to_bits f y
unfolding to_bits
same_bits f nan y a c b d C D h k e = absurd h
same_bits f (inf s) y a c b d C D h k e = absurd h
same_bits f (fin true m i) y a c b d C D h k e = absurd (true≢false h.0)
same_bits f (fin false m i) nan a c b d C D h k e = absurd k
same_bits f (fin false m i) (inf t) a c b d C D h k e = absurd k
same_bits f (fin false m i) (fin true n g) a c b d C D h k e = absurd (true≢false k.0)
same_bits f (fin false m i) (fin false n g) a c b d C D h k e =
    let X = m * up i in
    let Y = n * up g in
    let w : X * down g ≡ Y * down i =
    le_antisymm (transfer X Y (down i) (down g) a b c d C D h.1 k.1 (le_of_eq e)) (transfer Y X (down g) (down i) b a d c D C k.1 h.1 (le_of_eq (sym e))) in
    let l = 2 ^ low f in
    let v : X * l / down i ≡ Y * l / down g = div_same (X * l) (down i) (Y * l) (down g) (down_pos i) (down_pos g) (mul_right_comm X l (down g) ∙ ap (λ (z : ℕ). z * l) w ∙ mul_right_comm Y (down i) l) in
    ap (λ (z : ℕ). 0 + (size z - prec f) * hid f + z / 2 ^ (size z - prec f)) v

pub value_unique : (f : Format) (x y : Float) (a c b d : ℕ) → 0 < c → 0 < d → T (fits f x) → T (fits f y) → HasValue x false a c → HasValue y false b d → a * d ≡ b * c → x ≡ y
value_unique f x y a c b d C D p q h k e = sym (of_bits-to_bits f x p) ∙ ap (λ (z : ℕ). of_bits f z) (same_bits f x y a c b d C D h k e) ∙ of_bits-to_bits f y q

-- m * 2 ^ e is m * 2 ^ j of the format's smallest values, for a value that fits
place : (f : Format) (m : ℕ) (e : ℤ) → down e ≤ 2 ^ low f → (j : ℕ) × (m * up e * 2 ^ low f ≡ m * 2 ^ j * down e)
place f m (pos k) h = (k + low f, mul_assoc m (2 ^ k) (2 ^ low f) ∙ ap (λ (z : ℕ). m * z) (sym (pow-add 2 k (low f))) ∙ sym (mul-one (m * 2 ^ (k + low f))))
place f m (negsuc k) h =
    let g : suc k ≤ low f = pow_le_back (suc k) (low f) h in
    (low f - suc k, ap (λ (z : ℕ). z * 2 ^ low f) (mul-one m) ∙ ap (λ (z : ℕ). m * z) (ap (λ (z : ℕ). 2 ^ z) (sym (back (low f) (suc k) g)) ∙ pow-add 2 (low f - suc k) (suc k)) ∙ sym (mul_assoc m (2 ^ (low f - suc k)) (2 ^ suc k)))
  where
    pow_le_back : (i j : ℕ) → 2 ^ i ≤ 2 ^ j → i ≤ j
    pow_le_back i j h = le_of_not_lt i j (λ (g : j < i). not-le_of_lt (pow-lt g) h)
      where
        le_of_not_lt : (a b : ℕ) → (b < a → ⊥) → a ≤ b
        le_of_not_lt a b n = le_of_suc-le-suc (lt_of_not-le (λ (g : suc b ≤ a). n g))

-- what fits says of a value that is not zero
fit_says : (f : Format) (m : ℕ) (e : ℤ) → T (fits f (fin false (suc m) e)) → (suc m < 2 ^ prec f) × (down e ≤ 2 ^ low f) × (suc m * up e < 2 ^ suc (emax f) * down e)
unfolding fits
fit_says f m e t =
    let A = eqb (suc m % 2) 1 in
    let B = ltb (suc m) (2 ^ prec f) in
    let C = leb (down e) (2 ^ low f) in
    let D = ltb (suc m * up e) (2 ^ suc (emax f) * down e) in (
      ltb→lt (suc m) (2 ^ prec f) (and_r A B (and_l (A && B) C (and_l (A && B && C) D t))),
      leb→le (down e) (2 ^ low f) (and_r (A && B) C (and_l (A && B && C) D t)),
      ltb→lt (suc m * up e) (2 ^ suc (emax f) * down e) (and_r (A && B && C) D t),
    )

own_rounds : (f : Format) (m : ℕ) (e : ℤ) → T (fits f (fin false m e)) → HasValue (round f false (m * up e) (down e)) false (m * up e) (down e)
own_rounds f zero e t =
    round_exact f false (zero * up e) (down e) 0 0 (down_pos e) (pow_pos (prec f)) (subst (λ (z : ℕ). z < 2 ^ (low f + suc (emax f))) (sym (zero-mul (2 ^ 0))) (pow_pos (low f + suc (emax f))))
    (ap (λ (z : ℕ). z * 2 ^ low f) (zero-mul (up e)) ∙ zero-mul (2 ^ low f) ∙ sym (ap (λ (z : ℕ). z * down e) (zero-mul (2 ^ 0)) ∙ zero-mul (down e)))
own_rounds f (suc m) e t =
    let s = fit_says f m e t in
    let j = place f (suc m) e s.1 in
    round_exact f false (suc m * up e) (down e) (suc m) j.0 (down_pos e) s.0
    (lt_of_mul (suc m * 2 ^ j.0) (2 ^ (low f + suc (emax f))) (down e)
    (subst (λ (z : ℕ). z < 2 ^ (low f + suc (emax f)) * down e) j.1
    (lt_of_lt_of_le (mul-lt-mul_of_pos_right s.2 (pow_pos (low f)))
    (le_of_eq (mul_right_comm (2 ^ suc (emax f)) (down e) (2 ^ low f) ∙ ap (λ (z : ℕ). z * down e) (mul_comm (2 ^ suc (emax f)) (2 ^ low f) ∙ sym (pow-add 2 (low f) (suc (emax f)))))))))
    j.1
  where
    lt_of_mul : (a b c : ℕ) → a * c < b * c → a < b
    lt_of_mul a b c h = lt_of_not-le (λ (g : b ≤ a). not-le_of_lt h (mul-le-mul_right c g))

-- rounding a value of the format gives it back, by any fraction that it equals
pub round_own : (f : Format) (x : Float) (a c : ℕ) → 0 < c → T (fits f x) → HasValue x false a c → round f false a c ≡ x
round_own f nan a c C t h = absurd h
round_own f (inf s) a c C t h = absurd h
round_own f (fin true m e) a c C t h = absurd (true≢false h.0)
round_own f (fin false m e) a c C t h =
    round_same f false a c (m * up e) (down e) C (down_pos e) (sym h.1)
    ∙ value_unique f (round f false (m * up e) (down e)) (fin false m e) (m * up e) (down e) (m * up e) (down e) (down_pos e) (down_pos e)
    (round-fits f false (m * up e) (down e)) t (own_rounds f m e t) (refl, refl) refl

-- ---- the order
or_split : (a b : Bool) → T (a || b) → T a ⊎ T b
or_split true b t = inl tt
or_split false b t = inr t

lt_or_eq : (a b : ℕ) → T (ltb a b || (eqb a b && true)) → a ≤ b
lt_or_eq a b t = elim (or_split (ltb a b) (eqb a b && true) t) [ inl u ↦ le_of_lt (ltb→lt a b u) | inr u ↦ le_of_eq (eqb→eq a b (and_l (eqb a b) true u)) ]

pub values_of_le : (x y : Float) (a c b d : ℕ) → 0 < c → 0 < d → HasValue x false a c → HasValue y false b d → T (le x y) → a * d ≤ b * c
unfolding le
values_of_le nan y a c b d C D h k l = absurd h
values_of_le (inf s) y a c b d C D h k l = absurd h
values_of_le (fin true m e) y a c b d C D h k l = absurd (true≢false h.0)
values_of_le (fin false m e) nan a c b d C D h k l = absurd k
values_of_le (fin false m e) (inf t) a c b d C D h k l = absurd k
values_of_le (fin false m e) (fin true n g) a c b d C D h k l = absurd (true≢false k.0)
values_of_le (fin false m e) (fin false n g) a c b d C D h k l =
    transfer a b c d (m * up e) (n * up g) (down e) (down g) (down_pos e) (down_pos g) (sym h.1) (sym k.1) (lt_or_eq (m * up e * down g) (n * up g * down e) l)

-- of two values of the format neither of which is less, either is the other: a maximum's order of arguments doesn't show
pub neither-less : (f : Format) (x y : Float) → T (fits f x) → T (fits f y) → T (nonneg x) → T (nonneg y) → lt x y ≡ false → lt y x ≡ false → x ≡ y
unfolding lt
neither-less f nan y s t p q h k = absurd p
neither-less f (inf a) y s t p q h k = absurd p
neither-less f (fin true m e) y s t p q h k = absurd p
neither-less f (fin false m e) nan s t p q h k = absurd q
neither-less f (fin false m e) (inf b) s t p q h k = absurd q
neither-less f (fin false m e) (fin true n g) s t p q h k = absurd q
neither-less f (fin false m e) (fin false n g) s t p q h k =
    value_unique f (fin false m e) (fin false n g) (m * up e) (down e) (n * up g) (down g) (down_pos e) (down_pos g) s t (refl, refl) (refl, refl)
    (le_antisymm (ltb-false (n * up g * down e) (m * up e * down g) k) (ltb-false (m * up e * down g) (n * up g * down e) h))

-- ---- a rounded value that is not negative is finite, or the infinity
at_odd : (d q k l : ℕ) → T (nonneg (odd d false q k l))
unfolding odd
at_odd d zero k l = tt
at_odd d (suc q) k l = tt

units_kind : (f : Format) (q k : ℕ) → T (nonneg (units f false q k)) ⊎ (units f false q k ≡ inf false)
unfolding units
units_kind f q k = go (ltb (q * 2 ^ k) (2 ^ (low f + suc (emax f))))
  where
    go : (b : Bool) → T (nonneg (cond b (odd (suc (prec f)) false q k (low f)) (inf false))) ⊎ (cond b (odd (suc (prec f)) false q k (low f)) (inf false) ≡ inf false)
    go true = inl (at_odd (suc (prec f)) q k (low f))
    go false = inr refl

pub round_kind : (f : Format) (a c : ℕ) → T (nonneg (round f false a c)) ⊎ (round f false a c ≡ inf false)
round_kind f a c =
    subst (λ (z : Float). T (nonneg z) ⊎ (z ≡ inf false)) (sym (round_is f false a c))
    (units_kind f (kept (prec f) (a * 2 ^ low f) c) (drop (prec f) (a * 2 ^ low f) c))

no_inf : (z : Float) → T (nonneg z) → T (le (inf false) z) → ⊥
unfolding le
no_inf nan p h = p
no_inf (inf s) p h = p
no_inf (fin true m e) p h = p
no_inf (fin false m e) p h = h

-- what is at most a value of the format rounds to at most that value, and so is finite
pub round_le : (f : Format) (a c : ℕ) (z : Float) (b d : ℕ) → 0 < c → 0 < d → T (fits f z) → HasValue z false b d → a * d ≤ b * c → T (le (round f false a c) z)
round_le f a c z b d C D t v h = subst (λ (w : Float). T (le (round f false a c) w)) (round_own f z b d D t v) (round_mono f a c b d C D h)

pub round_ge : (f : Format) (a c : ℕ) (z : Float) (b d : ℕ) → 0 < c → 0 < d → T (fits f z) → HasValue z false b d → b * c ≤ a * d → T (le z (round f false a c))
round_ge f a c z b d C D t v h = subst (λ (w : Float). T (le w (round f false a c))) (round_own f z b d D t v) (round_mono f b d a c D C h)

pub round_finite : (f : Format) (a c : ℕ) (z : Float) (b d : ℕ) → 0 < c → 0 < d → T (fits f z) → HasValue z false b d → a * d ≤ b * c → T (nonneg (round f false a c))
round_finite f a c z b d C D t v h =
    elim (round_kind f a c) [
      | inl p ↦ p
      | inr e ↦ absurd (no_inf z (nonneg_of z b d v) (subst (λ (w : Float). T (le w z)) e (round_le f a c z b d C D t v h)))
    ]

-- ---- sums
le_sum : (a c b d : ℕ) → a * (c * d) ≤ (a * d + b * c) * c
le_sum a c b d = le_trans (le_of_eq (mul-comm-right a c d)) (mul-le-mul_right c (more (a * d) (b * c)))
  where
    mul-comm-right : (a c d : ℕ) → a * (c * d) ≡ a * d * c
    mul-comm-right a c d = omega arith

    more : (x y : ℕ) → x ≤ x + y
    more x y = omega arith

-- a sum is no less than its first part
pub le_add : (f : Format) (x y : Float) → T (fits f x) → T (nonneg x) → T (nonneg y) → T (le x (add f x y))
le_add f x y t p q =
    subst (λ (z : Float). T (le x z)) (sym (add_at f x y (num x) (den x) (num y) (den y) (den_pos x) (den_pos y) (own x p) (own y q)))
    (round_ge f (num x * den y + num y * den x) (den x * den y) x (num x) (den x) (mul-pos (den_pos x) (den_pos y)) (den_pos x) t (own x p) (le_sum (num x) (den x) (num y) (den y)))
