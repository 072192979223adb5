-- Numbers that are finite and not negative: their order, and that a difference of two is such a number. Assumes nothing.
use mathlib.Core.Path.{◌≡◌, refl, sym, subst, ◌∙◌}
use Prim.Native.Nat.{ℕ, ◌-◌, ◌*◌, ◌≤◌}
use native.Mathlib.Nat.{le_refl, le_trans, le_of_eq, le_of_lt, mul-le-mul_right, mul-pos}
use native.Mathlib.Omega.{arith}
use mathlib.Core.Bool.{Bool, true, false, cond, true≢false}
use lib.Dec.{T, ltb, ltb→lt}
use lib.Ieee.{Float, nan, inf, fin, Format, binary32, up, down, round, sum, sub, lt, le, fits}
use lib.Ieee.Order.{le_of_values}
use lib.Ieee.Positive.{num, den, den_pos, through}
use borrow.Author.Tests.{ltb-false, le-ltb}
use Rattle.sizing.proofs.Operations.{nonneg, own}
use Rattle.sizing.proofs.Rounding.{values_of_le, round_finite}
use Rattle.line_positions.specs.Positions.{distance_of}

-- ---- the order

pub cross : (x y : Float) → T (nonneg x) → T (nonneg y) → T (le x y) → num x * den y ≤ num y * den x
cross x y p q l = values_of_le x y (num x) (den x) (num y) (den y) (den_pos x) (den_pos y) (own x p) (own y q) l

pub uncross : (x y : Float) → T (nonneg x) → T (nonneg y) → num x * den y ≤ num y * den x → T (le x y)
uncross x y p q l = le_of_values x y (num x) (den x) (num y) (den y) (den_pos x) (den_pos y) (own x p) (own y q) l

pub le_trans_nonneg : (x y z : Float) → T (nonneg x) → T (nonneg y) → T (nonneg z) → T (le x y) → T (le y z) → T (le x z)
le_trans_nonneg x y z p q r h k = uncross x z p r (through (num x) (num y) (num z) (den x) (den y) (den z) (den_pos y) (cross x y p q h) (cross y z q r k))

-- the test `<` is the order of the fractions
pub lt_is : (x y : Float) → T (nonneg x) → T (nonneg y) → lt x y ≡ ltb (num x * den y) (num y * den x)
unfolding lt
lt_is nan y p q = absurd p
lt_is (inf s) y p q = absurd p
lt_is (fin true m e) y p q = absurd p
lt_is (fin false m e) nan p q = absurd q
lt_is (fin false m e) (inf t) p q = absurd q
lt_is (fin false m e) (fin true n d) p q = absurd q
lt_is (fin false m e) (fin false n d) p q = refl

pub not-less : (x y : Float) → T (nonneg x) → T (nonneg y) → lt x y ≡ false → T (le y x)
not-less x y p q h = uncross y x q p (ltb-false (num x * den y) (num y * den x) (sym (lt_is x y p q) ∙ h))

pub not-above : (x y : Float) → T (nonneg x) → T (nonneg y) → T (le x y) → lt y x ≡ false
not-above x y p q h = lt_is y x q p ∙ le-ltb (num y * den x) (num x * den y) (cross x y p q h)

pub le_self : (x : Float) → T (nonneg x) → T (le x x)
le_self x p = uncross x x p p (le_refl (num x * den x))

clash : {A : Type 0} → (t : Bool) → T t → t ≡ false → A
clash true h e = absurd (true≢false e)
clash false h e = absurd h

pub less_le : (x y : Float) → T (nonneg x) → T (nonneg y) → T (lt x y) → T (le x y)
less_le x y p q h = uncross x y p q (le_of_lt (ltb→lt (num x * den y) (num y * den x) (subst T (lt_is x y p q) h)))

-- less than what is at most a third
pub less_than : (x y z : Float) → T (nonneg x) → T (nonneg y) → T (nonneg z) → T (lt x y) → T (le y z) → T (lt x z)
less_than x y z p q r h k = go (lt x z) (λ e. clash (lt x y) h (not-above y x q p (le_trans_nonneg y z x q r p k (not-less x z p r e))))
  where
    go : (t : Bool) → (t ≡ false → T t) → T t
    go true f = tt
    go false f = f refl

-- at most what is less than a third
pub less-under : (x y z : Float) → T (nonneg x) → T (nonneg y) → T (nonneg z) → T (le x y) → T (lt y z) → T (lt x z)
less-under x y z p q r h k = go (lt x z) (λ e. clash (lt y z) k (not-above z y r q (le_trans_nonneg z x y r p q (not-less x z p r e) h)))
  where
    go : (t : Bool) → (t ≡ false → T t) → T t
    go true f = tt
    go false f = f refl

-- ---- differences

-- the larger less the smaller is one rounding of the exact difference
sub-own : (f : Format) (x y : Float) → T (nonneg x) → T (nonneg y) → T (le y x) → sub f x y ≡ round f false (num x * den y - num y * den x) (den x * den y)
unfolding sub sum
sub-own f nan y p q l = absurd p
sub-own f (inf s) y p q l = absurd p
sub-own f (fin true m e) y p q l = absurd p
sub-own f (fin false m e) nan p q l = absurd q
sub-own f (fin false m e) (inf t) p q l = absurd q
sub-own f (fin false m e) (fin true n d) p q l = absurd q
sub-own f (fin false m e) (fin false n d) p q l =
    pick (m * up e * down d) (n * up d * down e) (down e * down d) (cross (fin false n d) (fin false m e) q p l)
  where
    pick : (a b c : ℕ) → b ≤ a → cond (ltb a b) (round f true (b - a) c) (round f false (a - b) c) ≡ round f false (a - b) c
    pick a b c h = rw (le-ltb a b h)

pub difference_nonneg : (f : Format) (x y : Float) → T (fits f x) → T (nonneg x) → T (nonneg y) → T (le y x) → T (nonneg (sub f x y))
difference_nonneg f x y t p q l =
    subst (λ (z : Float). T (nonneg z)) (sym (sub-own f x y p q l))
    (round_finite f (num x * den y - num y * den x) (den x * den y) x (num x) (den x) (mul-pos (den_pos x) (den_pos y)) (den_pos x) t (own x p) (less (num x) (den x) (num y) (den y)))
  where
    less : (a c b d : ℕ) → (a * d - b * c) * c ≤ a * (c * d)
    less a c b d = le_trans (mul-le-mul_right c (fewer (a * d) (b * c))) (le_of_eq (swap a c d))
      where
        fewer : (x y : ℕ) → x - y ≤ x
        fewer x y = omega arith

        swap : (a c d : ℕ) → a * d * c ≡ a * (c * d)
        swap a c d = omega arith

-- the distance of two positions is finite and not negative
pub distance_nonneg : (a b : Float) → T (fits binary32 a) → T (fits binary32 b) → T (nonneg a) → T (nonneg b) → T (nonneg (distance_of a b))
distance_nonneg a b s t p q = go (lt a b) refl
  where
    go : (u : Bool) → lt a b ≡ u → T (nonneg (cond u (sub binary32 b a) (sub binary32 a b)))
    go true e = difference_nonneg binary32 b a t q p (less_le a b p q (subst T (sym e) tt))
    go false e = difference_nonneg binary32 a b s p q (not-less a b p q e)
