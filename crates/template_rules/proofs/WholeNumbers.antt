-- f32 operations on whole numbers: exact up to 2 ^ 24, and from there on no less than 2 ^ 24; floor and ceiling of a quotient are those of the exact fraction. Assumes nothing.
use Rattle.std.proofs.Common.{◌≡◌, ℕ, zero, suc, ◌+◌, ◌-◌, ◌*◌, ◌/◌, ◌%◌, ◌^◌, ◌<◌, ◌≤◌, Bool, true, false, cond, not, T, eqb, ltb, leb, ◌⊎◌, ◌↔◌, ℤ, sym, refl, ap, ◌∙◌, subst, inl, inr, true≢false, le_trans, le_of_eq, le_refl, lt_of_lt_of_le, lt_of_le_of_lt, le_of_lt, mul-le-mul_right, mod-lt, mul_assoc, mul_comm, mul-le-mul, lt_of_mul-lt-mul_right, mul-lt-mul_of_pos_right, mul-pos, div-add-mod', mul-one, le-mul_of_pos_right, div-mul-le_self, le_of_mul-le-mul_right, mul_left_comm, arith, lit<, lit≤, eqb→eq, leb→le, pow_pos, pow-add, ltb-false, ltb-true, le-ltb, lt-ltb, leb-false, leb-true}
use Prim.Native.Nat.{compare, Ordering}
use native.Mathlib.Nat.{mul-sub}
use lib.Dec.{is_le, compare_is_eq, nleb→lt, eqb_refl, not_T}
use lib.Arith.{lt_of_le-ne}
use lib.Ieee.{Float, nan, inf, fin, Format, binary32, low, up, down, size, nearest, round, sum, add, sub, mul, div, lt, of_bits, of_int}
use lib.Ieee.Bits.{cond_no}
use lib.Ieee.Back.{round_whole}
use lib.Ieee.Digits.{size_reaches}
use lib.Ieee.Exact.{HasValue}
use lib.Ieee.Fits.{down_pos}
use lib.Ieee.Nearest.{closest}
use lib.Ieee.Order.{round_mono, drop}
use lib.Ieee.Positive.{num, den, den_pos, first_pos}
use lib.Ieee.Scale.{round_same, round_val, grid}
use Rattle.sizing.specs.Words.{zero32}
use Rattle.sizing.proofs.Operations.{nonneg, own, add_at, mul_at}
use Rattle.sizing.proofs.Rounding.{values_of_le, round_kind}
use Rattle.template_rules.specs.Exact.{AtMost, AtLeast}
use Rattle.template_rules.specs.Whole.{floor_of, ceiling_of}
use Rattle.template_rules.specs.Space.{whole32, one32, counted_space}
use Rattle.template_rules.specs.CssWhole.{IsWhole, number_of}
use Rattle.template_rules.proofs.Exact.{floor_greatest, ceiling_least}
use Rattle.template_rules.proofs.Rounding.{floor_lt}

-- ---- an f32 that is a whole number
abbrev pub Is : Float → ℕ → Type 0
Is x n = HasValue x false n 1

pub is_whole : (x : Float) → IsWhole x → Is x (number_of x)
is_whole nan h = absurd h
is_whole (inf s) h = absurd h
is_whole (fin s m e) h = (h.0, exact (m * up e) (down e) h.1)
  where
    exact : (a d : ℕ) → a % d ≡ 0 → a * 1 ≡ a / d * d
    exact a d h = let s : a / d * d + a % d ≡ a = div-add-mod' a d in omega arith

pub zero_is : Is zero32 0
unfolding of_bits
zero_is = (refl, refl)

pub one-is : Is one32 1
unfolding of_bits
one-is = (refl, refl)

round_one : (n : ℕ) → n ≤ 16777216 → Is (round binary32 false n 1) n
round_one n h = round_whole binary32 false n h

pub count-is : (n : ℕ) → n ≤ 16777216 → Is (whole32 n) n
unfolding of_int
count-is n h = round_one n h

-- ---- at least 2 ^ 24, the infinity included
abbrev pub Large : Float → Type 0
Large nan = ⊥
Large (inf true) = ⊥
Large (inf false) = Unit {0}
Large (fin true m e) = ⊥
Large (fin false m e) = 16777216 * down e ≤ m * up e

round_large : (a c : ℕ) → 0 < c → 16777216 * c ≤ a → Large (round binary32 false a c)
round_large a c C h =
    let z = round binary32 false a c in
    elim (round_kind binary32 a c) [
      | inl p ↦
          from z p (values_of_le (round binary32 false 16777216 1) z 16777216 1 (num z) (den z) (lit< tt) (den_pos z) (round_one 16777216 (lit≤ tt)) (own z p)
          (round_mono binary32 16777216 1 a c (lit< tt) C (le_trans h (le_of_eq (sym (mul-one a))))))
      | inr e ↦ subst Large (sym e) tt
    ]
  where
    from : (z : Float) → T (nonneg z) → 16777216 * den z ≤ num z * 1 → Large z
    from nan p g = absurd p
    from (inf s) p g = absurd p
    from (fin true m e) p g = absurd p
    from (fin false m e) p g = le_trans g (le_of_eq (mul-one (m * up e)))

-- an f32 measures a whole number: it is that number up to 2 ^ 24, and beyond that no less than 2 ^ 24
abbrev pub Measures : Float → ℕ → Type 0
Measures x n = (Is x n × (n ≤ 16777216)) ⊎ (Large x × (16777216 ≤ n))

pub is_measures : (x : Float) (n : ℕ) → Is x n → Measures x n
is_measures x n h = go (leb n 16777216) refl
  where
    large : (x : Float) → Is x n → 16777216 < n → Large x
    large nan h g = absurd h
    large (inf s) h g = absurd h
    large (fin true m e) h g = absurd (true≢false h.0)
    large (fin false m e) h g = wide (m * up e) (down e) n h.1 g
      where
        wide : (a d n : ℕ) → a * 1 ≡ n * d → 16777216 < n → 16777216 * d ≤ a
        wide a d n e g = let l : 16777216 * d ≤ n * d = mul-le-mul_right d (le_of_lt g) in omega arith

    go : (t : Bool) → leb n 16777216 ≡ t → Measures x n
    go true e = inl (h, leb-true n 16777216 e)
    go false e = inr (large x h (leb-false n 16777216 e), le_of_lt (leb-false n 16777216 e))

measures_round : (n : ℕ) → Measures (round binary32 false n 1) n
measures_round n = go (leb n 16777216) refl
  where
    wide : (n : ℕ) → 16777216 < n → 16777216 * 1 ≤ n
    wide n h = omega arith

    go : (t : Bool) → leb n 16777216 ≡ t → Measures (round binary32 false n 1) n
    go true e = inl (round_one n (leb-true n 16777216 e), leb-true n 16777216 e)
    go false e = inr (round_large n 1 (lit< tt) (wide n (leb-false n 16777216 e)), le_of_lt (leb-false n 16777216 e))

-- what measures less than 2 ^ 24 is that number
pub measured_is : (x : Float) (n : ℕ) → Measures x n → n < 16777216 → Is x n
measured_is x n (inl h) g = h.0
measured_is x n (inr h) g = absurd (never n h.1 g)
  where
    never : (n : ℕ) → 16777216 ≤ n → n < 16777216 → ⊥
    never n h g = omega arith

-- ---- sums
-- not negative, the infinity included
abbrev Above : Float → Type 0
Above nan = ⊥
Above (inf true) = ⊥
Above (inf false) = Unit {0}
Above (fin true m e) = ⊥
Above (fin false m e) = Unit {0}

is-above : (x : Float) (n : ℕ) → Is x n → Above x
is-above nan n h = absurd h
is-above (inf s) n h = absurd h
is-above (fin true m e) n h = absurd (true≢false h.0)
is-above (fin false m e) n h = tt

large_above : (x : Float) → Large x → Above x
large_above nan h = absurd h
large_above (inf true) h = absurd h
large_above (inf false) h = tt
large_above (fin true m e) h = absurd h
large_above (fin false m e) h = tt

add_large : (x y : Float) → Above x → Above y → Large x ⊎ Large y → Large (add binary32 x y)
unfolding add
add_large nan y p q h = absurd p
add_large (inf true) y p q h = absurd p
add_large (inf false) nan p q h = absurd q
add_large (inf false) (inf true) p q h = absurd q
add_large (inf false) (inf false) p q h = tt
add_large (inf false) (fin t n d) p q h = tt
add_large (fin true m e) y p q h = absurd p
add_large (fin false m e) nan p q h = absurd q
add_large (fin false m e) (inf true) p q h = absurd q
add_large (fin false m e) (inf false) p q h = tt
add_large (fin false m e) (fin true n d) p q h = absurd q
add_large (fin false m e) (fin false n d) p q h =
    round_large (m * up e * down d + n * up d * down e) (down e * down d) (mul-pos (down_pos e) (down_pos d)) (wide (m * up e) (n * up d) (down e) (down d) h)
  where
    wide : (a b c d : ℕ) → (16777216 * c ≤ a) ⊎ (16777216 * d ≤ b) → 16777216 * (c * d) ≤ a * d + b * c
    wide a b c d (inl h) = let l : 16777216 * c * d ≤ a * d = mul-le-mul_right d h in omega arith
    wide a b c d (inr h) = let l : 16777216 * d * c ≤ b * c = mul-le-mul_right c h in omega arith

pub add_measures : (x y : Float) (a b : ℕ) → Measures x a → Measures y b → Measures (add binary32 x y) (a + b)
add_measures x y a b (inl h) (inl k) =
    subst (λ (z : Float). Measures z (a + b))
    (sym (add_at binary32 x y a 1 b 1 (lit< tt) (lit< tt) h.0 k.0 ∙ round_same binary32 false (a * 1 + b * 1) (1 * 1) (a + b) 1 (lit< tt) (lit< tt) (omega arith)))
    (measures_round (a + b))
add_measures x y a b (inl h) (inr k) = inr (add_large x y (is-above x a h.0) (large_above y k.0) (inr k.0), omega arith)
add_measures x y a b (inr h) (inl k) = inr (add_large x y (large_above x h.0) (is-above y b k.0) (inl h.0), omega arith)
add_measures x y a b (inr h) (inr k) = inr (add_large x y (large_above x h.0) (large_above y k.0) (inl h.0), omega arith)

-- ---- products
pub product_measures : (x y : Float) (a b : ℕ) → Is x a → Is y b → Measures (mul binary32 x y) (a * b)
product_measures x y a b h k = subst (λ (z : Float). Measures z (a * b)) (sym (mul_at binary32 x y a 1 b 1 (lit< tt) (lit< tt) h k)) (measures_round (a * b))

mul_large : (x y : Float) (b : ℕ) → Large x → Is y b → 1 ≤ b → Large (mul binary32 x y)
unfolding mul
mul_large nan y b h k g = absurd h
mul_large (inf true) y b h k g = absurd h
mul_large (inf false) nan b h k g = absurd k
mul_large (inf false) (inf s) b h k g = absurd k
mul_large (inf false) (fin true n d) b h k g = absurd (true≢false k.0)
mul_large (inf false) (fin false n d) b h k g =
    subst Large (sym (cond_no (eqb n 0) nan (inf false) (not_T (eqb n 0) (λ (t : T (eqb n 0)). some n (up d) (down d) b (eqb→eq n 0 t) k.1 g (down_pos d))))) tt
  where
    some : (n u d b : ℕ) → n ≡ 0 → n * u * 1 ≡ b * d → 1 ≤ b → 0 < d → ⊥
    some n u d b z e g p =
        let l : 0 < b * d = mul-pos g p in
        let q : n * u * 1 ≡ 0 = ap (λ (z : ℕ). z * u * 1) z ∙ zeros u in
        omega arith
      where
        zeros : (u : ℕ) → 0 * u * 1 ≡ 0
        zeros u = omega arith
mul_large (fin true m e) y b h k g = absurd h
mul_large (fin false m e) nan b h k g = absurd k
mul_large (fin false m e) (inf s) b h k g = absurd k
mul_large (fin false m e) (fin true n d) b h k g = absurd (true≢false k.0)
mul_large (fin false m e) (fin false n d) b h k g =
    round_large (m * up e * (n * up d)) (down e * down d) (mul-pos (down_pos e) (down_pos d)) (wide (m * up e) (n * up d) (down e) (down d) b h k.1 g)
  where
    wide : (a v c d b : ℕ) → 16777216 * c ≤ a → v * 1 ≡ b * d → 1 ≤ b → 16777216 * (c * d) ≤ a * v
    wide a v c d b h e g =
        let l : 1 * d ≤ b * d = mul-le-mul_right d g in
        let w : d ≤ v = omega arith in
        let q : 16777216 * c * d ≤ a * v = mul-le-mul h w in
        omega arith

-- a counted repeat; of no times, its sum has to be finite
pub counted_measures : (x : Float) (a n : ℕ) → n ≤ 16777216 → T (nonneg x) → Measures x a → Measures (counted_space x n) (a * n)
counted_measures x a zero h p m = subst (λ (z : Float). Measures z (a * 0)) (sym none) (is_measures (round binary32 false 0 1) (a * 0) (subst (λ (z : ℕ). Is (round binary32 false 0 1) z) (omega arith) (round_one 0 (lit≤ tt))))
  where
    none : counted_space x 0 ≡ round binary32 false 0 1
    none =
        mul_at binary32 x (whole32 0) (num x) (den x) 0 1 (den_pos x) (lit< tt) (own x p) (count-is 0 (lit≤ tt))
        ∙ round_same binary32 false (num x * 0) (den x * 1) 0 1 (mul-pos (den_pos x) (lit< tt)) (lit< tt) (omega arith)
counted_measures x a (suc n) h p (inl m) = product_measures x (whole32 (suc n)) a (suc n) m.0 (count-is (suc n) h)
counted_measures x a (suc n) h p (inr m) = inr (mul_large x (whole32 (suc n)) (suc n) m.0 (count-is (suc n) h) (some n), wide a n m.1)
  where
    some : (n : ℕ) → 1 ≤ suc n
    some n = omega arith

    wide : (a n : ℕ) → 16777216 ≤ a → 16777216 ≤ a * suc n
    wide a n h = omega arith

-- ---- the order
pub below-is : (x y : Float) (a b : ℕ) → Is x a → Is y b → lt x y ≡ ltb a b
unfolding lt
below-is nan y a b h k = absurd h
below-is (inf s) y a b h k = absurd h
below-is (fin true m e) y a b h k = absurd (true≢false h.0)
below-is (fin false m e) nan a b h k = absurd k
below-is (fin false m e) (inf s) a b h k = absurd k
below-is (fin false m e) (fin true n d) a b h k = absurd (true≢false k.0)
below-is (fin false m e) (fin false n d) a b h k = scaled (m * up e) (n * up d) (down e) (down d) (down_pos e) (down_pos d) h.1 k.1 (ltb a b) refl
  where
    side : (v a c d : ℕ) → v * 1 ≡ a * c → v * d ≡ a * (c * d)
    side v a c d e = ap (λ (z : ℕ). z * d) (sym (mul-one v) ∙ e) ∙ mul_assoc a c d

    scaled : (v w c d : ℕ) → 0 < c → 0 < d → v * 1 ≡ a * c → w * 1 ≡ b * d → (t : Bool) → ltb a b ≡ t → ltb (v * d) (w * c) ≡ t
    scaled v w c d C D p q true e =
        lt-ltb (v * d) (w * c)
        (subst (λ (z : ℕ). z < w * c) (sym (side v a c d p)) (subst (λ (z : ℕ). a * (c * d) < z) (sym (side w b d c q ∙ ap (λ (z : ℕ). b * z) (mul_comm d c))) (mul-lt-mul_of_pos_right (ltb-true a b e) (mul-pos C D))))
    scaled v w c d C D p q false e =
        le-ltb (v * d) (w * c)
        (subst (λ (z : ℕ). w * c ≤ z) (sym (side v a c d p)) (subst (λ (z : ℕ). z ≤ a * (c * d)) (sym (side w b d c q ∙ ap (λ (z : ℕ). b * z) (mul_comm d c))) (mul-le-mul_right (c * d) (ltb-false a b e))))

below_large : (x y : Float) (a : ℕ) → Is x a → a < 16777216 → Large y → lt x y ≡ true
unfolding lt
below_large nan y a h g k = absurd h
below_large (inf s) y a h g k = absurd h
below_large (fin true m e) y a h g k = absurd (true≢false h.0)
below_large (fin false m e) nan a h g k = absurd k
below_large (fin false m e) (inf true) a h g k = absurd k
below_large (fin false m e) (inf false) a h g k = refl
below_large (fin false m e) (fin true n d) a h g k = absurd k
below_large (fin false m e) (fin false n d) a h g k = lt-ltb (m * up e * down d) (n * up d * down e) (wide (m * up e) (n * up d) (down e) (down d) h.1 k (down_pos e) (down_pos d))
  where
    wide : (v w c d : ℕ) → v * 1 ≡ a * c → 16777216 * d ≤ w → 0 < c → 0 < d → v * d < w * c
    wide v w c d e k C D =
        let l : a * (c * d) < 16777216 * (c * d) = mul-lt-mul_of_pos_right g (mul-pos C D) in
        let r : 16777216 * d * c ≤ w * c = mul-le-mul_right c k in
        let s : v * d ≡ a * (c * d) = ap (λ (z : ℕ). z * d) (sym (mul-one v) ∙ e) ∙ mul_assoc a c d in
        omega arith

-- a number below 2 ^ 24 against what measures another
pub below_measures : (x y : Float) (a b : ℕ) → Is x a → a < 16777216 → Measures y b → lt x y ≡ ltb a b
below_measures x y a b h g (inl k) = below-is x y a b h k.0
below_measures x y a b h g (inr k) = below_large x y a h g k.0 ∙ sym (lt-ltb a b (lt_of_lt_of_le g k.1))

-- ---- differences
pick : (f : Format) (a b c : ℕ) → b ≤ a → sum f false a true b c ≡ round f false (a - b) c
unfolding sum
pick f a b c h = go (ltb a b) (le-ltb a b h)
  where
    go : (t : Bool) → t ≡ false → cond t (round f true (b - a) c) (round f false (a - b) c) ≡ round f false (a - b) c
    go true k = absurd (true≢false k)
    go false k = refl

opened : (f : Format) (m : ℕ) (e : ℤ) (n : ℕ) (d : ℤ) → sub f (fin false m e) (fin false n d) ≡ sum f false (m * up e * down d) true (n * up d * down e) (down e * down d)
unfolding sub
opened f m e n d = refl

pub difference_is : (x y : Float) (a b : ℕ) → Is x a → Is y b → b ≤ a → a ≤ 16777216 → Is (sub binary32 x y) (a - b)
difference_is nan y a b h k l g = absurd h
difference_is (inf s) y a b h k l g = absurd h
difference_is (fin true m e) y a b h k l g = absurd (true≢false h.0)
difference_is (fin false m e) nan a b h k l g = absurd k
difference_is (fin false m e) (inf s) a b h k l g = absurd k
difference_is (fin false m e) (fin true n d) a b h k l g = absurd (true≢false k.0)
difference_is (fin false m e) (fin false n d) a b h k l g =
    let c = down e * down d in
    let v : m * up e * down d ≡ a * c = side (m * up e) a (down e) (down d) h.1 in
    let w : n * up d * down e ≡ b * c = side (n * up d) b (down d) (down e) k.1 ∙ ap (λ (z : ℕ). b * z) (mul_comm (down d) (down e)) in
    subst (λ (z : Float). Is z (a - b))
    (sym (opened binary32 m e n d
    ∙ ap (λ (z : ℕ). sum binary32 false z true (n * up d * down e) c) v
    ∙ ap (λ (z : ℕ). sum binary32 false (a * c) true z c) w
    ∙ pick binary32 (a * c) (b * c) c (mul-le-mul_right c l)
    ∙ round_same binary32 false (a * c - b * c) c (a - b) 1 (mul-pos (down_pos e) (down_pos d)) (lit< tt) (less a b c)))
    (round_one (a - b) (within a b g))
  where
    side : (v a c d : ℕ) → v * 1 ≡ a * c → v * d ≡ a * (c * d)
    side v a c d e = ap (λ (z : ℕ). z * d) (sym (mul-one v) ∙ e) ∙ mul_assoc a c d

    less : (a b c : ℕ) → (a * c - b * c) * 1 ≡ (a - b) * c
    less a b c = mul-one (a * c - b * c) ∙ ap (λ (z : ℕ). z - b * c) (mul_comm a c) ∙ ap (λ (z : ℕ). c * a - z) (mul_comm b c) ∙ sym (mul-sub c a b) ∙ mul_comm c (a - b)

    within : (a b : ℕ) → a ≤ 16777216 → a - b ≤ 16777216
    within a b h = omega arith

-- ---- quotients
not-zero : (n : ℕ) → 0 < n → n ≡ 0 → ⊥
not-zero n h e = omega arith

quotient_rounds : (x y : Float) (a b : ℕ) → 0 < b → Is x a → Is y b → div binary32 x y ≡ round binary32 false a b
unfolding div
quotient_rounds nan y a b B h k = absurd h
quotient_rounds (inf s) y a b B h k = absurd h
quotient_rounds (fin true m e) y a b B h k = absurd (true≢false h.0)
quotient_rounds (fin false m e) nan a b B h k = absurd k
quotient_rounds (fin false m e) (inf t) a b B h k = absurd k
quotient_rounds (fin false m e) (fin true n g) a b B h k = absurd (true≢false k.0)
quotient_rounds (fin false m e) (fin false n g) a b B h k =
    let N : 0 < n * up g = first_pos (n * up g) 1 (subst (λ (z : ℕ). 0 < z) (sym k.1) (mul-pos B (down_pos g))) in
    cond_no (eqb n 0) (cond (eqb m 0) nan (inf false)) (round binary32 false (m * up e * down g) (n * up g * down e)) (not_T (eqb n 0) (λ (u : T (eqb n 0)). not-zero n (first_pos n (up g) N) (eqb→eq n 0 u)))
    ∙ round_same binary32 false (m * up e * down g) (n * up g * down e) a b (mul-pos N (down_pos e)) B
    (turn (m * up e) (n * up g) (down e) (down g) h.1 k.1)
  where
    turn : (X Y p q : ℕ) → X * 1 ≡ a * p → Y * 1 ≡ b * q → X * q * b ≡ a * (Y * p)
    turn X Y p q x y =
        ap (λ (z : ℕ). z * q * b) (sym (mul-one X) ∙ x)
        ∙ shuffle a p q b
        ∙ ap (λ (z : ℕ). a * (z * p)) (sym (sym (mul-one Y) ∙ y))
      where
        shuffle : (a p q b : ℕ) → a * p * q * b ≡ a * (b * q * p)
        shuffle a p q b = simp (mul_assoc, mul_comm, mul_left_comm)

-- what `compare` says
abbrev Told : Ordering → ℕ → ℕ → Type 0
Told Ordering.lt a b = a < b
Told Ordering.eq a b = a ≡ b
Told Ordering.gt a b = b < a

told : (a b : ℕ) → Told (compare a b) a b
told a b = go (compare a b) (leb→le a b) (nleb→lt a b) (eqb→eq a b) (λ (e : a ≡ b). subst (λ (x : ℕ). T (eqb a x)) e (eqb_refl a))
  where
    go : (o : Ordering) → (T (is_le o) → a ≤ b) → (T (not (is_le o)) → b < a) → (T (compare_is_eq o) → a ≡ b) → (a ≡ b → T (compare_is_eq o)) → Told o a b
    go Ordering.lt h k e n = lt_of_le-ne (h tt) n
    go Ordering.eq h k e n = e tt
    go Ordering.gt h k e n = k tt

-- a / b rounded to a whole number is at most a half away
closest_high : (a b : ℕ) → closest a b * b * 2 ≤ a * 2 + b
closest_high a b = subst (λ (z : ℕ). closest a b * b * 2 ≤ z * 2 + b) (div-add-mod' a b) (go (a / b) (a % b) (compare (a % b * 2) b) (told (a % b * 2) b))
  where
    go : (q r : ℕ) (o : Ordering) → Told o (r * 2) b → nearest q o * b * 2 ≤ (q * b + r) * 2 + b
    go q r Ordering.lt h = omega arith
    go q r Ordering.eq h = let l : (q + q % 2) * b ≤ (q + 1) * b = mul-le-mul_right b (tie q) in omega arith
      where
        tie : (q : ℕ) → q + q % 2 ≤ q + 1
        tie q = omega arith
    go q r Ordering.gt h = omega arith

closest_low : (a b : ℕ) → 0 < b → a * 2 ≤ closest a b * b * 2 + b
closest_low a b B = subst (λ (z : ℕ). z * 2 ≤ closest a b * b * 2 + b) (div-add-mod' a b) (go (a / b) (a % b) (compare (a % b * 2) b) (mod-lt a B) (told (a % b * 2) b))
  where
    go : (q r : ℕ) (o : Ordering) → r < b → Told o (r * 2) b → (q * b + r) * 2 ≤ nearest q o * b * 2 + b
    go q r Ordering.lt g h = omega arith
    go q r Ordering.eq g h = let l : q * b ≤ (q + q % 2) * b = mul-le-mul_right b (tie q) in omega arith
      where
        tie : (q : ℕ) → q ≤ q + q % 2
        tie q = omega arith
    go q r Ordering.gt g h = omega arith

-- a whole number below 2 ^ 24 over another: its f32 is less than 1 / b away from the exact fraction, so that no whole number lies between
module _ (a b : ℕ) (small : a < 16777216) (B : 0 < b) (few : b ≤ 16777216) where
  -- the smallest f32 is 1 / parts; the rounded quotient is rounded / parts, a multiple of step / parts
  parts : ℕ
  parts = 2 ^ low binary32

  step : ℕ
  step = 2 ^ drop 24 (a * 2 ^ low binary32) b

  rounded : ℕ
  rounded = grid binary32 a b

  unit-small : step * b < 2 * parts
  unfolding parts step
  unit-small = go (size (a * 2 ^ low binary32 / b)) refl
    where
      first : (z : ℕ) → 24 < z → 24 + (z - 24) ≡ z
      first z h = omega arith

      room : (u b p q n : ℕ) → u * 8388608 ≤ q → q * b ≤ n → n < 16777216 * p → u * b < 2 * p
      room u b p q n h k l = let m : u * 8388608 * b ≤ q * b = mul-le-mul_right b h in omega arith

      digits : (z : ℕ) → 24 < z → 23 + (z - 24) < z
      digits z h = omega arith

      none : (z : ℕ) → z ≤ 24 → z - 24 ≡ 0
      none z h = omega arith

      go : (z : ℕ) → size (a * 2 ^ low binary32 / b) ≡ z → 2 ^ (z - 24) * b < 2 * 2 ^ low binary32
      go z e = test (leb z 24) refl
        where
          test : (t : Bool) → leb z 24 ≡ t → 2 ^ (z - 24) * b < 2 * 2 ^ low binary32
          test true h = subst (λ (k : ℕ). 2 ^ k * b < 2 * 2 ^ low binary32) (sym (none z (leb-true z 24 h))) (lt_of_le_of_lt (le_of_eq (one b)) (lt_of_le_of_lt few (lit< tt)))
            where
              one : (b : ℕ) → 1 * b ≡ b
              one b = omega arith
          test false h =
              room (2 ^ (z - 24)) b (2 ^ low binary32) (a * 2 ^ low binary32 / b) (a * 2 ^ low binary32)
              (le_trans (le_of_eq (mul_comm (2 ^ (z - 24)) 8388608 ∙ sym (pow-add 2 23 (z - 24)))) (size_reaches (a * 2 ^ low binary32 / b) (23 + (z - 24)) (subst (λ (k : ℕ). 23 + (z - 24) < k) (sym e) (digits z (leb-false z 24 h)))))
              (div-mul-le_self (a * 2 ^ low binary32) b)
              (mul-lt-mul_of_pos_right small (pow_pos (low binary32)))

  high : rounded * b * 2 ≤ a * parts * 2 + b * step
  unfolding rounded parts step
  high =
      let d = drop 24 (a * 2 ^ low binary32) b in
      le_trans (le_of_eq (turn (closest (a * 2 ^ low binary32) (b * 2 ^ d)) (2 ^ d) b)) (closest_high (a * 2 ^ low binary32) (b * 2 ^ d))
    where
      turn : (k u b : ℕ) → k * u * b * 2 ≡ k * (b * u) * 2
      turn k u b = omega arith

  close : a * parts * 2 ≤ rounded * b * 2 + b * step
  unfolding rounded parts step
  close =
      let d = drop 24 (a * 2 ^ low binary32) b in
      le_trans (closest_low (a * 2 ^ low binary32) (b * 2 ^ d) (mul-pos B (pow_pos d))) (le_of_eq (turn (closest (a * 2 ^ low binary32) (b * 2 ^ d)) (2 ^ d) b))
    where
      turn : (k u b : ℕ) → k * (b * u) * 2 + b * u ≡ k * u * b * 2 + b * u
      turn k u b = omega arith

  positive : 0 < parts
  unfolding parts
  positive = pow_pos (low binary32)

  bounded : rounded < 16777216 * parts
  bounded = go rounded b a parts step B small high unit-small
    where
      go : (g b a p u : ℕ) → 0 < b → a < 16777216 → g * b * 2 ≤ a * p * 2 + b * u → u * b < 2 * p → g < 16777216 * p
      go g b a p u B s h k =
          let l : g * 1 ≤ g * b = mul-le-mul (le_refl g) B in
          let m : (a + 1) * p ≤ 16777216 * p = mul-le-mul_right p s1 in
          omega arith
        where
          s1 : a + 1 ≤ 16777216
          s1 = omega arith

  value : HasValue (round binary32 false a b) false rounded parts
  unfolding rounded parts
  value = round_val binary32 a b (lt_of_lt_of_le (unfold rounded parts in bounded) (lit≤ tt))

  most : (m : ℕ) → (m * parts ≤ rounded) ↔ (m * b ≤ a)
  most m = (
    λ h. lower m h,
    λ h. le_trans (values_of_le (round binary32 false m 1) (round binary32 false a b) m 1 rounded parts (lit< tt) positive (round_one m (below m h)) value (round_mono binary32 m 1 a b (lit< tt) B (le_trans h (le_of_eq (sym (mul-one a))))))
        (le_of_eq (mul-one rounded)),
  )
    where
      under : (m p g b a u : ℕ) → m * p ≤ g → g * b * 2 ≤ a * p * 2 + b * u → u * b < 2 * p → m * b * p < (a + 1) * p
      under m p g b a u h k l = let n : m * p * b ≤ g * b = mul-le-mul_right b h in omega arith

      drop-one : (x a : ℕ) → x < a + 1 → x ≤ a
      drop-one x a h = omega arith

      lower : (m : ℕ) → m * parts ≤ rounded → m * b ≤ a
      lower m h = drop-one (m * b) a (lt_of_mul-lt-mul_right parts (under m parts rounded b a step h high unit-small))

      below : (m : ℕ) → m * b ≤ a → m ≤ 16777216
      below m h = let l : m ≤ m * b = le-mul_of_pos_right m B in omega arith

  least : (m : ℕ) → (rounded ≤ m * parts) ↔ (a ≤ m * b)
  least m = (λ h. lower m h, λ h. go m h (leb m 16777216) refl)
    where
      under : (m p g b a u : ℕ) → g ≤ m * p → a * p * 2 ≤ g * b * 2 + b * u → u * b < 2 * p → a * p < (m * b + 1) * p
      under m p g b a u h k l = let n : g * b ≤ m * p * b = mul-le-mul_right b h in omega arith

      drop-one : (x a : ℕ) → x < a + 1 → x ≤ a
      drop-one x a h = omega arith

      lower : (m : ℕ) → rounded ≤ m * parts → a ≤ m * b
      lower m h = drop-one a (m * b) (lt_of_mul-lt-mul_right parts (under m parts rounded b a step h close unit-small))

      go : (m : ℕ) → a ≤ m * b → (t : Bool) → leb m 16777216 ≡ t → rounded ≤ m * parts
      go m h true e =
          le_trans (le_of_eq (sym (mul-one rounded)))
          (values_of_le (round binary32 false a b) (round binary32 false m 1) rounded parts m 1 positive (lit< tt) value (round_one m (leb-true m 16777216 e)) (round_mono binary32 a b m 1 B (lit< tt) (le_trans (le_of_eq (mul-one a)) h)))
      go m h false e = le_trans (le_of_lt bounded) (mul-le-mul_right parts (le_of_lt (leb-false m 16777216 e)))

-- ---- a whole number against an f32 of a value g / p
at_most_value : (x : Float) (g p m : ℕ) → 0 < p → HasValue x false g p → AtMost m x ↔ (m * p ≤ g)
unfolding AtMost
at_most_value nan g p m h v = absurd v
at_most_value (inf s) g p m h v = absurd v
at_most_value (fin true n e) g p m h v = absurd (true≢false v.0)
at_most_value (fin false n e) g p m h v = (
  λ k. le_of_mul-le-mul_right (there (n * up e) (down e) v.1 k) (down_pos e),
  λ k. le_of_mul-le-mul_right (back (n * up e) (down e) v.1 k) h,
)
  where
    there : (w d : ℕ) → w * p ≡ g * d → m * d ≤ w → m * p * d ≤ g * d
    there w d e k = let l : m * d * p ≤ w * p = mul-le-mul_right p k in omega arith

    back : (w d : ℕ) → w * p ≡ g * d → m * p ≤ g → m * d * p ≤ w * p
    back w d e k = let l : m * p * d ≤ g * d = mul-le-mul_right d k in omega arith

at_least_value : (x : Float) (g p m : ℕ) → 0 < p → HasValue x false g p → AtLeast m x ↔ (g ≤ m * p)
unfolding AtLeast
at_least_value nan g p m h v = absurd v
at_least_value (inf s) g p m h v = absurd v
at_least_value (fin true n e) g p m h v = absurd (true≢false v.0)
at_least_value (fin false n e) g p m h v = (
  λ k. le_of_mul-le-mul_right (there (n * up e) (down e) v.1 k) (down_pos e),
  λ k. le_of_mul-le-mul_right (back (n * up e) (down e) v.1 k) h,
)
  where
    there : (w d : ℕ) → w * p ≡ g * d → w ≤ m * d → g * d ≤ m * p * d
    there w d e k = let l : w * p ≤ m * d * p = mul-le-mul_right p k in omega arith

    back : (w d : ℕ) → w * p ≡ g * d → g ≤ m * p → w * p ≤ m * d * p
    back w d e k = let l : g * d ≤ m * p * d = mul-le-mul_right d k in omega arith

-- ---- floor and ceiling of a quotient of whole numbers are those of the exact fraction
module _ (x y : Float) (a b : ℕ) (small : a < 16777216) (B : 0 < b) (few : b ≤ 16777216) (h : Is x a) (k : Is y b) where
  at-most-quotient : (m : ℕ) → AtMost m (div binary32 x y) ↔ (m * b ≤ a)
  at-most-quotient m =
      let e = quotient_rounds x y a b B h k in
      let v = at_most_value (round binary32 false a b) (rounded a b small B few) (parts a b small B few) m (positive a b small B few) (value a b small B few) in
      let w = most a b small B few m in
      (λ t. w.0 (v.0 (subst (AtMost m) e t)), λ t. subst (AtMost m) (sym e) (v.1 (w.1 t)))

  at-least-quotient : (m : ℕ) → AtLeast m (div binary32 x y) ↔ (a ≤ m * b)
  at-least-quotient m =
      let e = quotient_rounds x y a b B h k in
      let v = at_least_value (round binary32 false a b) (rounded a b small B few) (parts a b small B few) m (positive a b small B few) (value a b small B few) in
      let w = least a b small B few m in
      (λ t. w.0 (v.0 (subst (AtLeast m) e t)), λ t. subst (AtLeast m) (sym e) (v.1 (w.1 t)))

  pub floor-quotient : (m : ℕ) → (m ≤ floor_of (div binary32 x y)) ↔ (m * b ≤ a)
  floor-quotient zero = (λ t. omega arith, λ t. omega arith)
  floor-quotient (suc m) = (
    λ t. (at-most-quotient (suc m)).0 ((floor_greatest (div binary32 x y) (suc m) (some m) (last (suc m) (floor_of (div binary32 x y)) (floor_lt (div binary32 x y)) t)).1 t),
    λ t. (floor_greatest (div binary32 x y) (suc m) (some m) (under (suc m) t)).0 ((at-most-quotient (suc m)).1 t),
  )
    where
      some : (m : ℕ) → 1 ≤ suc m
      some m = omega arith

      last : (m f : ℕ) → f < 4294967296 → m ≤ f → m ≤ 4294967295
      last m f h g = omega arith

      under : (m : ℕ) → m * b ≤ a → m ≤ 4294967295
      under m t = let l : m ≤ m * b = le-mul_of_pos_right m B in omega arith

  pub ceiling-quotient : (m : ℕ) → (ceiling_of (div binary32 x y) ≤ m) ↔ (a ≤ m * b)
  ceiling-quotient m = go (leb m 16777216) refl
    where
      first : ceiling_of (div binary32 x y) ≤ a
      first = (ceiling_least (div binary32 x y) a (under a small)).0 ((at-least-quotient a).1 (le-mul_of_pos_right a B))
        where
          under : (a : ℕ) → a < 16777216 → a < 4294967295
          under a h = omega arith

      few-counts : (m : ℕ) → m ≤ 16777216 → m < 4294967295
      few-counts m h = omega arith

      many : (m : ℕ) → 16777216 < m → a ≤ m * b
      many m h = let l : m ≤ m * b = le-mul_of_pos_right m B in omega arith

      above : (c m : ℕ) → c ≤ a → 16777216 < m → c ≤ m
      above c m h g = omega arith

      go : (t : Bool) → leb m 16777216 ≡ t → (ceiling_of (div binary32 x y) ≤ m) ↔ (a ≤ m * b)
      go true e =
          let c = ceiling_least (div binary32 x y) m (few-counts m (leb-true m 16777216 e)) in
          (λ t. (at-least-quotient m).0 (c.1 t), λ t. c.0 ((at-least-quotient m).1 t))
      go false e = (λ t. many m (leb-false m 16777216 e), λ t. above (ceiling_of (div binary32 x y)) m first (leb-false m 16777216 e))
