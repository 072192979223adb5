-- The floor and the ceiling: what the two functions' branches show, and that they are the greatest and the least whole number. Assumes nothing.
use Rattle.std.proofs.Common.{◌≡◌, ℕ, zero, suc, ◌+◌, ◌-◌, ◌*◌, ◌/◌, ◌%◌, ◌^◌, ◌<◌, ◌≤◌, min, Bool, true, false, cond, ◌&&◌, T, eqb, ltb, leb, ℤ, pos, negsuc, sym, refl, ap, ◌∙◌, subst, true≢false, lt_of_lt_of_le, add-zero, le_of_lt, mul-le-mul_right, div-lt_iff_lt-mul, mul-lt-mul_of_pos_right, le-div_iff_mul-le, mul-one, div-le_self, mul_right_comm, not-le_of_lt, div-mul-le_self, arith, le→leb, ltb→lt, lt→ltb, ltb-false, ltb-true, le-ltb, lt-ltb}
use native.Mathlib.Nat.{div-eq_of_lt-le, lt-div-mul-add}
use mathlib.Core.Bool.{false≢true}
use lib.Ieee.{Float, nan, inf, fin, binary32, up, down, lt, of_int, fits, to_unsigned, in_float}
use lib.Ieee.Exact.{HasValue}
use lib.Ieee.Back.{round_whole}
use lib.Ieee.Fits.{down_pos, and_l, and_r}
use Rattle.template_rules.specs.Whole.{largest_count, floor_of, ceiling_of}

abbrev minus_one : Float
minus_one = fin true 1 (pos 0)

abbrev two32 : Float
two32 = fin false 1 (pos 32)

abbrev two64 : Float
two64 = fin false 1 (pos 64)

-- ---- the floor
small_pos : (a d : ℕ) → 0 < d → 0 < a * 1 + 1 * 18446744073709551616 * d
small_pos a d h = omega arith

wider : (a d : ℕ) → a * 1 < 1 * 4294967296 * d → a * 1 < 1 * 18446744073709551616 * d
wider a d h = omega arith

pub under_64 : (x : Float) → T (lt x two32) → T (lt x two64)
unfolding lt
under_64 nan h = h
under_64 (inf s) h = h
under_64 (fin true m e) h = lt→ltb 0 (m * up e * 1 + 1 * 18446744073709551616 * down e) (small_pos (m * up e) (down e) (down_pos e))
under_64 (fin false m e) h = lt→ltb (m * up e * 1) (1 * 18446744073709551616 * down e) (wider (m * up e) (down e) (ltb→lt (m * up e * 1) (1 * 4294967296 * down e) h))

quotient_lt : (a d : ℕ) → 0 < d → a * 1 < 1 * 4294967296 * d → a / d < 4294967296
quotient_lt a d p h = (div-lt_iff_lt-mul p).1 (subst (λ (k : ℕ). k < 4294967296 * d) (mul-one a) h)

capped : (q : ℕ) → q < 4294967296 → min q 18446744073709551615 ≡ min q 4294967295
capped q h = omega arith

pub cut_is_floor : (x : Float) → T (lt x two32) → to_unsigned 64 x ≡ floor_of x
unfolding lt to_unsigned floor_of
cut_is_floor nan h = absurd h
cut_is_floor (inf true) h = refl
cut_is_floor (inf false) h = absurd h
cut_is_floor (fin true m e) h = refl
cut_is_floor (fin false m e) h = capped (m * up e / down e) (quotient_lt (m * up e) (down e) (down_pos e) (ltb→lt (m * up e * 1) (1 * 4294967296 * down e) h))

capped_lt : (q : ℕ) → min q 4294967295 < 4294967296
capped_lt q = omega arith

either : (s : Bool) (a : ℕ) → a < 4294967296 → cond s 0 a < 4294967296
either true a h = omega arith
either false a h = h

pub floor_lt : (x : Float) → floor_of x < 2 ^ 32
unfolding floor_of
floor_lt nan = omega arith
floor_lt (inf s) = either s 4294967295 (omega arith)
floor_lt (fin s m e) = either s (min (m * up e / down e) 4294967295) (capped_lt (m * up e / down e))

at_most : (q : ℕ) → 4294967296 ≤ q → min q 4294967295 ≡ 4294967295
at_most q h = omega arith

pub floor_large : (x : Float) → lt minus_one x ≡ true → lt x two32 ≡ false → largest_count ≡ floor_of x
unfolding lt floor_of
floor_large nan p q = absurd (false≢true p)
floor_large (inf true) p q = absurd (false≢true p)
floor_large (inf false) p q = refl
floor_large (fin true m e) p q = absurd (not-le_of_lt (lt_of_lt_of_le (down_pos e) (grow (m * up e) (down e))) (ltb-false 0 (m * up e * 1 + 1 * 4294967296 * down e) q))
  where
    grow : (a d : ℕ) → d ≤ a * 1 + 1 * 4294967296 * d
    grow a d = omega arith
floor_large (fin false m e) p q = sym (at_most (m * up e / down e) ((le-div_iff_mul-le (down_pos e)).1 (turn (m * up e) (down e) (ltb-false (m * up e * 1) (1 * 4294967296 * down e) q))))
  where
    turn : (a d : ℕ) → 1 * 4294967296 * d ≤ a * 1 → 4294967296 * d ≤ a
    turn a d h = omega arith

pub floor_low : (x : Float) → lt minus_one x ≡ false → 0 ≡ floor_of x
unfolding lt floor_of
floor_low nan p = refl
floor_low (inf true) p = refl
floor_low (inf false) p = absurd (true≢false p)
floor_low (fin true m e) p = refl
floor_low (fin false m e) p = absurd (not-le_of_lt (lt_of_lt_of_le (down_pos e) (grow (m * up e) (down e))) (ltb-false 0 (1 * 1 * down e + m * up e * 1) p))
  where
    grow : (a d : ℕ) → d ≤ 1 * 1 * d + a * 1
    grow a d = omega arith

-- ---- the ceiling
-- (a + (d - 1)) / d is one more than a / d exactly where a / d * d is below a
round_up : (a d : ℕ) (t : Bool) → 0 < d → ltb (a / d * d) a ≡ t → (a + (d - 1)) / d ≡ a / d + cond t 1 0
round_up a d true p h = div-eq_of_lt-le d (lo (a / d * d) (ltb-true (a / d * d) a h) (lt-div-mul-add p) (dist (a / d) d)) (hi (a / d * d) (lt-div-mul-add p) (dist2 (a / d) d))
  where
    dist : (q d : ℕ) → (q + 1) * d ≡ q * d + d
    dist q d = omega arith

    dist2 : (q d : ℕ) → (q + 1 + 1) * d ≡ q * d + d + d
    dist2 q d = omega arith

    lo : (k : ℕ) → k < a → a < k + d → (a / d + 1) * d ≡ k + d → (a / d + 1) * d ≤ a + (d - 1)
    lo k h g e = omega arith

    hi : (k : ℕ) → a < k + d → (a / d + 1 + 1) * d ≡ k + d + d → a + (d - 1) < (a / d + 1 + 1) * d
    hi k g e = omega arith
round_up a d false p h = div-eq_of_lt-le d (lo (a / d * d) (div-mul-le_self a d) (dist (a / d) d)) (hi (a / d * d) (ltb-false (a / d * d) a h) (dist2 (a / d) d))
  where
    dist : (q d : ℕ) → (q + 0) * d ≡ q * d
    dist q d = omega arith

    dist2 : (q d : ℕ) → (q + 0 + 1) * d ≡ q * d + d
    dist2 q d = omega arith

    lo : (k : ℕ) → k ≤ a → (a / d + 0) * d ≡ k → (a / d + 0) * d ≤ a + (d - 1)
    lo k g e = omega arith

    hi : (k : ℕ) → a ≤ k → (a / d + 0 + 1) * d ≡ k + d → a + (d - 1) < (a / d + 0 + 1) * d
    hi k g e = omega arith

lt_nan : (y : Float) → lt y nan ≡ false
unfolding lt
lt_nan nan = refl
lt_nan (inf s) = refl
lt_nan (fin s m e) = refl

-- a whole number against a value that is not negative: the test is one of whole numbers
lt_whole : (y : Float) (n m : ℕ) (e : ℤ) → HasValue y false n 1 → lt y (fin false m e) ≡ ltb (n * down e) (m * up e)
unfolding lt
lt_whole nan n m e v = absurd v
lt_whole (inf s) n m e v = absurd v
lt_whole (fin true k g) n m e v = absurd (true≢false v.0)
lt_whole (fin false k g) n m e v =
    let w : k * up g ≡ n * down g = sym (mul-one (k * up g)) ∙ v.1 in
    ap (λ (z : ℕ). ltb (z * down e) (m * up e * down g)) w
    ∙ ap (λ (z : ℕ). ltb z (m * up e * down g)) (mul_right_comm n (down g) (down e))
    ∙ scaled (n * down e) (m * up e) (down g) (down_pos g)
  where
    go : (a b c : ℕ) (t : Bool) → 0 < c → ltb a b ≡ t → ltb (a * c) (b * c) ≡ t
    go a b c true p h = lt-ltb (a * c) (b * c) (mul-lt-mul_of_pos_right (ltb-true a b h) p)
    go a b c false p h = le-ltb (a * c) (b * c) (mul-le-mul_right c (ltb-false a b h))

    scaled : (a b c : ℕ) → 0 < c → ltb (a * c) (b * c) ≡ ltb a b
    scaled a b c p = go a b c (ltb a b) p refl

lt_neg_inf : (y : Float) (n : ℕ) → HasValue y false n 1 → lt y (inf true) ≡ false
unfolding lt
lt_neg_inf nan n v = absurd v
lt_neg_inf (inf s) n v = absurd v
lt_neg_inf (fin s k g) n v = refl

lt_neg : (y : Float) (n m : ℕ) (e : ℤ) → HasValue y false n 1 → lt y (fin true m e) ≡ false
unfolding lt
lt_neg nan n m e v = absurd v
lt_neg (inf s) n m e v = absurd v
lt_neg (fin true k g) n m e v = absurd (true≢false v.0)
lt_neg (fin false k g) n m e v = refl

whole-value : (n : ℕ) → n < 16777216 → HasValue (of_int binary32 (pos n)) false n 1
unfolding of_int
whole-value n h = round_whole binary32 false n (le_of_lt h)

pub in_float_lem : (n : ℕ) → n < 16777216 → T (in_float binary32 (pos n))
unfolding in_float
in_float_lem n h = le→leb n 16777216 (le_of_lt h)

no_zero : (n : ℕ) (t : Bool) → n ≡ 0 → false ≡ t → n + cond t 1 0 ≡ 0
no_zero n true p q = absurd (false≢true q)
no_zero n false p q = add-zero n ∙ p

uncapped : (q n : ℕ) → n ≡ min q 4294967295 → n < 16777216 → n ≡ q
uncapped q n e h = omega arith

cap_up : (c n : ℕ) (t : Bool) → n < 16777216 → c ≡ n + cond t 1 0 → min c 4294967295 ≡ n + cond t 1 0
cap_up c n true h e = omega arith
cap_up c n false h e = omega arith

not-most : (n : ℕ) → n ≡ 4294967295 → n < 16777216 → ⊥
not-most n e h = omega arith

pub ceiling_small : (x : Float) (n : ℕ) (t : Bool) → n ≡ floor_of x → n < 16777216 → lt (of_int binary32 (pos n)) x ≡ t → n + cond t 1 0 ≡ ceiling_of x
unfolding floor_of ceiling_of
ceiling_small nan n t p h q = no_zero n t p (sym (lt_nan (of_int binary32 (pos n))) ∙ q)
ceiling_small (inf true) n t p h q = no_zero n t p (sym (lt_neg_inf (of_int binary32 (pos n)) n (whole-value n h)) ∙ q)
ceiling_small (inf false) n t p h q = absurd (not-most n p h)
ceiling_small (fin true m e) n t p h q = no_zero n t p (sym (lt_neg (of_int binary32 (pos n)) n m e (whole-value n h)) ∙ q)
ceiling_small (fin false m e) n t p h q =
    let w : n ≡ m * up e / down e = uncapped (m * up e / down e) n p h in
    let s : ltb (n * down e) (m * up e) ≡ t = sym (lt_whole (of_int binary32 (pos n)) n m e (whole-value n h)) ∙ q in
    sym (cap_up ((m * up e + (down e - 1)) / down e) n t h
    (round_up (m * up e) (down e) t (down_pos e) (subst (λ (k : ℕ). ltb (k * down e) (m * up e) ≡ t) w s) ∙ ap (λ (k : ℕ). k + cond t 1 0) (sym w)))

-- from 2 ^ 24 on a value of the format is whole
is-small : (m : ℕ) (e : ℤ) → T (fits binary32 (fin false (suc m) e)) → suc m < 16777216
unfolding fits
is-small m e t =
    let A = eqb (suc m % 2) 1 in
    let B = ltb (suc m) (2 ^ 24) in
    let C = leb (down e) (2 ^ 149) in
    let D = ltb (suc m * up e) (2 ^ 128 * down e) in
    ltb→lt (suc m) 16777216 (and_r A B (and_l (A && B) C (and_l (A && B && C) D t)))

clash0 : (n : ℕ) → n ≡ 0 → 16777216 ≤ n → ⊥
clash0 n e h = omega arith

clash : (n q m : ℕ) → n ≡ min q 4294967295 → 16777216 ≤ n → q ≤ m * 1 → m < 16777216 → ⊥
clash n q m e h k l = omega arith

pub ceiling_large : (x : Float) (n : ℕ) → T (fits binary32 x) → n ≡ floor_of x → 16777216 ≤ n → n ≡ ceiling_of x
unfolding floor_of ceiling_of
ceiling_large nan n f p h = absurd (clash0 n p h)
ceiling_large (inf true) n f p h = absurd (clash0 n p h)
ceiling_large (inf false) n f p h = p
ceiling_large (fin true m e) n f p h = absurd (clash0 n p h)
ceiling_large (fin false m (pos k)) n f p h = p ∙ ap (λ (z : ℕ). min (z / 1) 4294967295) (sym (add-zero (m * 2 ^ k)))
ceiling_large (fin false zero (negsuc k)) n f p h = absurd (clash n (0 * 1 / 2 ^ suc k) 0 p h (div-le_self (0 * 1) (2 ^ suc k)) (omega arith))
ceiling_large (fin false (suc m) (negsuc k)) n f p h = absurd (clash n (suc m * 1 / 2 ^ suc k) (suc m) p h (div-le_self (suc m * 1) (2 ^ suc k)) (is-small m (negsuc k) f))
