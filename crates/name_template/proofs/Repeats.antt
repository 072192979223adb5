-- How many repetitions are written, by arithmetic.
use mathlib.Core.Path.{◌≡◌, refl}
use mathlib.Core.Logic.{⊎_elim, ◌⊎◌, inl, inr}
use mathlib.Core.List.{List}
use Prim.Native.Nat.{ℕ, zero, suc, ◌+◌, ◌-◌, ◌*◌, ◌/◌, ◌≤◌, ◌<◌, min}
use native.Mathlib.Nat.{div-eq_of_lt, div-eq-sub-div, suc-mul}
use native.Mathlib.Decide.{dec_lt}
use native.Mathlib.Omega.{arith}
use borrow.Author.Tests.{lt-ltb, le-ltb}
use Rattle.name_template.specs.Writing.{repeated_names, line_after_repeat, line_after}
use Rattle.name_template.specs.Steps.{repetitions_written, copies_on}

-- a line is past 10,000 or not
pub past : (l : ℕ) → (10000 < l) ⊎ (l ≤ 10000)
past l = elim (dec_lt 10000 l) [ yes g ↦ inl g | no g ↦ inr (omega arith) ]

pub written-past : (n line t : ℕ) → (n ≡ 0 → ⊥) → 10000 < line → repetitions_written n line t ≡ 1
unfolding repetitions_written
written-past zero line t out h = absurd (out refl)
written-past (suc n) line t out h = rw (lt-ltb 10000 (line + t) (omega arith))

pub written_still : (n line t : ℕ) → line ≤ 10000 → t ≡ 0 → repetitions_written n line t ≡ n
unfolding repetitions_written
written_still zero line t h z = refl
written_still (suc n) line t h z = rw (le-ltb 10000 (line + t) (omega arith), written_still n (line + t) t (omega arith) z)

-- the first repetition that ends past line 10,000 is the last
pub written-most : (n line t : ℕ) → line ≤ 10000 → 0 < t → repetitions_written n line t ≡ min n ((10000 - line) / t + 1)
unfolding repetitions_written
written-most zero line t h p = omega arith
written-most (suc n) line t h p =
    ⊎_elim
    (λ (g : 10000 < line + t).
    let d : (10000 - line) / t ≡ 0 = div-eq_of_lt (omega arith) in
    rw (lt-ltb 10000 (line + t) g, d) (omega arith))
    (λ (g : line + t ≤ 10000).
    let d : (10000 - line) / t ≡ (10000 - line - t) / t + 1 = div-eq-sub-div p (omega arith) in
    let s : 10000 - (line + t) ≡ 10000 - line - t = omega arith in
    rw (le-ltb 10000 (line + t) g, written-most n (line + t) t g p, s, d) (omega arith))
    (past (line + t))

-- the repetitions are that many copies, and so many lines
pub written-copies : (n line t : ℕ) (names : List ℕ) → repeated_names n line t names ≡ copies_on (repetitions_written n line t) line t names
unfolding repetitions_written repeated_names copies_on
written-copies zero line t names = refl
written-copies (suc n) line t names =
    ⊎_elim
    (λ (g : 10000 < line + t). rw (lt-ltb 10000 (line + t) g))
    (λ (g : line + t ≤ 10000). rw (le-ltb 10000 (line + t) g, written-copies n (line + t) t names))
    (past (line + t))

pub after-written : (n line t : ℕ) → line_after_repeat n line t ≡ line + repetitions_written n line t * t
unfolding repetitions_written line_after_repeat
after-written zero line t = omega arith
after-written (suc n) line t =
    ⊎_elim
    (λ (g : 10000 < line + t). rw (lt-ltb 10000 (line + t) g) (omega arith))
    (λ (g : line + t ≤ 10000).
    rw (le-ltb 10000 (line + t) g, after-written n (line + t) t, suc-mul (repetitions_written n (line + t) t) t) (omega arith))
    (past (line + t))

-- a repeat ends at most its tracks past a bound of 10,000 or more
pub after_bound : (n line t b : ℕ) → line ≤ b → 10000 ≤ b → line_after_repeat n line t ≤ b + t
unfolding line_after_repeat
after_bound zero line t b h g = omega arith
after_bound (suc n) line t b h g =
    ⊎_elim
    (λ (k : 10000 < line + t). rw (lt-ltb 10000 (line + t) k) (omega arith))
    (λ (k : line + t ≤ 10000). rw (le-ltb 10000 (line + t) k) (after_bound n (line + t) t b (omega arith) g))
    (past (line + t))

pub line_bound : (n line t b : ℕ) → line ≤ b → 10000 ≤ b → line_after n line t ≤ b + t + 1
line_bound zero line t b h g = omega arith
line_bound (suc n) line t b h g = let k = after_bound (suc n) line t b h g in omega arith

pub after-times : (n line t : ℕ) → (n ≡ 0 → ⊥) → line_after n line t ≡ line + repetitions_written n line t * t
after-times zero line t out = absurd (out refl)
after-times (suc n) line t out = after-written (suc n) line t
