-- Whole numbers against the exact value of an f32: `fin s m e` is m * 2 ^ e, the fraction m * up e / down e, negative where s is true.
use Rattle.std.specs.Prelude.{ℕ, ◌+◌, ◌*◌, ◌≤◌, true, false, Float}
use Rattle.std.specs.Float.{nan, inf, fin}
use Rattle.std.specs.Float.Ieee.{up, down}

-- a whole number is at most the exact value of x; a NaN counts as 0
unfoldable pub AtMost : ℕ → Float → Type 0
AtMost n nan = n ≤ 0
AtMost n (inf true) = ⊥
AtMost n (inf false) = Unit {0}
AtMost n (fin true m e) = n * down e + m * up e ≤ 0
AtMost n (fin false m e) = n * down e ≤ m * up e

-- a whole number is at least the exact value of x
unfoldable pub AtLeast : ℕ → Float → Type 0
AtLeast n nan = Unit {0}
AtLeast n (inf true) = Unit {0}
AtLeast n (inf false) = ⊥
AtLeast n (fin true m e) = Unit {0}
AtLeast n (fin false m e) = m * up e ≤ n * down e
