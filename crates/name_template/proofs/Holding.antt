-- A sum held at 4,097.
use mathlib.Core.Path.{◌≡◌}
use Prim.Native.Nat.{ℕ, ◌+◌, ◌*◌, min}
use native.Mathlib.Omega.{arith}

-- the names of one component more
pub sum_step : (count outside next b t all rest whole : ℕ) → outside ≡ min 4097 (count + 1 * b) → next ≡ min 4097 (outside + t) → all ≡ b + t + rest
    → min 4097 (count + all) ≡ whole → min 4097 (next + rest) ≡ whole
sum_step count outside next b t all rest whole x y z w = omega arith

pub sum-last : (count r b all whole : ℕ) → r ≡ min 4097 (count + 1 * b) → all ≡ b → min 4097 (count + all) ≡ whole → r ≡ whole
sum-last count r b all whole x y z = omega arith
