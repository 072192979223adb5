-- Tests of a number against 0. Assumes nothing.
use Rattle.std.proofs.Common.{◌≡◌, ℕ, ◌<◌, false, eqb, arith, ne_eqb}
use borrow.Author.Tests.{eqb-false}

pub above : (n : ℕ) → (n ≡ 0 → ⊥) → 0 < n
above n h = omega arith

pub above_test : (n : ℕ) → eqb n 0 ≡ false → 0 < n
above_test n e = above n (eqb-false n 0 e)

pub test_above : (n : ℕ) → 0 < n → eqb n 0 ≡ false
test_above n h = ne_eqb n 0 (apart n h)
  where
    apart : (n : ℕ) → 0 < n → n ≡ 0 → ⊥
    apart n h e = omega arith
