-- Sums and differences of an integer and a count, by the integer's sign; how large an integer is. Assumes nothing.
use mathlib.Core.Path.{◌≡◌, refl, sym, ◌∙◌, ap}
use Prim.Native.Nat.{ℕ, zero, suc, ◌+◌, ◌-◌, ◌≤◌, ◌<◌}
use native.Mathlib.Omega.{arith}
use borrow.Author.Tests.{le-ltb, lt-ltb}
use lib.Dec.{ltb}
use lib.IntN.{ℤ, pos, negsuc, ◌+ℤ◌, ◌-ℤ◌, sub_ℕ}
use Rattle.std.specs.Prelude.{unsigned_abs}
use Rattle.coordinates.specs.Lines.{outside}

-- a difference of counts, by which is larger
pub sub_le : (a k : ℕ) → k ≤ a → sub_ℕ a k ≡ pos (a - k)
sub_le a k h = rw (le-ltb a k h)

pub sub_lt : (a k : ℕ) → a < k → sub_ℕ a k ≡ negsuc (k - suc a)
sub_lt a k h = rw (lt-ltb a k h)

-- -(k + 1) + n
pub plus_before : (k n : ℕ) → n ≤ k → negsuc (k - n) ≡ negsuc k +ℤ pos n
plus_before k n h = sym (sub_lt n (suc k) (omega arith) ∙ ap negsuc (omega arith))

pub plus_past : (k n : ℕ) → k < n → pos (n - k - 1) ≡ negsuc k +ℤ pos n
plus_past k n h = sym (sub_le n (suc k) (omega arith) ∙ ap pos (omega arith))

-- m - n
pub minus_at : (m n : ℕ) → n ≤ m → pos (m - n) ≡ pos m -ℤ pos n
minus_at m zero h = ap pos (omega arith)
minus_at m (suc n) h = sym (sub_le m (suc n) h)

pub minus_past : (m n : ℕ) → m < n → negsuc (n - m - 1) ≡ pos m -ℤ pos n
minus_past m zero h = absurd (omega arith)
minus_past m (suc n) h = sym (sub_lt m (suc n) h ∙ ap negsuc (omega arith))

-- -(k + 1) - n
pub minus_before : (k n : ℕ) → negsuc (k + n) ≡ negsuc k -ℤ pos n
minus_before k zero = ap negsuc (omega arith) ∙ plus_before k 0 (omega arith)
minus_before k (suc n) = ap negsuc (omega arith)

-- -1 - n
pub less : (n : ℕ) → negsuc 0 -ℤ pos n ≡ negsuc n
less n = sym (minus_before 0 n) ∙ ap negsuc (omega arith)

-- a number lies outside by its size
pub outside_by_size : (z : ℤ) → ltb 10000 (unsigned_abs z) ≡ outside z
outside_by_size (pos n) = refl
outside_by_size (negsuc k) = grind arith
