-- Whole numbers in 64 bits, and those of 16 among them. Assumes nothing.
use Prim.Native.Nat.{ℕ, zero, suc, ◌-◌, ◌≤◌}
use mathlib.Core.Path.{◌≡◌, refl, ap, ◌∙◌}
use native.Mathlib.Omega.{arith}
use borrow.Author.Tests.{lt-ltb}
use lib.IntN.{ℤ, pos, negsuc, ◌-ℤ◌, nat_abs}
use mir.Syntax.{w16, w64}
use mir.Val.{SFits, to_z, of_z}
use mir.Facts.{to_z-of_z, to_z_pos}

-- a number held at 2^32 in 64 bits, and less than zero
pub wide : (n : ℕ) → n ≤ 4294967296 → to_z w64 n ≡ pos n
wide n h = to_z_pos w64 (omega arith)

minus : (n : ℕ) → (n ≡ 0 → ⊥) → pos 0 -ℤ pos n ≡ negsuc (n - 1)
minus zero h = absurd (h refl)
minus (suc n) h = rw (lt-ltb 0 (suc n) (omega arith)) refl

minus-wide : (n : ℕ) → n ≤ 4294967296 → (n ≡ 0 → ⊥) → pos 0 -ℤ to_z w64 n ≡ negsuc (n - 1)
minus-wide n h k = rw (wide n h) (minus n k)

pub minus-fits : (n : ℕ) → n ≤ 4294967296 → (n ≡ 0 → ⊥) → SFits w64 (pos 0 -ℤ to_z w64 n)
minus-fits n h k = rw (minus-wide n h k) (record { sfits = omega arith })

pub minus-back : (n : ℕ) → n ≤ 4294967296 → (n ≡ 0 → ⊥) → to_z w64 (of_z w64 (pos 0 -ℤ to_z w64 n)) ≡ negsuc (n - 1)
minus-back n h k = to_z-of_z (minus-fits n h k) ∙ minus-wide n h k

-- a count that is held in 64 bits
pub count-back : (z : ℤ) (n : ℕ) → z ≡ pos n → n ≤ 4294967296 → nat_abs (to_z w64 (of_z w64 z)) ≡ n
count-back z n e h = rw e (ap nat_abs (to_z-of_z {w = w64} {z = pos n} (record { sfits = omega arith })))

-- a number of 16 bits that is held in 64
pub index-back : (z : ℤ) → SFits w16 z → SFits w64 z → to_z w16 (of_z w16 (to_z w64 (of_z w64 z))) ≡ z
index-back z h k = ap (λ (x : ℤ). to_z w16 (of_z w16 x)) (to_z-of_z k) ∙ to_z-of_z h
