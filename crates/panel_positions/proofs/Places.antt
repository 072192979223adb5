-- The grid line at a place of an axis's lines, by its sign, as a number of 32 bits. Assumes nothing.
use Prim.Native.Nat.{ℕ, suc, ◌+◌, ◌-◌, ◌≤◌, ◌<◌}
use native.Mathlib.Omega.{arith}
use mathlib.Core.Path.{◌≡◌, ap, subst, ◌∙◌}
use mathlib.Core.Logic.{⊎_elim}
use lib.IntN.{ℤ, pos, negsuc, ◌-ℤ◌}
use mir.Syntax.{w32}
use mir.Val.{SFits, to_z, of_z}
use mir.Facts.{to_z-of_z}
use Rattle.std.proofs.lemmas.Bool.{cases_lt}
use Rattle.coordinates.specs.Lines.{to_grid_line}
use Rattle.coordinates.proofs.Integers.{minus_at, minus_past, minus_before}

-- place k, m tracks before the first explicit line, n explicit tracks
pub at_or_after : (k m n : ℕ) → m ≤ k → pos (k - m + 1) ≡ to_grid_line n (pos k -ℤ pos m)
at_or_after k m n h = rw (← minus_at k m h) (ap pos (omega arith))

pub before_it : (k m n : ℕ) → k < m → negsuc (m - k + n) ≡ to_grid_line n (pos k -ℤ pos m)
before_it k m n h = rw (← minus_past k m h) (ap negsuc (omega arith) ∙ minus_before (m - k - 1) (suc n))

fits_32 : (k m n : ℕ) → k ≤ 30000 → m ≤ 10000 → n ≤ 10000 → SFits w32 (to_grid_line n (pos k -ℤ pos m))
fits_32 k m n a b c =
    ⊎_elim
    (λ (h : k < m). subst (SFits w32) (before_it k m n h) (record { sfits = omega arith }))
    (λ (h : m ≤ k). subst (SFits w32) (at_or_after k m n h) (record { sfits = omega arith }))
    (cases_lt k m)

-- such a number is handed on as it is
pub handed_on : (k m n : ℕ) (r : ℤ) → k ≤ 30000 → m ≤ 10000 → n ≤ 10000 → r ≡ to_grid_line n (pos k -ℤ pos m) → to_z w32 (of_z w32 r) ≡ to_grid_line n (pos k -ℤ pos m)
handed_on k m n r a b c e = rw e (to_z-of_z (fits_32 k m n a b c))
