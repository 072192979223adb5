-- Numbers of 32 bits and a sign are counted in full: nothing is held. Assumes nothing.
use mathlib.Core.Path.{◌≡◌, refl}
use Prim.Native.Nat.{ℕ, zero, suc, min}
use native.Mathlib.Omega.{arith}
use lib.IntN.{ℤ, pos, negsuc}
use Rattle.name_resolver.specs.Counts.{first_line, index_count, held_count, most_counted, LineFits}

-- how an index counts
pub index_counted : (explicit : ℕ) (i : ℤ) → LineFits i → held_count (index_count explicit i) ≡ index_count explicit i
index_counted explicit (pos zero) h = refl
index_counted explicit (pos (suc i)) h = let e : min i 4294967295 ≡ i = omega (arith, h) in rw e
index_counted explicit (negsuc i) h = let e : min i 4294967295 ≡ i = omega (arith, h) in rw e

-- where a count forwards begins
pub line_counted : (l : ℤ) → LineFits l → min (first_line l) most_counted ≡ first_line l
line_counted (pos l) h = omega (arith, h)
line_counted (negsuc k) h = refl
