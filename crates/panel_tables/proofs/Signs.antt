-- Numbers of 32 bits from counts. Assumes nothing.
use Prim.Native.Nat.{ℕ, ◌-◌, ◌<◌}
use mathlib.Core.Bool.{Bool, true, false, cond}
use native.Mathlib.Omega.{arith}
use lib.Dec.{leb}
use Rattle.panel_tables.specs.Numbers.{number_of}
use mathlib.Core.Path.{◌≡◌, ◌∙◌}
use lib.IntN.{pos, negsuc, ◌-ℤ◌}
use mir.Syntax.{w32}
use mir.Val.{SFits, to_z, of_z}
use mir.Facts.{to_z-of_z}
use Rattle.coordinates.proofs.Integers.{less}

pub less_fits_32 : (n : ℕ) → n < 2147483648 → SFits w32 (negsuc 0 -ℤ pos n)
less_fits_32 n h = let f : SFits w32 (negsuc n) = record { sfits = h } in rw (less n) f

pub less_back_32 : (n : ℕ) → n < 2147483648 → to_z w32 (of_z w32 (negsuc 0 -ℤ pos n)) ≡ negsuc n
less_back_32 n h = to_z-of_z (less_fits_32 n h) ∙ less n

pub number_fits : (c : ℕ) → c < 131072 → SFits w32 (number_of c)
number_fits c h = go (leb 32768 c)
  where
    go : (t : Bool) → SFits w32 (cond t (pos (c - 32768)) (negsuc (32767 - c)))
    go true = record { sfits = omega arith }
    go false = record { sfits = omega arith }

pub number_back : (c : ℕ) → c < 131072 → to_z w32 (of_z w32 (number_of c)) ≡ number_of c
number_back c h = to_z-of_z (number_fits c h)
