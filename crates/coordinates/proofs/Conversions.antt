-- A refused conversion. Assumes nothing.
use mathlib.Core.Path.{◌≡◌, refl}
use mathlib.Core.Bool.{false}
use Prim.Native.Nat.{ℕ}
use lib.IntN.{pos}
use Rattle.coordinates.specs.Answers.{refused_conversion}

-- a refusal has zeros beside it
pub refused-zeros : (n : ℕ) → ((refused_conversion n).line.0 ≡ pos 0) × ((refused_conversion n).held ≡ false)
refused-zeros n = (refl, refl)
