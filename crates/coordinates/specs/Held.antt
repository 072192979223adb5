-- A number that is held within -10,000..10,000.
use Rattle.std.specs.Prelude.{◌≡◌, ℤ}
use Rattle.coordinates.specs.Lines.{held, outside}
use Rattle.coordinates.specs.Types.{MarkedLine}

-- a number held within -10,000..10,000, with its mark: set exactly where the number lies outside
pub record HeldAs (z : ℤ) (r : MarkedLine) : Type 0 where
  pub line : r.value.0 ≡ held z
  pub mark : r.held ≡ outside z
