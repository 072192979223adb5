-- The decimal digits of a number of 32 bits, added to a line. Assumes nothing.
use Prim.Native.Nat.{ℕ, ◌^◌, ◌<◌}
use mathlib.Core.Path.{◌≡◌}
use mathlib.Core.List.{List}
use native.Mathlib.Omega.{arith}
use Rattle.text.specs.Decimal.{decimal}
use Rattle.text.proofs.Digits.{few-digits}
use Rattle.panel_text.specs.Written.{Adds}
use Rattle.panel_text.proofs.Puts.{add_as}

pub add_decimal : {a b word : List ℕ} {m : ℕ} (n : ℕ) → word ≡ decimal n → n < 2 ^ 32 → Adds a word b m → Adds a (decimal n) b 10
add_decimal n e h p = record { whole = (add_as e p).whole; near = few-digits 9 n (omega arith) }
