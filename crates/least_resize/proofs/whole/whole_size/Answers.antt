use Prim.Native.Nat.{ℕ, ◌≤◌}
use mathlib.Core.Path.{◌≡◌, ap, ◌∙◌}
use native.Mathlib.Omega.{arith}
use lib.Ieee.{Float}
use Rattle.sizing.specs.Words.{float_up_to, largest_bits}
use Rattle.template_rules.specs.Whole.{floor_of}
use Rattle.template_rules.proofs.Bounds.{small_in_float}
use Rattle.least_resize.proofs.Pixels.{size_le}
use Rattle.least_resize.proofs.whole.whole_size.Goals as goal

-- over plain values: x and n are what the two calls answered
small : (bits n : ℕ) (x : Float) → x ≡ float_up_to largest_bits bits → n ≡ floor_of x → n ≤ 65535
small bits n x e f = size_le bits n (f ∙ ap floor_of e)

pub int_to_float-back : goal.int_to_float-back
int_to_float-back c = small_in_float _ (small _ _ _ c.length_of-size.ensures c.floor_to_u32-pixels.ensures)

pub overflow_cast-result : goal.overflow_cast-result
overflow_cast-result c = let h = small _ _ _ c.length_of-size.ensures c.floor_to_u32-pixels.ensures in omega arith
