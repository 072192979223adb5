-- Sizes in whole pixels (document 02, Req 12: "a whole-pixel inner size").
use Rattle.std.specs.Prelude.{ℕ, ◌≤◌, ◌≡◌, cond, Float, Option, Some, None}
use Rattle.std.specs.Float.Ieee.{eq}
use Rattle.template_rules.specs.Whole.{floor_of}
use Rattle.template_rules.specs.Space.{whole32}
use Rattle.least_resize.specs.Resize.{largest_size}

-- an f32 that is the whole number n, 0 to 65,535: each of these is an f32
pub record IsPixels (x : Float) (n : ℕ) : Type 0 where
  pub within : n ≤ largest_size
  pub same : x ≡ whole32 n

-- cut to whole and compared with itself; the laws in proofs/Pixels.antt say that it finds n exactly where there is one
unfoldable pub whole_size_of : Float → Option ℕ
whole_size_of x = cond (eq (whole32 (floor_of x)) x) (Some (floor_of x)) None
