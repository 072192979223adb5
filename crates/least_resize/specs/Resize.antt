-- The least resize that matters (document 02, Req 12): "the smallest whole-pixel change that alters the number of repetitions, wider before narrower
-- at equal distance, over sizes 0 to 65,535". `count` is the number of repetitions at each size, `size` the size now.
use Rattle.std.specs.Prelude.{ℕ, ◌+◌, ◌-◌, ◌≤◌, ◌<◌, ◌≡◌, ◌⊎◌, Option, Some, None}

abbrev pub largest_size : ℕ
largest_size = 65535

-- how far two sizes are apart
abbrev pub apart : ℕ → ℕ → ℕ
apart a b = (a - b) + (b - a)

-- t comes before s: it is closer to the size now, or as close and wider
abbrev pub Before : ℕ → ℕ → ℕ → Type 0
Before size t s = (apart size t < apart size s) ⊎ ((apart size t ≡ apart size s) × (s < t))

-- "a size at which the count differs, with every closer one shown equal"
pub record Least (count : ℕ → ℕ) (size s : ℕ) : Type 0 where
  pub within : s ≤ largest_size
  pub differs : count s ≡ count size → ⊥
  pub closer : (t : ℕ) → t ≤ largest_size → Before size t s → count t ≡ count size

-- "or none exactly when no size in the range differs"
abbrev pub LeastResize : (ℕ → ℕ) → ℕ → Option ℕ → Type 0
LeastResize count size (Some s) = Least count size s
LeastResize count size None = (t : ℕ) → t ≤ largest_size → count t ≡ count size
