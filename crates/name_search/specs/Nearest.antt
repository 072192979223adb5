-- The nearest line of a name: distances from where a search begins, on the side that it looks at.
use Rattle.std.specs.Prelude.{◌≡◌, Bool, true, false, ℕ, suc, ◌+◌, ◌-◌, ◌≤◌, ◌<◌, Option, Some, None}
use Rattle.name_rules.specs.Rule.{Seek, at, left}
use Rattle.name_lines.specs.declared.Way.{Way}
use Rattle.name_lines.specs.declared.Way.TheVariants.{Up, Down}

-- the number from 1 of the line at distance d from line f on, or before it
abbrev pub number_at : Way → ℕ → ℕ → ℕ
number_at Up f d = suc (f + d)
number_at Down f d = f - d

-- how many lines there are from line f on, or before it
abbrev pub reach : Way → ℕ → ℕ
reach Up f = 20000 - f
reach Down f = f

-- where a search goes on past line l
abbrev pub past : Way → ℕ → ℕ
past Up l = l + 1
past Down l = l

-- r is the least distance below best at which p holds, or best where it holds at none
pub record Nearest (p : ℕ → Bool) (best r : ℕ) : Type 0 where
  pub within : r ≤ best
  pub holds : r < best → p r ≡ true
  pub nearer : (d : ℕ) → d < r → p d ≡ false

-- the answer of a search for the nearest line: where there is none, none was to be passed over
abbrev pub nearest_of : Option ℕ → Seek
nearest_of (Some l) = at l
nearest_of None = left 0
