-- The highest number of a line that the lent words give: no line past it bears a name.
use Rattle.std.specs.Prelude.{ℕ, max, List, [], ◌∷◌}
use Rattle.coordinates.specs.declared.axis.Axis.{Axis}
use Rattle.name_rules.specs.Css.{start, end}
use Rattle.name_entries.specs.Entries.{entry_of}
use Rattle.name_lines.specs.Areas.{edge_in}

-- the highest of a number and the lines of entries
unfoldable pub highest_entry : ℕ → List ℕ → ℕ
highest_entry n [] = n
highest_entry n (w ∷ ws) = highest_entry (max n (entry_of w).line) ws

-- the highest of a number and the edges of an area in an axis
abbrev pub higher_edge : Axis → ℕ → ℕ → ℕ
higher_edge axis n w = max (max n (edge_in axis start w)) (edge_in axis end w)

-- the highest of a number and the edges of areas
unfoldable pub highest_edge : Axis → ℕ → List ℕ → ℕ
highest_edge axis n [] = n
highest_edge axis n (w ∷ ws) = highest_edge axis (higher_edge axis n w) ws

-- the highest of all
unfoldable pub highest_line : Axis → List ℕ → List ℕ → ℕ
highest_line axis entries edges = highest_edge axis (highest_entry 0 entries) edges
