-- A cell by its sides in both axes, its word, and the group in which it is placed.
use Rattle.std.specs.Prelude.{ℕ, ◌/◌, Bool, true, false, cond, List, eqb, get_or, Option, Some, None}
use Rattle.cell_sides.specs.declared.Side.{Side}
use Rattle.cell_sides.specs.declared.Side.TheVariants.{Free, Fixed}
use Rattle.coordinates.specs.Types.{LinePair}
use Rattle.free_cells.specs.Words.{lines_of, rectangle_word}
use Rattle.cell_placing.specs.declared.Group.{Group}
use Rattle.cell_placing.specs.declared.Group.TheVariants.{FixedInBoth, FixedInRow, Rest}
use Rattle.cell_placing.specs.declared.Item.{Item}

-- a side as two lines: start 0 is free over `end` tracks, start 65,535 is outside
abbrev pub side_of : LinePair → Option Side
side_of l = cond (eqb l.start 0) (Some (Free l.end)) (cond (eqb l.start 65535) None (Some (Fixed l)))

unfoldable pub item_of : ℕ → Item
item_of w = record { column = side_of (lines_of w); row = side_of (lines_of (w / 4294967296)) }

abbrev pub side_lines : Option Side → LinePair
side_lines None = record { start = 65535; end = 0 }
side_lines (Some (Free k)) = record { start = 0; end = k }
side_lines (Some (Fixed l)) = l

abbrev pub item_word : Item → ℕ
item_word i = rectangle_word (record { columns = side_lines i.column; rows = side_lines i.row })

-- cell i of a list of words
abbrev pub item_in : List ℕ → ℕ → Item
item_in words i = item_of (get_or words i 0)

-- a side has a line: it is fixed, or its line leaves the grid
abbrev pub is_lined : Option Side → Bool
is_lined None = true
is_lined (Some (Free k)) = false
is_lined (Some (Fixed l)) = true

-- "Items fixed on both axes go first, then those fixed in their row, then the rest"
unfoldable pub group_of : Item → ℕ
group_of i = cond (is_lined i.row) (cond (is_lined i.column) 0 1) 2

-- the number of a group
abbrev pub group_number : Group → ℕ
group_number FixedInBoth = 0
group_number FixedInRow = 1
group_number Rest = 2
