-- The search for an area that shares a cell, over a list of areas and over their table.
use Rattle.std.specs.Prelude.{ℕ, zero, suc, ◌+◌, min, List, [], ◌∷◌, Bool, cond, ◌&&◌, ltb, Option, Some, None}
use Rattle.coordinates.specs.declared.axis.Axis.TheVariants.{Column, Row}
use Rattle.panel_tables.specs.declared.AreaEdges.{AreaEdges}
use Rattle.coordinates.specs.Types.{LinePair}
use Rattle.panel_tables.specs.View.{Area}
use Rattle.panel_tables.specs.Areas.{area_at, edges_in}

-- two pairs of edges have a track in common: each start is before each end
abbrev pub meet : LinePair → LinePair → Bool
meet a b = (ltb a.start a.end && ltb a.start b.end) && (ltb b.start a.end && ltb b.start b.end)

-- two areas have a row and a column in common
unfoldable pub shares : AreaEdges → AreaEdges → Bool
shares a b = meet (edges_in a Row) (edges_in b Row) && meet (edges_in a Column) (edges_in b Column)

-- the number of the first area that shares a cell with these edges, where the list is counted from n; 0 where none does
unfoldable pub sharing_from : ℕ → AreaEdges → List Area → ℕ
sharing_from n e [] = 0
sharing_from n e (a ∷ list) = cond (shares a.edges e) n (sharing_from (n + 1) e list)

abbrev pub first_sharing : AreaEdges → List Area → ℕ
first_sharing e list = sharing_from 1 e list

-- the same of k areas of the table from area i on
unfoldable pub sharing_in : List ℕ → AreaEdges → ℕ → ℕ → ℕ
sharing_in words e zero i = 0
sharing_in words e (suc k) i = cond (shares (area_at words i).edges e) (i + 1) (sharing_in words e k (i + 1))

-- at most 64
abbrev pub first_sharing_in : ℕ → List ℕ → AreaEdges → ℕ
first_sharing_in areas words e = sharing_in words e (min areas 64) 0

-- areas are numbered from 1; 0 where there is none
abbrev pub area_number_of : Option ℕ → ℕ
area_number_of None = 0
area_number_of (Some index) = index + 1
