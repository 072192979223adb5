-- The drawn areas of a panel as lent tables: a word of edges and a word of where the name lies for each area, and the bytes of the names.
use Rattle.std.specs.Prelude.{ℕ, suc, ◌/◌, ◌%◌, Bool, false, ◌&&◌, ◌||◌, List, [], ◌∷◌, ◌++◌, eqb, get_or, drop, Option, Some, None}
use Rattle.coordinates.specs.declared.axis.Axis.{Axis}
use Rattle.coordinates.specs.declared.axis.Axis.TheVariants.{Column, Row}
use Rattle.name_rules.specs.Css.{Bytes, Side, start, end, Entry, Area, edge, AxisNames}
use Rattle.name_rules.specs.Rule.{any, eq_bytes, written?, drawn?}
use Rattle.name_entries.specs.Entries.{entry_of, name_in, entries_of}
use Rattle.name_lines.specs.declared.GridAreaEnd.{GridAreaEnd}
use Rattle.name_lines.specs.declared.GridAreaEnd.TheVariants.{Start, End}
use Rattle.name_lines.specs.Suffixes.{tail_of}

-- the end that is placed
abbrev pub side_of : GridAreaEnd → Side
side_of Start = start
side_of End = end

-- a word holds row start, row end times 2^16, column start times 2^32, column end times 2^48
abbrev pub axis_part : Axis → ℕ → ℕ
axis_part Row w = w
axis_part Column w = w / 4294967296

abbrev pub edge_part : Side → ℕ → ℕ
edge_part start w = w % 65536
edge_part end w = w / 65536 % 65536

-- the number of an edge line in an axis
abbrev pub edge_in : Axis → Side → ℕ → ℕ
edge_in axis s w = edge_part s (axis_part axis w)

-- an area as one axis sees it
abbrev pub area_of : Axis → ℕ → ℕ → List ℕ → Area
area_of axis w name store = record { name = name_in store (entry_of name); from = edge_in axis start w; to = edge_in axis end w }

-- one area for each word of edges; a name that is missing is read as word 0
unfoldable pub areas_of : Axis → List ℕ → List ℕ → List ℕ → List Area
areas_of axis [] names store = []
areas_of axis (w ∷ ws) names store = area_of axis w (get_or names 0 0) store ∷ areas_of axis ws (drop 1 names) store

-- what names the lines of an axis
abbrev pub axis_names : ℕ → Axis → List ℕ → List ℕ → List ℕ → List ℕ → List ℕ → AxisNames
axis_names explicit axis entries store edges areas areastore =
    record { explicit = explicit; book = entries_of entries store; areas = areas_of axis edges areas areastore }

-- whether a line bears a name; the explicit count plays no part
unfoldable pub bears : List Entry → List Area → Bytes → ℕ → Bool
bears book areas nm number = any (written? nm number) book || any (drawn? nm number) areas

abbrev pub bears_in : Axis → List ℕ → List ℕ → List ℕ → List ℕ → List ℕ → Bytes → ℕ → Bool
bears_in axis entries store edges areas areastore = bears (entries_of entries store) (areas_of axis edges areas areastore)

-- whether a line is an edge of the area of a name
abbrev pub edged? : Bytes → Side → ℕ → Area → Bool
edged? nm s number a = eqb (edge a s) number && eq_bytes a.name nm

-- whether a line is the edge sought of an area of a name
abbrev pub edged_by : List Area → Bytes → Option GridAreaEnd → ℕ → Bool
edged_by areas nm (Some side) number = any (edged? nm (side_of side) number) areas
edged_by areas nm None number = false

-- whether a line bears a name in two parts: a stem, and the suffix of an edge
unfoldable pub bears_joined : List Entry → List Area → Bytes → Option GridAreaEnd → ℕ → Bool
bears_joined book areas stem sought number = any (written? (stem ++ tail_of sought) number) book || edged_by areas stem sought number

-- the same for origin-zero line l, by the lent tables
unfoldable pub sought_in : Axis → List ℕ → List ℕ → List ℕ → List ℕ → List ℕ → Bytes → Option GridAreaEnd → ℕ → Bool
sought_in axis entries store edges areas areastore stem sought l =
    bears_joined (entries_of entries store) (areas_of axis edges areas areastore) stem sought (suc l)
