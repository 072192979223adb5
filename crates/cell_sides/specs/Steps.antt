-- The steps of the code: the number of a line, the end of a cell, and its side.
use Rattle.std.specs.Prelude.{cond, ℕ, ◌+◌, ◌-◌, eqb, leb, ltb, pos, negsuc, Option, Some, None}
use Rattle.name_rules.specs.Css.{Resolved, free, at_line, spanning}
use Rattle.cell_sides.specs.declared.Side.{Side}
use Rattle.cell_sides.specs.declared.Side.TheVariants.{Free}
use Rattle.cell_sides.specs.Types.{CellEnd, fixed}
use Rattle.coordinates.specs.declared.line.GenericGridPlacement.TheVariants.{Auto, Line, Span}

-- ---- the end

-- a line by its number, where it is one of the lines
abbrev pub line_up_to : ℕ → ℕ → Option CellEnd
line_up_to last number = cond (leb number last) (Some (Line number)) None

abbrev pub line_back : ℕ → ℕ → ℕ → Option CellEnd
line_back n last back = cond (leb back n) (line_up_to last (n + 1 - back)) None

-- line 0 counts as auto
abbrev pub end_ahead : ℕ → ℕ → Option CellEnd
end_ahead last line = cond (eqb line 0) (Some Auto) (line_up_to last line)

abbrev pub tracks_of : ℕ → ℕ
tracks_of k = cond (eqb k 0) 1 k

abbrev pub end_in : ℕ → ℕ → Resolved → Option CellEnd
end_in n last free = Some Auto
end_in n last (at_line (pos g)) = end_ahead last g
end_in n last (at_line (negsuc k)) = line_back n last k
end_in n last (spanning k) = Some (Span (tracks_of k))

-- ---- the side

abbrev pub side_ahead : ℕ → ℕ → ℕ → Option Side
side_ahead last start tracks =
    cond (ltb last start) None
    (cond (ltb (last - start) tracks) None
    (Some (fixed start (start + tracks))))

abbrev pub side_back : ℕ → ℕ → Option Side
side_back tracks end = cond (ltb tracks end) (Some (fixed (end - tracks) end)) None

abbrev pub ordered_side : ℕ → ℕ → ℕ → Option Side
ordered_side last start end = cond (ltb start end) (Some (fixed start end)) (cond (ltb end start) (Some (fixed end start)) (side_ahead last start 1))

abbrev pub line_side : ℕ → ℕ → CellEnd → Option Side
line_side last start Auto = side_ahead last start 1
line_side last start (Line end) = ordered_side last start end
line_side last start (Span tracks) = side_ahead last start tracks

abbrev pub from_span : ℕ → CellEnd → Option Side
from_span start Auto = Some (Free start)
from_span start (Line end) = side_back start end
from_span start (Span tracks) = Some (Free start)

abbrev pub from_auto : CellEnd → Option Side
from_auto Auto = Some (Free 1)
from_auto (Line end) = side_back 1 end
from_auto (Span tracks) = Some (Free tracks)

abbrev pub side_in : ℕ → CellEnd → CellEnd → Option Side
side_in last Auto e = from_auto e
side_in last (Line s) e = line_side last s e
side_in last (Span k) e = from_span k e

-- an end whose line is not among the lines leaves no side
abbrev pub side_by : ℕ → Option CellEnd → Option CellEnd → Option Side
side_by last (Some s) (Some e) = side_in last s e
side_by last (Some s) None = None
side_by last None e = None
