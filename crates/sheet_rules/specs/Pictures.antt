-- What a row of a picture does to the panel that the lines before it describe (document 02, request 07).
use Rattle.std.specs.Prelude.{ℕ, ◌+◌, List, [], ◌∷◌, ◌++◌, Bool, false, cond, not, eqb, leb, ltb, length}
use Rattle.panel_tables.specs.View.{Area, PanelView, PanelOutcome, refused, accepted, raised}
use Rattle.picture_rules.specs.Picture.{Word, Picture}
use Rattle.picture_rules.specs.Steps.{taken_of}
use Rattle.picture_areas.specs.Runs.{table_of}

-- "each picture becomes area records, in order of first cell reading along rows, with their edges"
abbrev pub areas_of : Picture → List Area
areas_of p = table_of (taken_of p).areas

-- with one row more
abbrev pub with_words : Picture → List Word → Picture
with_words p ws = p ++ (ws ∷ [])

-- whether a row of so many words has another width than the first
abbrev pub other_width : Picture → ℕ → Bool
other_width [] width = false
other_width (first ∷ rest) width = not (eqb width (length first))

-- "the rows and their width also raise the explicit counts"
abbrev pub drawn_row : PanelView → List Word → PanelView
drawn_row v ws =
    record {
      columns = raised v.columns (length ws + 1);
      rows = raised v.rows (length v.picture + 2);
      areas = areas_of (with_words v.picture ws);
      picture = with_words v.picture ws;
      placements = v.placements;
      cells = v.cells;
      stage = v.stage;
      lines = v.lines;
    }

-- a 65th name is 8, and so would be a 10,001st row, for which a sheet is too short; another width than the first row's is 13
unfoldable pub picture_step : PanelView → List Word → PanelOutcome
picture_step v ws =
    cond (leb 10000 (length v.picture)) (refused 8 v)
    (cond (ltb 64 (length (areas_of (with_words v.picture ws)))) (refused 8 v)
    (cond (other_width v.picture (length ws)) (refused 13 v) (accepted (drawn_row v ws))))
