-- Area pictures (document 02, request 07; CSS Grid Level 1, 7.3), beside the three demands: what the picture of an accepted sheet is, and what it
-- gives. That a sheet is refused by 13 and by 14 exactly where its rows say so is demand 1, by the rows of the table of refusals.
-- proofs/Pictures.antt proves each of it.
use Rattle.std.specs.Prelude.{ℕ, ◌≤◌, ◌≡◌, List, []}
use Rattle.coordinates.specs.declared.axis.Axis.{Axis}
use Rattle.picture_rules.specs.Picture.{EqualWidth, AllFilled, PictureArea, AreasOf}
use Rattle.picture_areas.specs.Runs.{table_of}
use Rattle.panel_tables.specs.View.{PanelView}
use Rattle.panel_tables.specs.Axes.{view_in}
use Rattle.sheet_rules.specs.Contents.{lines_of, picture_in, drawn_in}
use Rattle.sheet_rules.specs.Sheet.{explicit_of}

-- the areas of a view are those of its picture: "each name once", with its filled rectangle, "in order of first cell reading along rows"
abbrev pub DrawnAreas : PanelView → Type 0
DrawnAreas v = (l : List PictureArea) × (v.areas ≡ table_of l) × AreasOf v.picture l

-- of a view that the display call accepts, and so of one that the sheet call accepts
pub record PictureTheorem (s : List ℕ) (v : PanelView) : Type 0 where
  -- the words of the `row` lines, in order
  pub rows : v.picture ≡ picture_in (lines_of s)
  -- "all rows have equal width", "and each name's cells form one filled rectangle"
  pub even : EqualWidth v.picture
  pub filled : AllFilled v.picture
  pub areas : (v.picture ≡ [] → ⊥) → DrawnAreas v
  -- "the rows and their width also raise the explicit counts"
  pub counts : (a : Axis) → drawn_in a v.picture ≤ explicit_of (view_in v a)
