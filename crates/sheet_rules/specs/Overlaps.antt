-- The pair of areas that is answered (document 02, requests 03 and 09; SHEET.md, Refusals), over the lines of the sheet alone.
-- They don't name the reader; proofs/Overlaps.antt shows that it follows them.
use Rattle.std.specs.Prelude.{ℕ, ◌≡◌, List, map, length, take}
use Rattle.sheet_forms.specs.Forms.{area}
use Rattle.panel_tables.specs.View.{Area}
use Rattle.panel_cells.specs.Cells.{FirstPair}
use Rattle.sheet_rules.specs.Contents.{area_in, lines_of, lines_with}

-- the areas that the first k lines of a sheet draw, in sheet order
abbrev pub areas_to : ℕ → List ℕ → List Area
areas_to k s = map area_in (lines_with area (take k (lines_of s)))

-- of refusal 12 at a line: the later area is that line's, and no pair before it shares a cell
pub record PairAt (s : List ℕ) (line earlier later : ℕ) : Type 0 where
  pub first : FirstPair (areas_to line s) earlier later
  pub own : later ≡ length (areas_to line s)
