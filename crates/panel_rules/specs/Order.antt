-- "Two such runs over the same axis records, areas, tracks, repeats and placements, with the same accepted entries in any order": what is the same.
use Rattle.std.specs.Prelude.{◌≡◌, List}
use Rattle.coordinates.specs.declared.axis.Axis.{Axis}
use Rattle.name_rules.specs.Conditions.{SameMembers}
use Rattle.axis_tables.specs.View.{components_of}
use Rattle.panel_tables.specs.View.{PanelView}
use Rattle.panel_tables.specs.Axes.{view_in}
use Rattle.sheet_rules.specs.Contents.{drawn_in}
use Rattle.panel_rules.specs.Runs.{Call}
use Rattle.panel_rules.specs.Book.{CssTemplate, book}

-- two sheets: names, `spare`, `extra` and `item` lines and the order of the lines may differ
pub record SamePanel (v w : PanelView) : Type 0 where
  pub lines : (a : Axis) → (view_in v a).line ≡ (view_in w a).line
  -- the tracks and repeats of each template
  pub components : (a : Axis) → components_of (view_in v a).template ≡ components_of (view_in w a).template
  -- the same areas, in any order
  pub areas : SameMembers v.areas w.areas
  -- "the same areas means the same rows too" (document 02, request 07); as many rows of the same width are enough
  pub pictures : (a : Axis) → drawn_in a v.picture ≡ drawn_in a w.picture
  -- of the `place` and `cell` lines; the numbers of these lines may differ
  pub placements : v.placements ≡ w.placements

-- "the same accepted entries in any order", of the sheet's names and of the calls together
abbrev pub SameEntries : (Axis → CssTemplate) → PanelView → List Call → (Axis → CssTemplate) → PanelView → List Call → Type 0
SameEntries n v cs m w ds = (a : Axis) → SameMembers (book (n a) v a cs) (book (m a) w a ds)
