-- The name book (document 01, "Name book"), from the sheet and the calls' arguments alone, with what CSS takes for the template and its repetitions,
-- and the table's refusals; and the conditions of the third demand. The panel is never read, nor the rule for what counts.
use Rattle.std.specs.Prelude.{ℕ, ◌+◌, ◌≤◌, max, Bool, true, false, cond, not, ◌&&◌, ◌||◌, eqb, leb, ltb, length}
use mathlib.Core.List.{List, [], ◌∷◌, ◌++◌, Memᴰ}
use Rattle.coordinates.specs.declared.axis.Axis.{Axis}
use Rattle.coordinates.specs.declared.axis.Axis.TheVariants.{Column, Row}
use Rattle.sizing.specs.Words.{sizing_of}
use Rattle.template_rules.specs.Template.{Component}
use Rattle.template_rules.specs.Css.{Automatic, Repetitions}
use Rattle.name_rules.specs.Css.{Bytes, Entry, AxisNames}
use Rattle.name_rules.specs.Conditions.{NameLies, NoZero}
use Rattle.name_rules.specs.Template.{flat, book_from, tracks_in, WrittenOut}
use Rattle.name_entries.specs.Names.{is_name}
use Rattle.axis_tables.specs.Runs.{bytes_of}
use Rattle.axis_tables.specs.View.{Item, AxisLine, AxisView, components_of, axis_bytes}
use Rattle.panel_tables.specs.View.{Placement, PanelView}
use Rattle.panel_tables.specs.Axes.{view_in}
use Rattle.sheet_rules.specs.Sheet.{inner_of, strategy_of, items_of}
use Rattle.sheet_rules.specs.Valid.{ValidTemplate, CssCounted}
use Rattle.panel_rules.specs.Runs.{Call}
use Rattle.panel_rules.specs.Views.{entry_name, areas_in, css_end}

-- ---- the sheet's names

-- of an axis: what counts as its template, and how often the automatic repeat of that is written out. Both have to be CSS's (`CssCounted`,
-- `CssRepetitions`)
pub record CssTemplate : Type 0 where
  pub template : List Item
  pub repetitions : ℕ

-- the template as it stands, n repetitions of its automatic repeat: what a valid one counts as
abbrev pub as_written : ℕ → AxisView → CssTemplate
as_written n v = record { template = v.template; repetitions = n }

-- "the sheet's names, repeats written out, each on line 1 plus the tracks before it"
unfoldable pub sheet_book : CssTemplate → List Entry
sheet_book m = book_from 1 (flat (items_of m.repetitions m.template))

-- the tracks that the template writes out
unfoldable pub sheet_tracks : CssTemplate → ℕ
sheet_tracks m = tracks_in (flat (items_of m.repetitions m.template))

-- ---- the calls

abbrev pub same_axis : Axis → Axis → Bool
same_axis Column Column = true
same_axis Column Row = false
same_axis Row Column = false
same_axis Row Row = true

-- what the table refuses an entry by, 0 where by nothing, with so many entries and bytes on its axis: 2 name, 4 count, 8 crowded
unfoldable pub table_refusal : ℕ → ℕ → ℕ → Bytes → ℕ
table_refusal entries used line name =
    cond (not (is_name name)) 2
    (cond (not (leb 1 line && leb line 20000)) 4
    (cond (leb 4096 entries || ltb 32768 (used + length name)) 8 0))

-- the entries that calls add on an axis: "a call adds its axis, line and name, or nothing where the table refuses it"
unfoldable pub added_from : ℕ → ℕ → Axis → List Call → List Entry
added_from entries used a [] = []
added_from entries used a (c ∷ cs) =
    cond (same_axis a c.axis && eqb (table_refusal entries used c.line c.name) 0)
    (record { line = c.line; name = c.name } ∷ added_from (entries + 1) (used + length c.name) a cs)
    (added_from entries used a cs)

-- ---- the book of an axis
unfoldable pub book : CssTemplate → PanelView → Axis → List Call → List Entry
book m v a calls = sheet_book m ++ added_from (length (sheet_book m)) (length (axis_bytes (view_in v a))) a calls

-- the bytes that it takes of the axis's store: "each `name` record and each direct entry taking its length", the records of a template that counts as
-- none too
unfoldable pub book_bytes : CssTemplate → PanelView → Axis → List Call → ℕ
book_bytes m v a calls =
    length (axis_bytes (view_in v a)) + length (bytes_of entry_name (added_from (length (sheet_book m)) (length (axis_bytes (view_in v a))) a calls))

-- CSS 7.1: the larger of the tracks that the template writes out and the tracks that the areas span
abbrev pub book_explicit : CssTemplate → AxisView → ℕ
book_explicit m v = max (sheet_tracks m) v.areas

-- all that names the lines of an axis
abbrev pub book_names : CssTemplate → PanelView → Axis → List Call → AxisNames
book_names m v a calls = record { explicit = book_explicit m (view_in v a); book = book m v a calls; areas = areas_in a v.areas }

-- ---- the conditions

-- "each template is valid"; or, in its place, what is taken for each template is what CSS takes for it, whether it is valid or not
abbrev pub AllValid : PanelView → Type 0
AllValid v = (a : Axis) → ValidTemplate (view_in v a).template

abbrev pub AllCounted : (Axis → CssTemplate) → PanelView → Type 0
AllCounted m v = (a : Axis) → CssCounted (view_in v a).template (m a).template

-- the repetitions are those that CSS 7.2 has for the automatic repeat, if there is one
abbrev pub CssRepetitions : AxisLine → CssTemplate → Type 0
CssRepetitions l m =
    (c : Component) → Memᴰ c (components_of m.template) → Automatic c
    → Repetitions (inner_of l) (strategy_of l) (sizing_of l.gap) (components_of m.template) m.repetitions

-- of a template alone: it "writes each repeat out at least once and at most 10,000 tracks in all". One that counts as none does
pub record RegularTemplate (m : CssTemplate) (l : AxisLine) : Type 0 where
  pub repetitions : CssRepetitions l m
  pub repeated : WrittenOut (items_of m.repetitions m.template)
  pub few : sheet_tracks m ≤ 10000

-- of an axis: that of its template, and "every name lies on an explicit line"
pub record RegularAxis (m : CssTemplate) (v : PanelView) (a : Axis) (calls : List Call) : Type 0 where
  pub template : RegularTemplate m (view_in v a).line
  pub lies : (nm : Bytes) → NameLies (book_names m v a calls) nm

-- "and no placement writes line 0"
pub record Regular (m : Axis → CssTemplate) (v : PanelView) (calls : List Call) : Type 0 where
  pub axes : (a : Axis) → RegularAxis (m a) v a calls
  pub nonzero : (p : Placement) → Memᴰ p v.placements → NoZero (css_end p.start) × NoZero (css_end p.end)
