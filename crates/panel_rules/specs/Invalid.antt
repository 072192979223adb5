-- A panel without the template of an axis, and two runs of which one has an invalid template there and the other none (document 02, request 04).
use Rattle.std.specs.Prelude.{ℕ, ◌≡◌, List, []}
use Rattle.coordinates.specs.declared.axis.Axis.{Axis}
use Rattle.track_rules.specs.declared.GridTrack.{GridTrack}
use Rattle.axis_tables.specs.View.{AxisView}
use Rattle.panel_tables.specs.View.{PanelView}
use Rattle.panel_tables.specs.Axes.{view_in, with_view}
use Rattle.sheet_rules.specs.Sheet.{sheet_of}
use Rattle.sheet_rules.specs.Valid.{ValidTemplate}
use Rattle.panel_rules.specs.Calls.{book_in}
use Rattle.panel_rules.specs.Runs.{names_of, size_of, placement_of, lists_of, name_of, record_with, run_with, fill_with}
use Rattle.panel_rules.specs.Added.{sheet_axis, added}
use Rattle.panel_rules.specs.Alone.{Run, held_by, AcceptedRun}

-- an axis without its tracks, repeats and names
abbrev pub without_template : AxisView → AxisView
without_template v =
    record {
      line = v.line;
      template = [];
      unended = v.unended;
      spares = v.spares;
      negative = v.negative;
      positive = v.positive;
      marks = v.marks;
      areas = v.areas;
    }

abbrev pub emptied : Axis → PanelView → PanelView
emptied a v = with_view v a (without_template (view_in v a))

-- a panel apart from where its lines stood: fewer lines before a `cell` give it another number
abbrev pub unlined : PanelView → PanelView
unlined v =
    record {
      columns = v.columns;
      rows = v.rows;
      areas = v.areas;
      picture = v.picture;
      placements = v.placements;
      cells = [];
      stage = v.stage;
      lines = 0;
    }

-- the template of an axis is invalid in the first run; the second is over the same panel with an empty one, and has the same accepted entries: the
-- bytes of the first's `name` records stay used, so a full store can refuse an entry there and not here
pub record InvalidBesideEmpty (a : Axis) (p q : Run) : Type 0 where
  pub first : AcceptedRun p
  pub second : AcceptedRun q
  pub invalid : ValidTemplate (sheet_axis p.sheet a).template → ⊥
  pub panel : unlined (sheet_of q.sheet).view ≡ unlined (emptied a (sheet_of p.sheet).view)
  pub entries : (b : Axis) → added p.sheet b p.calls ≡ added q.sheet b q.calls

-- every answer is the same, on both axes
pub record SameAnswers (p q : Run) : Type 0 where
  pub size : (b : Axis) → size_of (held_by p) b ≡ size_of (held_by q) b
  pub entries : (b : Axis) → book_in (held_by p).panel.grid (names_of (held_by p).tables) b ≡ book_in (held_by q).panel.grid (names_of (held_by q).tables) b
  pub lists : (b : Axis) → lists_of (held_by p) b ≡ lists_of (held_by q) b
  pub names : (b : Axis) (line place : ℕ) → name_of (held_by p) b line place ≡ name_of (held_by q) b line place
  pub placements : (i : ℕ) → placement_of (held_by p) i ≡ placement_of (held_by q) i
  -- for any item bytes
  pub records : (b : Axis) (items : List ℕ) (index : ℕ) → record_with (held_by p) b items index ≡ record_with (held_by q) b items index
  pub lent : (b : Axis) (items : List ℕ) (run : List GridTrack) → run_with (held_by p) b items run ≡ run_with (held_by q) b items run
  pub filled : (b : Axis) (items : List ℕ) (run : List GridTrack) → fill_with (held_by p) b items run ≡ fill_with (held_by q) b items run
