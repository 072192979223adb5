-- Worked runs: sheets as bytes, entry calls, and what the calls on the panel answer then. proofs/Worked.antt shows that they answer so.
use Rattle.std.specs.Prelude.{ℕ, suc, ◌≡◌, Bool, true, false, pos, length, replicate}
use mathlib.Core.List.{List, [], ◌∷◌, ◌++◌, map, Memᴰ}
use Rattle.std.specs.Float.{binary32}
use Rattle.std.specs.Float.Ieee.{of_bits}
use Rattle.coordinates.specs.declared.axis.Axis.{Axis}
use Rattle.coordinates.specs.declared.axis.Axis.TheVariants.{Column, Row}
use Rattle.coordinates.specs.Refusals.{no_refusal, count}
use Rattle.sizing.specs.declared.MinMax.{MinMax}
use Rattle.sizing.specs.declared.Sizing.{Sizing}
use Rattle.sizing.specs.declared.Sizing.TheVariants.{Length, Fraction, Auto, MinContent}
use Rattle.template_rules.specs.Template.{Component}
use Rattle.template_rules.specs.Css.{Automatic}
use Rattle.name_rules.specs.Css.{Bytes}
use Rattle.name_resolver.specs.Types.{NonNamedGridPlacement}
use Rattle.coordinates.specs.declared.line.GenericGridPlacement.TheVariants as Placed
use Rattle.name_resolver.specs.Placements.{grid_line_of, no_marks}
use Rattle.track_rules.specs.declared.GridTrack.{GridTrack}
use Rattle.track_rules.specs.declared.GridTrackKind.TheVariants as Kind
use Rattle.track_rules.specs.declared.TrackSource.{TrackSource}
use Rattle.track_rules.specs.declared.TrackSource.TheVariants as From
use Rattle.track_rules.specs.Tracks.{RecordAnswer}
use Rattle.track_rules.specs.Tracks.{grid_track, gutter_of, refused_record}
use Rattle.track_rules.specs.Records.{listed}
use Rattle.axis_tables.specs.View.{components_of}
use Rattle.panel_tables.specs.View.{PanelView}
use Rattle.panel_tables.specs.Axes.{view_in}
use Rattle.sheet_rules.specs.Sheet.{size_of as template_size, sheet_of}
use Rattle.sheet_rules.specs.Valid.{ValidTemplate}
use Rattle.sheet_rules.specs.Panels.{Tables}
use Rattle.panel_rules.specs.Placing.{PlacementAnswer}
use Rattle.axis_tables.specs.declared.AxisSize.{AxisSize}
use Rattle.panel_rules.specs.Placing.{refused_placement}
use Rattle.panel_rules.specs.Runs.{Held, Call, Accepted, run_of, size_of, placement_of, lists_of, name_of, record_of}
use Rattle.panel_rules.specs.Book.{CssTemplate, as_written, AllValid, Regular}
use Rattle.panel_rules.specs.Added.{found_in}
use Rattle.panel_rules.specs.Alone.{Run}

-- ---- what a worked run is

pub record AxisWorked : Type 0 where
  pub size : AxisSize
  -- for each line its first two names, empty where there is none
  pub names : List (List Bytes)
  pub records : List GridTrack

pub record Worked : Type 0 where
  pub sheet : List ℕ
  pub calls : List Call
  pub columns : AxisWorked
  pub rows : AxisWorked
  pub placements : List PlacementAnswer

abbrev pub accepted : GridTrack → RecordAnswer
accepted g = record { refusal = no_refusal; track = g }

-- an axis of what is held answers so, for the sheet's own marks; and there is no further record
pub record AxisAnswers (h : Held) (a : Axis) (w : AxisWorked) : Type 0 where
  pub sizes : size_of h a ≡ w.size
  pub lists : lists_of h a ≡ length w.names
  pub names : listed (λ i. listed (name_of h a (suc i)) 2) (length w.names) ≡ w.names
  pub records : listed (record_of h a) (suc (length w.records)) ≡ map accepted w.records ++ (refused_record count ∷ [])

-- after the run, from any tables; and there is no further placement
pub record Answers (w : Worked) (t : Tables) : Type 0 where
  pub is_accepted : Accepted w.sheet t
  pub columns : AxisAnswers (run_of w.sheet t w.calls) Column w.columns
  pub rows : AxisAnswers (run_of w.sheet t w.calls) Row w.rows
  pub placements : listed (placement_of (run_of w.sheet t w.calls)) (suc (length w.placements)) ≡ w.placements ++ (refused_placement count ∷ [])

-- ---- the conditions of the third demand

abbrev pub view_of : Worked → PanelView
view_of w = (sheet_of w.sheet).view

-- the repetitions that layer 3 finds, and the template as written with them
abbrev pub repetitions : Worked → Axis → ℕ
repetitions w a = (template_size (view_in (view_of w) a)).repetitions

abbrev pub found : Worked → Axis → CssTemplate
found w a = as_written (repetitions w a) (view_in (view_of w) a)

-- a run meets them, and the template of an axis has an automatic repeat
pub record Met (w : Worked) (a : Axis) : Type 0 where
  pub valid : AllValid (view_of w)
  pub regular : Regular (found w) (view_of w) w.calls
  pub component : Component
  pub written : Memᴰ component (components_of (view_in (view_of w) a).template)
  pub automatic : Automatic component

-- a run meets all of them but one: the template of an axis is invalid
pub record MetButValid (w : Worked) (a : Axis) : Type 0 where
  pub invalid : ValidTemplate (view_in (view_of w) a).template → ⊥
  pub regular : Regular (λ b. found_in (view_in (view_of w) b)) (view_of w) w.calls

-- a worked run from given tables
abbrev pub run_from : Worked → Tables → Run
run_from w t = record { sheet = w.sheet; tables = t; calls = w.calls }

-- tables whose stores are just long enough
unfoldable pub lent : Tables
lent =
    record {
      columns = [];
      rows = [];
      column_marks = [];
      row_marks = [];
      areas = [];
      area_bytes = [];
      placements = [];
      placement_bytes = [];
      column_store = replicate 32768 0;
      row_store = replicate 32768 0;
    }

-- ---- how answers are written below

abbrev size : ℕ → ℕ → AxisSize
size repetitions explicit = record { repetitions = repetitions; explicit = explicit }

abbrev of_length : ℕ → Sizing
of_length bits = Length (of_bits binary32 bits)

abbrev fixed : ℕ → MinMax
fixed bits = record { min = of_length bits; max = of_length bits }

-- open and collapsed records
abbrev track : TrackSource → MinMax → GridTrack
track source s = grid_track Kind.Track source s false

abbrev shut_track : TrackSource → GridTrack
shut_track source = grid_track Kind.Track source (fixed 0) true

abbrev gutter : ℕ → GridTrack
gutter bits = gutter_of (of_length bits) false

abbrev shut_gutter : GridTrack
shut_gutter = gutter_of (of_length 0) true

abbrev settled : Axis → Bool → NonNamedGridPlacement → NonNamedGridPlacement → PlacementAnswer
settled a cell start end = record { refusal = no_refusal; axis = a; cell = cell; line = record { start = start; end = end }; held = no_marks }

abbrev placed : Axis → NonNamedGridPlacement → NonNamedGridPlacement → PlacementAnswer
placed a start end = settled a false start end

abbrev line : ℕ → NonNamedGridPlacement
line n = Placed.Line (grid_line_of (pos n))

abbrev span : ℕ → NonNamedGridPlacement
span n = Placed.Span n

abbrev auto : NonNamedGridPlacement
auto = Placed.Auto

-- a cell: its columns from a line on, and its rows
abbrev cell_from : ℕ → ℕ → List PlacementAnswer
cell_from column row = settled Column true (line column) auto ∷ settled Row true (line row) auto ∷ []

abbrev pub entry : Axis → ℕ → Bytes → Call
entry a n name = record { axis = a; line = n; name = name }

abbrev none : Bytes
none = []

abbrev pub x : Bytes
x = 120 ∷ []

abbrev pub y : Bytes
y = 121 ∷ []

abbrev top : Bytes
top = 116 ∷ 111 ∷ 112 ∷ []

abbrev middle : Bytes
middle = 109 ∷ 105 ∷ 100 ∷ 100 ∷ 108 ∷ 101 ∷ []

abbrev bottom : Bytes
bottom = 98 ∷ 111 ∷ 116 ∷ 116 ∷ 111 ∷ 109 ∷ []

-- ---- document 01's case: an automatic repeat with a name in it

unfoldable pub sample_sheet : List ℕ
sample_sheet =
    -- axis c 43480000 max len 00000000
    97 ∷ 120 ∷ 105 ∷ 115 ∷ 9 ∷ 99 ∷ 9 ∷ 52 ∷ 51 ∷ 52 ∷ 56 ∷ 48 ∷ 48 ∷ 48 ∷ 48 ∷ 9 ∷ 109 ∷ 97 ∷ 120 ∷ 9 ∷ 108 ∷ 101 ∷ 110 ∷ 9 ∷ 48 ∷ 48 ∷ 48 ∷ 48 ∷ 48 ∷ 48 ∷ 48 ∷ 48 ∷ 10
    -- repeat c fill
    ∷ 114 ∷ 101 ∷ 112 ∷ 101 ∷ 97 ∷ 116 ∷ 9 ∷ 99 ∷ 9 ∷ 102 ∷ 105 ∷ 108 ∷ 108 ∷ 10
    -- name c x
    ∷ 110 ∷ 97 ∷ 109 ∷ 101 ∷ 9 ∷ 99 ∷ 9 ∷ 120 ∷ 10
    -- track c len 42c80000 len 42c80000
    ∷ 116 ∷ 114 ∷ 97 ∷ 99 ∷ 107 ∷ 9 ∷ 99 ∷ 9 ∷ 108 ∷ 101 ∷ 110 ∷ 9 ∷ 52 ∷ 50 ∷ 99 ∷ 56 ∷ 48 ∷ 48 ∷ 48 ∷ 48 ∷ 9 ∷ 108 ∷ 101 ∷ 110 ∷ 9 ∷ 52 ∷ 50 ∷ 99 ∷ 56 ∷ 48 ∷ 48 ∷ 48 ∷ 48 ∷ 10
    -- end c
    ∷ 101 ∷ 110 ∷ 100 ∷ 9 ∷ 99 ∷ 10
    -- place c named x 2 auto - 0
    ∷ 112 ∷ 108 ∷ 97 ∷ 99 ∷ 101 ∷ 9 ∷ 99 ∷ 9 ∷ 110 ∷ 97 ∷ 109 ∷ 101 ∷ 100 ∷ 9 ∷ 120 ∷ 9 ∷ 50 ∷ 9 ∷ 97 ∷ 117 ∷ 116 ∷ 111 ∷ 9 ∷ 45 ∷ 9 ∷ 48 ∷ 10
    ∷ []

-- what it prints, and its line names: x on lines 1 and 2
unfoldable pub sample : Worked
sample =
    record {
      sheet = sample_sheet;
      calls = [];
      columns = record {
        size = size 2 2;
        names = (x ∷ none ∷ []) ∷ (x ∷ none ∷ []) ∷ (none ∷ none ∷ []) ∷ [];
        records = shut_gutter ∷ track From.Automatic (fixed 0x42c8_0000) ∷ gutter 0 ∷ track From.Automatic (fixed 0x42c8_0000) ∷ shut_gutter ∷ [];
      };
      rows = record { size = size 0 0; names = []; records = shut_gutter ∷ [] };
      placements = placed Column (line 2) auto ∷ [];
    }

-- ---- rows: names, a `fit` repeat with items, an area, placements with a named span and a plain one, a cell; columns by the area, `spare` and `extra`

unfoldable pub row_sheet : List ℕ
row_sheet =
    -- axis r 42480000 max len 40000000
    97 ∷ 120 ∷ 105 ∷ 115 ∷ 9 ∷ 114 ∷ 9 ∷ 52 ∷ 50 ∷ 52 ∷ 56 ∷ 48 ∷ 48 ∷ 48 ∷ 48 ∷ 9 ∷ 109 ∷ 97 ∷ 120 ∷ 9 ∷ 108 ∷ 101 ∷ 110 ∷ 9 ∷ 52 ∷ 48 ∷ 48 ∷ 48 ∷ 48 ∷ 48 ∷ 48 ∷ 48 ∷ 10
    -- area a 2 3 1 2
    ∷ 97 ∷ 114 ∷ 101 ∷ 97 ∷ 9 ∷ 97 ∷ 9 ∷ 50 ∷ 9 ∷ 51 ∷ 9 ∷ 49 ∷ 9 ∷ 50 ∷ 10
    -- name r top
    ∷ 110 ∷ 97 ∷ 109 ∷ 101 ∷ 9 ∷ 114 ∷ 9 ∷ 116 ∷ 111 ∷ 112 ∷ 10
    -- track r len 41200000 len 41200000
    ∷ 116 ∷ 114 ∷ 97 ∷ 99 ∷ 107 ∷ 9 ∷ 114 ∷ 9 ∷ 108 ∷ 101 ∷ 110 ∷ 9 ∷ 52 ∷ 49 ∷ 50 ∷ 48 ∷ 48 ∷ 48 ∷ 48 ∷ 48 ∷ 9 ∷ 108 ∷ 101 ∷ 110 ∷ 9 ∷ 52 ∷ 49 ∷ 50 ∷ 48 ∷ 48 ∷ 48 ∷ 48 ∷ 48 ∷ 10
    -- repeat r fit
    ∷ 114 ∷ 101 ∷ 112 ∷ 101 ∷ 97 ∷ 116 ∷ 9 ∷ 114 ∷ 9 ∷ 102 ∷ 105 ∷ 116 ∷ 10
    -- name r middle
    ∷ 110 ∷ 97 ∷ 109 ∷ 101 ∷ 9 ∷ 114 ∷ 9 ∷ 109 ∷ 105 ∷ 100 ∷ 100 ∷ 108 ∷ 101 ∷ 10
    -- track r len 41200000 len 41200000
    ∷ 116 ∷ 114 ∷ 97 ∷ 99 ∷ 107 ∷ 9 ∷ 114 ∷ 9 ∷ 108 ∷ 101 ∷ 110 ∷ 9 ∷ 52 ∷ 49 ∷ 50 ∷ 48 ∷ 48 ∷ 48 ∷ 48 ∷ 48 ∷ 9 ∷ 108 ∷ 101 ∷ 110 ∷ 9 ∷ 52 ∷ 49 ∷ 50 ∷ 48 ∷ 48 ∷ 48 ∷ 48 ∷ 48 ∷ 10
    -- end r
    ∷ 101 ∷ 110 ∷ 100 ∷ 9 ∷ 114 ∷ 10
    -- name r bottom
    ∷ 110 ∷ 97 ∷ 109 ∷ 101 ∷ 9 ∷ 114 ∷ 9 ∷ 98 ∷ 111 ∷ 116 ∷ 116 ∷ 111 ∷ 109 ∷ 10
    -- spare c min 00000000 fr 3f800000
    ∷ 115 ∷ 112 ∷ 97 ∷ 114 ∷ 101 ∷ 9 ∷ 99 ∷ 9 ∷ 109 ∷ 105 ∷ 110 ∷ 9 ∷ 48 ∷ 48 ∷ 48 ∷ 48 ∷ 48 ∷ 48 ∷ 48 ∷ 48 ∷ 9 ∷ 102 ∷ 114 ∷ 9 ∷ 51 ∷ 102 ∷ 56 ∷ 48 ∷ 48 ∷ 48 ∷ 48 ∷ 48 ∷ 10
    -- extra c 1 0
    ∷ 101 ∷ 120 ∷ 116 ∷ 114 ∷ 97 ∷ 9 ∷ 99 ∷ 9 ∷ 49 ∷ 9 ∷ 48 ∷ 10
    -- item r 0
    ∷ 105 ∷ 116 ∷ 101 ∷ 109 ∷ 9 ∷ 114 ∷ 9 ∷ 48 ∷ 10
    -- item r 2
    ∷ 105 ∷ 116 ∷ 101 ∷ 109 ∷ 9 ∷ 114 ∷ 9 ∷ 50 ∷ 10
    -- place r named middle 2 nspan bottom 1
    ∷ 112 ∷ 108 ∷ 97 ∷ 99 ∷ 101 ∷ 9 ∷ 114 ∷ 9 ∷ 110 ∷ 97 ∷ 109 ∷ 101 ∷ 100 ∷ 9 ∷ 109 ∷ 105 ∷ 100 ∷ 100 ∷ 108 ∷ 101 ∷ 9 ∷ 50 ∷ 9 ∷ 110 ∷ 115 ∷ 112 ∷ 97 ∷ 110 ∷ 9 ∷ 98 ∷ 111 ∷ 116 ∷ 116 ∷ 111 ∷ 109 ∷ 9 ∷ 49 ∷ 10
    -- place r named a 0 span - 2
    ∷ 112 ∷ 108 ∷ 97 ∷ 99 ∷ 101 ∷ 9 ∷ 114 ∷ 9 ∷ 110 ∷ 97 ∷ 109 ∷ 101 ∷ 100 ∷ 9 ∷ 97 ∷ 9 ∷ 48 ∷ 9 ∷ 115 ∷ 112 ∷ 97 ∷ 110 ∷ 9 ∷ 45 ∷ 9 ∷ 50 ∷ 10
    -- place c nspan a-start 1 line - 2
    ∷ 112 ∷ 108 ∷ 97 ∷ 99 ∷ 101 ∷ 9 ∷ 99 ∷ 9 ∷ 110 ∷ 115 ∷ 112 ∷ 97 ∷ 110 ∷ 9 ∷ 97 ∷ 45 ∷ 115 ∷ 116 ∷ 97 ∷ 114 ∷ 116 ∷ 9 ∷ 49 ∷ 9 ∷ 108 ∷ 105 ∷ 110 ∷ 101 ∷ 9 ∷ 45 ∷ 9 ∷ 50 ∷ 10
    -- cell line - 1 auto - 0 named middle 2 auto - 0
    ∷ 99 ∷ 101 ∷ 108 ∷ 108 ∷ 9 ∷ 108 ∷ 105 ∷ 110 ∷ 101 ∷ 9 ∷ 45 ∷ 9 ∷ 49 ∷ 9 ∷ 97 ∷ 117 ∷ 116 ∷ 111 ∷ 9 ∷ 45 ∷ 9 ∷ 48 ∷ 9 ∷ 110 ∷ 97 ∷ 109 ∷ 101 ∷ 100 ∷ 9 ∷ 109 ∷ 105 ∷ 100 ∷ 100 ∷ 108 ∷ 101 ∷ 9 ∷ 50 ∷ 9 ∷ 97 ∷ 117 ∷ 116 ∷ 111 ∷ 9 ∷ 45 ∷ 9 ∷ 48 ∷ 10
    ∷ []

-- three repetitions; of its tracks only the second holds an item
unfoldable pub row_run : Worked
row_run =
    record {
      sheet = row_sheet;
      calls = [];
      columns = record {
        size = size 0 1;
        names = [];
        records =
            shut_gutter
            ∷ track From.Negative (record { min = MinContent; max = Fraction (of_bits binary32 0x3f80_0000) })
            ∷ gutter 0
            ∷ track From.Area (record { min = MinContent; max = Fraction (of_bits binary32 0x3f80_0000) })
            ∷ shut_gutter
            ∷ [];
      };
      rows = record {
        size = size 3 4;
        names = (top ∷ none ∷ []) ∷ (middle ∷ none ∷ []) ∷ (middle ∷ none ∷ []) ∷ (middle ∷ none ∷ []) ∷ (bottom ∷ none ∷ []) ∷ [];
        records =
            shut_gutter
            ∷ track From.Template (fixed 0x4120_0000)
            ∷ gutter 0x4000_0000
            ∷ shut_track From.Automatic
            ∷ shut_gutter
            ∷ track From.Automatic (fixed 0x4120_0000)
            ∷ shut_gutter
            ∷ shut_track From.Automatic
            ∷ shut_gutter
            ∷ [];
      };
      placements = placed Row (line 3) (line 5) ∷ placed Row (line 2) (span 2) ∷ placed Column (line 1) (line 2) ∷ cell_from 1 3;
    }

abbrev last : Bytes
last = 108 ∷ 97 ∷ 115 ∷ 116 ∷ []

-- the same but for the row names and the row template, and with an entry on the rows
unfoldable pub other_sheet : List ℕ
other_sheet =
    -- axis r 42480000 max len 40000000
    97 ∷ 120 ∷ 105 ∷ 115 ∷ 9 ∷ 114 ∷ 9 ∷ 52 ∷ 50 ∷ 52 ∷ 56 ∷ 48 ∷ 48 ∷ 48 ∷ 48 ∷ 9 ∷ 109 ∷ 97 ∷ 120 ∷ 9 ∷ 108 ∷ 101 ∷ 110 ∷ 9 ∷ 52 ∷ 48 ∷ 48 ∷ 48 ∷ 48 ∷ 48 ∷ 48 ∷ 48 ∷ 10
    -- area a 2 3 1 2
    ∷ 97 ∷ 114 ∷ 101 ∷ 97 ∷ 9 ∷ 97 ∷ 9 ∷ 50 ∷ 9 ∷ 51 ∷ 9 ∷ 49 ∷ 9 ∷ 50 ∷ 10
    -- track r auto 00000000 auto 00000000
    ∷ 116 ∷ 114 ∷ 97 ∷ 99 ∷ 107 ∷ 9 ∷ 114 ∷ 9 ∷ 97 ∷ 117 ∷ 116 ∷ 111 ∷ 9 ∷ 48 ∷ 48 ∷ 48 ∷ 48 ∷ 48 ∷ 48 ∷ 48 ∷ 48 ∷ 9 ∷ 97 ∷ 117 ∷ 116 ∷ 111 ∷ 9 ∷ 48 ∷ 48 ∷ 48 ∷ 48 ∷ 48 ∷ 48 ∷ 48 ∷ 48 ∷ 10
    -- name r last
    ∷ 110 ∷ 97 ∷ 109 ∷ 101 ∷ 9 ∷ 114 ∷ 9 ∷ 108 ∷ 97 ∷ 115 ∷ 116 ∷ 10
    -- spare c min 00000000 fr 3f800000
    ∷ 115 ∷ 112 ∷ 97 ∷ 114 ∷ 101 ∷ 9 ∷ 99 ∷ 9 ∷ 109 ∷ 105 ∷ 110 ∷ 9 ∷ 48 ∷ 48 ∷ 48 ∷ 48 ∷ 48 ∷ 48 ∷ 48 ∷ 48 ∷ 9 ∷ 102 ∷ 114 ∷ 9 ∷ 51 ∷ 102 ∷ 56 ∷ 48 ∷ 48 ∷ 48 ∷ 48 ∷ 48 ∷ 10
    -- extra c 1 0
    ∷ 101 ∷ 120 ∷ 116 ∷ 114 ∷ 97 ∷ 9 ∷ 99 ∷ 9 ∷ 49 ∷ 9 ∷ 48 ∷ 10
    -- item r 0
    ∷ 105 ∷ 116 ∷ 101 ∷ 109 ∷ 9 ∷ 114 ∷ 9 ∷ 48 ∷ 10
    -- item r 2
    ∷ 105 ∷ 116 ∷ 101 ∷ 109 ∷ 9 ∷ 114 ∷ 9 ∷ 50 ∷ 10
    -- place r named middle 2 nspan bottom 1
    ∷ 112 ∷ 108 ∷ 97 ∷ 99 ∷ 101 ∷ 9 ∷ 114 ∷ 9 ∷ 110 ∷ 97 ∷ 109 ∷ 101 ∷ 100 ∷ 9 ∷ 109 ∷ 105 ∷ 100 ∷ 100 ∷ 108 ∷ 101 ∷ 9 ∷ 50 ∷ 9 ∷ 110 ∷ 115 ∷ 112 ∷ 97 ∷ 110 ∷ 9 ∷ 98 ∷ 111 ∷ 116 ∷ 116 ∷ 111 ∷ 109 ∷ 9 ∷ 49 ∷ 10
    -- place r named a 0 span - 2
    ∷ 112 ∷ 108 ∷ 97 ∷ 99 ∷ 101 ∷ 9 ∷ 114 ∷ 9 ∷ 110 ∷ 97 ∷ 109 ∷ 101 ∷ 100 ∷ 9 ∷ 97 ∷ 9 ∷ 48 ∷ 9 ∷ 115 ∷ 112 ∷ 97 ∷ 110 ∷ 9 ∷ 45 ∷ 9 ∷ 50 ∷ 10
    -- place c nspan a-start 1 line - 2
    ∷ 112 ∷ 108 ∷ 97 ∷ 99 ∷ 101 ∷ 9 ∷ 99 ∷ 9 ∷ 110 ∷ 115 ∷ 112 ∷ 97 ∷ 110 ∷ 9 ∷ 97 ∷ 45 ∷ 115 ∷ 116 ∷ 97 ∷ 114 ∷ 116 ∷ 9 ∷ 49 ∷ 9 ∷ 108 ∷ 105 ∷ 110 ∷ 101 ∷ 9 ∷ 45 ∷ 9 ∷ 50 ∷ 10
    -- cell line - 1 auto - 0 named middle 2 auto - 0
    ∷ 99 ∷ 101 ∷ 108 ∷ 108 ∷ 9 ∷ 108 ∷ 105 ∷ 110 ∷ 101 ∷ 9 ∷ 45 ∷ 9 ∷ 49 ∷ 9 ∷ 97 ∷ 117 ∷ 116 ∷ 111 ∷ 9 ∷ 45 ∷ 9 ∷ 48 ∷ 9 ∷ 110 ∷ 97 ∷ 109 ∷ 101 ∷ 100 ∷ 9 ∷ 109 ∷ 105 ∷ 100 ∷ 100 ∷ 108 ∷ 101 ∷ 9 ∷ 50 ∷ 9 ∷ 97 ∷ 117 ∷ 116 ∷ 111 ∷ 9 ∷ 45 ∷ 9 ∷ 48 ∷ 10
    ∷ []

unfoldable pub other_run : Worked
other_run =
    record {
      sheet = other_sheet;
      calls = entry Row 1 top ∷ [];
      columns = row_run.columns;
      rows = record {
        size = size 0 2;
        names = (top ∷ none ∷ []) ∷ (last ∷ none ∷ []) ∷ (none ∷ none ∷ []) ∷ [];
        records =
            shut_gutter
            ∷ track From.Template (record { min = Auto; max = Auto })
            ∷ gutter 0x4000_0000
            ∷ track From.Area (record { min = Auto; max = Auto })
            ∷ shut_gutter
            ∷ [];
      };
      placements = placed Row (line 5) (line 6) ∷ placed Row (line 2) (span 2) ∷ placed Column (line 1) (line 2) ∷ cell_from 1 5;
    }

-- ---- an automatic repeat, and names that arrive in different orders

unfoldable pub called_sheet : List ℕ
called_sheet =
    -- axis c 43480000 max len 00000000
    97 ∷ 120 ∷ 105 ∷ 115 ∷ 9 ∷ 99 ∷ 9 ∷ 52 ∷ 51 ∷ 52 ∷ 56 ∷ 48 ∷ 48 ∷ 48 ∷ 48 ∷ 9 ∷ 109 ∷ 97 ∷ 120 ∷ 9 ∷ 108 ∷ 101 ∷ 110 ∷ 9 ∷ 48 ∷ 48 ∷ 48 ∷ 48 ∷ 48 ∷ 48 ∷ 48 ∷ 48 ∷ 10
    -- repeat c fill
    ∷ 114 ∷ 101 ∷ 112 ∷ 101 ∷ 97 ∷ 116 ∷ 9 ∷ 99 ∷ 9 ∷ 102 ∷ 105 ∷ 108 ∷ 108 ∷ 10
    -- track c len 42c80000 len 42c80000
    ∷ 116 ∷ 114 ∷ 97 ∷ 99 ∷ 107 ∷ 9 ∷ 99 ∷ 9 ∷ 108 ∷ 101 ∷ 110 ∷ 9 ∷ 52 ∷ 50 ∷ 99 ∷ 56 ∷ 48 ∷ 48 ∷ 48 ∷ 48 ∷ 9 ∷ 108 ∷ 101 ∷ 110 ∷ 9 ∷ 52 ∷ 50 ∷ 99 ∷ 56 ∷ 48 ∷ 48 ∷ 48 ∷ 48 ∷ 10
    -- end c
    ∷ 101 ∷ 110 ∷ 100 ∷ 9 ∷ 99 ∷ 10
    -- place c named x 2 auto - 0
    ∷ 112 ∷ 108 ∷ 97 ∷ 99 ∷ 101 ∷ 9 ∷ 99 ∷ 9 ∷ 110 ∷ 97 ∷ 109 ∷ 101 ∷ 100 ∷ 9 ∷ 120 ∷ 9 ∷ 50 ∷ 9 ∷ 97 ∷ 117 ∷ 116 ∷ 111 ∷ 9 ∷ 45 ∷ 9 ∷ 48 ∷ 10
    -- place c line - 1 nspan y 1
    ∷ 112 ∷ 108 ∷ 97 ∷ 99 ∷ 101 ∷ 9 ∷ 99 ∷ 9 ∷ 108 ∷ 105 ∷ 110 ∷ 101 ∷ 9 ∷ 45 ∷ 9 ∷ 49 ∷ 9 ∷ 110 ∷ 115 ∷ 112 ∷ 97 ∷ 110 ∷ 9 ∷ 121 ∷ 9 ∷ 49 ∷ 10
    ∷ []

abbrev called_columns : List (List Bytes) → AxisWorked
called_columns names = record { size = size 2 2; names = names; records = sample.columns.records }

-- x on lines 1 and 3, y on lines 1 and 2; line 0 is refused
unfoldable pub first_order : Worked
first_order =
    record {
      sheet = called_sheet;
      calls = entry Column 1 x ∷ entry Column 1 y ∷ entry Column 0 x ∷ entry Column 2 y ∷ entry Column 3 x ∷ [];
      columns = called_columns ((x ∷ y ∷ []) ∷ (y ∷ none ∷ []) ∷ (x ∷ none ∷ []) ∷ []);
      rows = sample.rows;
      placements = placed Column (line 3) auto ∷ placed Column (line 1) (line 2) ∷ [];
    }

-- the same entries the other way round, and no refused call: the placements are the same, the names of line 1 stand in entry order
unfoldable pub second_order : Worked
second_order =
    record {
      sheet = called_sheet;
      calls = entry Column 3 x ∷ entry Column 2 y ∷ entry Column 1 y ∷ entry Column 1 x ∷ [];
      columns = called_columns ((y ∷ x ∷ []) ∷ (y ∷ none ∷ []) ∷ (x ∷ none ∷ []) ∷ []);
      rows = sample.rows;
      placements = first_order.placements;
    }

-- the same entries once more, of which the sheet has one: its name after the last track is on line 3
unfoldable pub named_sheet : List ℕ
named_sheet =
    -- axis c 43480000 max len 00000000
    97 ∷ 120 ∷ 105 ∷ 115 ∷ 9 ∷ 99 ∷ 9 ∷ 52 ∷ 51 ∷ 52 ∷ 56 ∷ 48 ∷ 48 ∷ 48 ∷ 48 ∷ 9 ∷ 109 ∷ 97 ∷ 120 ∷ 9 ∷ 108 ∷ 101 ∷ 110 ∷ 9 ∷ 48 ∷ 48 ∷ 48 ∷ 48 ∷ 48 ∷ 48 ∷ 48 ∷ 48 ∷ 10
    -- repeat c fill
    ∷ 114 ∷ 101 ∷ 112 ∷ 101 ∷ 97 ∷ 116 ∷ 9 ∷ 99 ∷ 9 ∷ 102 ∷ 105 ∷ 108 ∷ 108 ∷ 10
    -- track c len 42c80000 len 42c80000
    ∷ 116 ∷ 114 ∷ 97 ∷ 99 ∷ 107 ∷ 9 ∷ 99 ∷ 9 ∷ 108 ∷ 101 ∷ 110 ∷ 9 ∷ 52 ∷ 50 ∷ 99 ∷ 56 ∷ 48 ∷ 48 ∷ 48 ∷ 48 ∷ 9 ∷ 108 ∷ 101 ∷ 110 ∷ 9 ∷ 52 ∷ 50 ∷ 99 ∷ 56 ∷ 48 ∷ 48 ∷ 48 ∷ 48 ∷ 10
    -- end c
    ∷ 101 ∷ 110 ∷ 100 ∷ 9 ∷ 99 ∷ 10
    -- name c x
    ∷ 110 ∷ 97 ∷ 109 ∷ 101 ∷ 9 ∷ 99 ∷ 9 ∷ 120 ∷ 10
    -- place c named x 2 auto - 0
    ∷ 112 ∷ 108 ∷ 97 ∷ 99 ∷ 101 ∷ 9 ∷ 99 ∷ 9 ∷ 110 ∷ 97 ∷ 109 ∷ 101 ∷ 100 ∷ 9 ∷ 120 ∷ 9 ∷ 50 ∷ 9 ∷ 97 ∷ 117 ∷ 116 ∷ 111 ∷ 9 ∷ 45 ∷ 9 ∷ 48 ∷ 10
    -- place c line - 1 nspan y 1
    ∷ 112 ∷ 108 ∷ 97 ∷ 99 ∷ 101 ∷ 9 ∷ 99 ∷ 9 ∷ 108 ∷ 105 ∷ 110 ∷ 101 ∷ 9 ∷ 45 ∷ 9 ∷ 49 ∷ 9 ∷ 110 ∷ 115 ∷ 112 ∷ 97 ∷ 110 ∷ 9 ∷ 121 ∷ 9 ∷ 49 ∷ 10
    ∷ []

unfoldable pub named_run : Worked
named_run =
    record {
      sheet = named_sheet;
      calls = entry Column 1 y ∷ entry Column 2 y ∷ entry Column 1 x ∷ [];
      columns = second_order.columns;
      rows = sample.rows;
      placements = first_order.placements;
    }

-- ---- bench four: an automatic repeat beside a track of no fixed kind, so the template counts as none, and its name with it

unfoldable pub bench_sheet : List ℕ
bench_sheet =
    -- axis c 43a00000 max len 00000000
    97 ∷ 120 ∷ 105 ∷ 115 ∷ 9 ∷ 99 ∷ 9 ∷ 52 ∷ 51 ∷ 97 ∷ 48 ∷ 48 ∷ 48 ∷ 48 ∷ 48 ∷ 9 ∷ 109 ∷ 97 ∷ 120 ∷ 9 ∷ 108 ∷ 101 ∷ 110 ∷ 9 ∷ 48 ∷ 48 ∷ 48 ∷ 48 ∷ 48 ∷ 48 ∷ 48 ∷ 48 ∷ 10
    -- area level 1 2 2 3
    ∷ 97 ∷ 114 ∷ 101 ∷ 97 ∷ 9 ∷ 108 ∷ 101 ∷ 118 ∷ 101 ∷ 108 ∷ 9 ∷ 49 ∷ 9 ∷ 50 ∷ 9 ∷ 50 ∷ 9 ∷ 51 ∷ 10
    -- repeat c fill
    ∷ 114 ∷ 101 ∷ 112 ∷ 101 ∷ 97 ∷ 116 ∷ 9 ∷ 99 ∷ 9 ∷ 102 ∷ 105 ∷ 108 ∷ 108 ∷ 10
    -- track c len 42c80000 len 42c80000
    ∷ 116 ∷ 114 ∷ 97 ∷ 99 ∷ 107 ∷ 9 ∷ 99 ∷ 9 ∷ 108 ∷ 101 ∷ 110 ∷ 9 ∷ 52 ∷ 50 ∷ 99 ∷ 56 ∷ 48 ∷ 48 ∷ 48 ∷ 48 ∷ 9 ∷ 108 ∷ 101 ∷ 110 ∷ 9 ∷ 52 ∷ 50 ∷ 99 ∷ 56 ∷ 48 ∷ 48 ∷ 48 ∷ 48 ∷ 10
    -- end c
    ∷ 101 ∷ 110 ∷ 100 ∷ 9 ∷ 99 ∷ 10
    -- name c offset
    ∷ 110 ∷ 97 ∷ 109 ∷ 101 ∷ 9 ∷ 99 ∷ 9 ∷ 111 ∷ 102 ∷ 102 ∷ 115 ∷ 101 ∷ 116 ∷ 10
    -- track c auto 00000000 auto 00000000
    ∷ 116 ∷ 114 ∷ 97 ∷ 99 ∷ 107 ∷ 9 ∷ 99 ∷ 9 ∷ 97 ∷ 117 ∷ 116 ∷ 111 ∷ 9 ∷ 48 ∷ 48 ∷ 48 ∷ 48 ∷ 48 ∷ 48 ∷ 48 ∷ 48 ∷ 9 ∷ 97 ∷ 117 ∷ 116 ∷ 111 ∷ 9 ∷ 48 ∷ 48 ∷ 48 ∷ 48 ∷ 48 ∷ 48 ∷ 48 ∷ 48 ∷ 10
    -- place c named offset 1 auto - 0
    ∷ 112 ∷ 108 ∷ 97 ∷ 99 ∷ 101 ∷ 9 ∷ 99 ∷ 9 ∷ 110 ∷ 97 ∷ 109 ∷ 101 ∷ 100 ∷ 9 ∷ 111 ∷ 102 ∷ 102 ∷ 115 ∷ 101 ∷ 116 ∷ 9 ∷ 49 ∷ 9 ∷ 97 ∷ 117 ∷ 116 ∷ 111 ∷ 9 ∷ 45 ∷ 9 ∷ 48 ∷ 10
    ∷ []

-- the area alone makes two columns, whose tracks are `auto`; no line has a name, and the reading goes to the first line past the grid, line 4
unfoldable pub bench_four : Worked
bench_four =
    record {
      sheet = bench_sheet;
      calls = [];
      columns = record {
        size = size 0 2;
        names = [];
        records = shut_gutter ∷ track From.Area (record { min = Auto; max = Auto }) ∷ gutter 0 ∷ track From.Area (record { min = Auto; max = Auto }) ∷ shut_gutter ∷ [];
      };
      rows = record { size = size 0 1; names = []; records = shut_gutter ∷ track From.Area (record { min = Auto; max = Auto }) ∷ shut_gutter ∷ [] };
      placements = placed Column (line 4) auto ∷ [];
    }

-- the same panel without that template
unfoldable pub empty_sheet : List ℕ
empty_sheet =
    -- axis c 43a00000 max len 00000000
    97 ∷ 120 ∷ 105 ∷ 115 ∷ 9 ∷ 99 ∷ 9 ∷ 52 ∷ 51 ∷ 97 ∷ 48 ∷ 48 ∷ 48 ∷ 48 ∷ 48 ∷ 9 ∷ 109 ∷ 97 ∷ 120 ∷ 9 ∷ 108 ∷ 101 ∷ 110 ∷ 9 ∷ 48 ∷ 48 ∷ 48 ∷ 48 ∷ 48 ∷ 48 ∷ 48 ∷ 48 ∷ 10
    -- area level 1 2 2 3
    ∷ 97 ∷ 114 ∷ 101 ∷ 97 ∷ 9 ∷ 108 ∷ 101 ∷ 118 ∷ 101 ∷ 108 ∷ 9 ∷ 49 ∷ 9 ∷ 50 ∷ 9 ∷ 50 ∷ 9 ∷ 51 ∷ 10
    -- place c named offset 1 auto - 0
    ∷ 112 ∷ 108 ∷ 97 ∷ 99 ∷ 101 ∷ 9 ∷ 99 ∷ 9 ∷ 110 ∷ 97 ∷ 109 ∷ 101 ∷ 100 ∷ 9 ∷ 111 ∷ 102 ∷ 102 ∷ 115 ∷ 101 ∷ 116 ∷ 9 ∷ 49 ∷ 9 ∷ 97 ∷ 117 ∷ 116 ∷ 111 ∷ 9 ∷ 45 ∷ 9 ∷ 48 ∷ 10
    ∷ []

unfoldable pub bench_empty : Worked
bench_empty = record { sheet = empty_sheet; calls = []; columns = bench_four.columns; rows = bench_four.rows; placements = bench_four.placements }
