-- What is held, and what the calls answer, after an accepted sheet and accepted entries, from the sheet's view and those entries alone.
use Rattle.std.specs.Prelude.{ℕ, zero, suc, ◌+◌, ◌≡◌, false, cond, List, [], ◌++◌, map, ℤ, pos, negsuc, ltb, length, get_or, drop}
use Rattle.coordinates.specs.declared.axis.Axis.{Axis}
use Rattle.coordinates.specs.Refusals.{no_refusal, count}
use Rattle.sizing.specs.Words.{sizing_of}
use Rattle.name_rules.specs.Css as Css
use Rattle.name_rules.specs.Css.{Bytes, Entry, AxisNames}
use Rattle.name_rules.specs.CssMarks.{HeldEnds}
use Rattle.name_rules.specs.Rule.{named?, resolve, uncut_end, held_ends}
use Rattle.name_entries.specs.Entries.{word_of}
use Rattle.name_entries.specs.LineNames.{of_axis, explicit_line_names, line_count}
use Rattle.name_resolver.specs.Placements.{answer_of, ends_of, held_answer, resolved_ends}
use Rattle.track_rules.specs.declared.AxisTracks.{AxisTracks}
use Rattle.track_rules.specs.Tracks.{RecordAnswer}
use Rattle.track_rules.specs.Records.{record_answer_of}
use Rattle.axis_tables.specs.declared.AxisSize.{AxisSize}
use Rattle.axis_tables.specs.declared.AxisState.{AxisState}
use Rattle.axis_tables.specs.Runs.{bytes_of, words_from}
use Rattle.axis_tables.specs.View.{AxisView, sizes_of, components_of, axis_bytes}
use Rattle.axis_tables.specs.Written.{words_with}
use Rattle.panel_tables.specs.View.{Area, End, Placement, PanelView, no_placement}
use Rattle.panel_tables.specs.Areas.{edges_in}
use Rattle.panel_tables.specs.Axes.{view_in}
use Rattle.sheet_rules.specs.Sheet as Sheet
use Rattle.sheet_rules.specs.Sheet.{counted, explicit_of}
use Rattle.sheet_rules.specs.Panels.{Tables, entry_words, with_axes, sized_state, sized_panel, tables_of}
use Rattle.panel_rules.specs.Placing.{PlacementAnswer}
use Rattle.panel_rules.specs.Calls.{with_entries}
use Rattle.panel_rules.specs.Placing.{refused_placement}
use Rattle.panel_rules.specs.Runs.{Held}

-- ---- the state and the tables, with further entries `es` of an axis

abbrev pub entry_name : Entry → Bytes
entry_name e = e.name

abbrev pub entry_word_at : Entry → ℕ → ℕ
entry_word_at e offset = word_of e.line offset (length e.name)

-- their words, after those of the sheet
unfoldable pub words_after : AxisView → List Entry → List ℕ
words_after v es = words_with v (entry_words v ++ words_from entry_word_at entry_name (length (axis_bytes v)) es)

-- their bytes, after those of the sheet, and the rest of the store as it was
abbrev pub bytes_after : AxisView → List Entry → List ℕ
bytes_after v es = axis_bytes v ++ bytes_of entry_name es

unfoldable pub store_after : AxisView → List Entry → List ℕ → List ℕ
store_after v es store = bytes_after v es ++ drop (length (bytes_after v es)) store

unfoldable pub state_after : AxisView → List Entry → AxisState
state_after v es = with_entries (sized_state v) (length (entry_words v) + length es) (length (bytes_after v es))

-- of both axes
unfoldable pub held_after : PanelView → Tables → List Entry → List Entry → Held
held_after v t columns rows =
    record {
      panel = with_axes (sized_panel v) (state_after v.columns columns) (state_after v.rows rows);
      tables = record {
        columns = words_after v.columns columns;
        rows = words_after v.rows rows;
        column_marks = v.columns.marks;
        row_marks = v.rows.marks;
        areas = (tables_of v t).areas;
        area_bytes = (tables_of v t).area_bytes;
        placements = (tables_of v t).placements;
        placement_bytes = (tables_of v t).placement_bytes;
        column_store = store_after v.columns columns t.column_store;
        row_store = store_after v.rows rows t.row_store;
      };
    }

-- ---- the answers

-- the entries of an axis: layer 4's writing out of the sheet, then the further ones
abbrev pub entries_after : AxisView → List Entry → List Entry
entries_after v es = Sheet.entries_of v ++ es

-- a drawn area as an axis sees it
abbrev pub area_in : Axis → Area → Css.Area
area_in a x = record { name = x.name; from = (edges_in x.edges a).start; to = (edges_in x.edges a).end }

abbrev pub areas_in : Axis → List Area → List Css.Area
areas_in a list = map (area_in a) list

-- all that names the lines of an axis
abbrev pub names_after : PanelView → Axis → List Entry → AxisNames
names_after v a es = record { explicit = explicit_of (view_in v a); book = entries_after (view_in v a) es; areas = areas_in a v.areas }

-- an end of a `place` or `cell` line in the words of CSS: kinds `auto line named span nspan` are 0 to 4
abbrev pub span_of : ℤ → ℕ
span_of (pos n) = n
span_of (negsuc k) = 0

abbrev pub css_by : ℕ → End → Css.Placement
css_by zero e = Css.auto
css_by (suc zero) e = Css.line e.end.number
css_by (suc (suc zero)) e = Css.named e.name e.end.number
css_by (suc (suc (suc zero))) e = Css.span (span_of e.end.number)
css_by (suc (suc (suc (suc zero)))) e = Css.nspan e.name (span_of e.end.number)
css_by (suc (suc (suc (suc (suc k))))) e = Css.auto

abbrev pub css_end : End → Css.Placement
css_end e = css_by e.end.kind e

-- placement i of the sheet
abbrev pub placement_at : PanelView → ℕ → Placement
placement_at v i = get_or v.placements i no_placement

-- an answer that is not refused: of the placement's axis, with these ends and marks
abbrev pub answer_at : Placement → Css.ResolvedEnds → HeldEnds → PlacementAnswer
answer_at p r h = record { refusal = no_refusal; axis = p.axis; cell = p.cell; line = ends_of r; held = held_answer h }

-- an answer to a placement that is not refused, is of the placement's axis and has the ends that CSS counts to over x
pub record PlacedByCss (x : AxisNames) (p : Placement) (r : PlacementAnswer) : Type 0 where
  pub accepted : r.refusal ≡ no_refusal
  pub axis : r.axis ≡ p.axis
  pub ends : Css.CssEnds x (css_end p.start) (css_end p.end) (resolved_ends r.line)

-- an end without a mark is where a rule that never holds a line has it
pub record UncutUnmarked (x : AxisNames) (p : Placement) (r : PlacementAnswer) : Type 0 where
  pub start : r.held.start ≡ false → r.line.start ≡ answer_of (uncut_end x.explicit (named? x) Css.start (css_end p.end) (css_end p.start))
  pub end : r.held.end ≡ false → r.line.end ≡ answer_of (uncut_end x.explicit (named? x) Css.end (css_end p.start) (css_end p.end))

-- the answer for a placement, by the rule over the names of its axis
unfoldable pub placement_after : PanelView → (Axis → List Entry) → ℕ → PlacementAnswer
placement_after v es i =
    cond (ltb i (length v.placements))
    (let p : Placement = placement_at v i in
    let x : AxisNames = names_after v p.axis (es p.axis) in
    answer_at p (resolve x.explicit (named? x) (css_end p.start) (css_end p.end)) (held_ends x.explicit (named? x) (css_end p.start) (css_end p.end)))
    (refused_placement count)

unfoldable pub size_after : AxisView → AxisSize
size_after v = record { repetitions = (Sheet.size_of v).repetitions; explicit = explicit_of v }

unfoldable pub lists_after : AxisView → List Entry → ℕ
lists_after v es = line_count (length (entries_after v es)) (explicit_of v)

unfoldable pub name_after : AxisView → List Entry → ℕ → ℕ → Bytes
name_after v es line place = get_or (explicit_line_names (explicit_of v) (entries_after v es) line) place []

-- the tracks of an axis: the negative ones, the explicit ones, the positive ones
abbrev pub tracks_after : AxisView → AxisTracks
tracks_after v =
    record {
      counts = record { negative_implicit = v.negative; explicit = explicit_of v; positive_implicit = v.positive };
      repetitions = (Sheet.size_of v).repetitions;
      gap = sizing_of v.line.gap;
    }

-- the tracks written are those of what counts as the template
unfoldable pub record_after : AxisView → List ℕ → ℕ → RecordAnswer
record_after v items index = record_answer_of (tracks_after v) (components_of (counted v)) (map sizes_of v.spares) items index

abbrev pub both : {A : Type 0} → A → A → Axis → A
both columns rows a = of_axis a columns rows
