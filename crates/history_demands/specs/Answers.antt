-- What the calls answer over the steps up to the panel's own (document 02, request 14): demand 2 and the order freedom of demand 3, of the lines of the
-- sheet with those edits after them. proofs/ proves it.
use Rattle.std.specs.Prelude.{ℕ, ◌+◌, ◌≤◌, ◌<◌, ◌≡◌, length, take}
use mathlib.Core.List.{List, [], map, Memᴰ}
use Rattle.coordinates.specs.declared.axis.Axis.{Axis}
use Rattle.coordinates.specs.Refusals.{refusal_of}
use Rattle.sizing.specs.Words.{sizing_of}
use Rattle.template_rules.specs.Template.{Component}
use Rattle.template_rules.specs.Css.{Automatic, Valid, Repetitions}
use Rattle.name_rules.specs.Css.{Entry, start, end, ResolvedEnds, CssEnds}
use Rattle.name_rules.specs.CssMarks.{HeldEnds, CssMarks}
use Rattle.name_rules.specs.Conditions.{UsedNamesLie}
use Rattle.name_resolver.specs.Placements.{held_marks}
use Rattle.track_rules.specs.declared.GridTrack.{GridTrack}
use Rattle.track_rules.specs.Records.{tracks_in, records_in}
use Rattle.track_rules.specs.Sources.{RecordSource}
use Rattle.track_run.specs.Run.{fill_answer_of, run_after}
use Rattle.axis_tables.specs.Runs.{bytes_of}
use Rattle.axis_tables.specs.View.{AxisView, sizes_of, components_of, axis_bytes}
use Rattle.panel_tables.specs.View.{PanelView}
use Rattle.panel_tables.specs.Axes.{grid_in, room_in, view_in}
use Rattle.sheet_rules.specs.Sheet.{inner_of, strategy_of, counted, sheet_of}
use Rattle.sheet_rules.specs.Valid.{ValidTemplate}
use Rattle.panel_rules.specs.Calls.{book_in, words_in, store_in, template_in}
use Rattle.panel_rules.specs.Runs.{Held, names_of, Call, refusal_in, size_of, placement_of, lists_of, name_of, record_with, run_with, fill_with, marks_of}
use Rattle.panel_rules.specs.Views.{entry_name, entries_after, names_after, css_end, placement_at, answer_at, PlacedByCss, UncutUnmarked, placement_after, size_after, lists_after, name_after, record_after, tracks_after}
use Rattle.panel_rules.specs.Added.{refusal_after}
use Rattle.panel_rules.specs.Book.{CssTemplate, book_names, AllCounted, Regular}
use Rattle.panel_rules.specs.Order.{SamePanel, SameEntries}
use Rattle.edit_rules.specs.Settled.{calls_of, entered_on, view_by}
use Rattle.history_demands.specs.Acts.{HistoryRun, AcceptedRun, reached_by, panel_held, past_edits}

-- ---- the steps up to the panel's own

-- the lines of the sheet with those edits after them
abbrev pub view_at : HistoryRun → PanelView
view_at r = view_by (sheet_of r.sheet).view (past_edits (reached_by r).steps)

-- their direct entries, in order, and those of an axis
abbrev pub calls_at : HistoryRun → List Call
calls_at r = calls_of (past_edits (reached_by r).steps)

abbrev pub entries_at : HistoryRun → Axis → List Entry
entries_at r a = entered_on a (calls_at r)

abbrev pub held_at : HistoryRun → Held
held_at r = panel_held (reached_by r).held

-- ---- demand 2: the answers of a view and further entries

-- an axis whose template is invalid: it "counts as no template" (document 02, request 04), and its `name` records keep their bytes
pub record InvalidAxis (h : Held) (v : AxisView) (es : List Entry) (a : Axis) : Type 0 where
  pub sizes : size_of h a ≡ record { repetitions = 0; explicit = v.areas }
  pub entries : book_in h.panel.grid (names_of h.tables) a ≡ es
  pub template : template_in (grid_in h.panel.grid a) (words_in (names_of h.tables) a) ≡ []
  pub used : (room_in h.panel.room a).used ≡ length (axis_bytes v) + length (bytes_of entry_name es)
  pub bytes : take (length (axis_bytes v)) (store_in (names_of h.tables) a) ≡ axis_bytes v

pub record Answers (h : Held) (v : PanelView) (es : Axis → List Entry) : Type 0 where
  pub sizes : (a : Axis) → size_of h a ≡ size_after (view_in v a)
  -- the repetitions of a valid template are CSS's
  pub repeats : (a : Axis) (c : Component) → Valid (components_of (view_in v a).template) → Memᴰ c (components_of (view_in v a).template) → Automatic c
      → Repetitions (inner_of (view_in v a).line) (strategy_of (view_in v a).line) (sizing_of (view_in v a).line.gap) (components_of (view_in v a).template)
      (size_of h a).repetitions
  pub invalid : (a : Axis) → (ValidTemplate (view_in v a).template → ⊥) → InvalidAxis h (view_in v a) (es a) a
  pub entries : (a : Axis) → book_in h.panel.grid (names_of h.tables) a ≡ entries_after (view_in v a) (es a)
  -- one more entry is refused by the table alone, with the entries and bytes that its axis has then
  pub refusals : (c : Call) → refusal_in h c ≡ refusal_of (refusal_after (view_in v c.axis) (es c.axis) c)
  pub placements : (i : ℕ) → placement_of h i ≡ placement_after v es i
  -- each placement under conditions on its own names only: what CSS counts to, and nothing else
  pub placed : (i : ℕ) → i < length v.placements
      → let p = placement_at v i in let x = names_after v p.axis (es p.axis) in
      UsedNamesLie x start (css_end p.start) → UsedNamesLie x end (css_end p.end) → PlacedByCss x p (placement_of h i)
  pub marked : (i : ℕ) → i < length v.placements
      → let p = placement_at v i in let x = names_after v p.axis (es p.axis) in
      UsedNamesLie x start (css_end p.start) → UsedNamesLie x end (css_end p.end)
      → CssMarks x (css_end p.start) (css_end p.end) (held_marks (placement_of h i).held)
  pub only : (i : ℕ) → i < length v.placements
      → let p = placement_at v i in let x = names_after v p.axis (es p.axis) in
      UsedNamesLie x start (css_end p.start) → UsedNamesLie x end (css_end p.end)
      → (r : ResolvedEnds) (k : HeldEnds) → CssEnds x (css_end p.start) (css_end p.end) r → CssMarks x (css_end p.start) (css_end p.end) k
      → placement_of h i ≡ answer_at p r k
  -- on any names: an end without a mark is where it would be if no line were ever held
  pub unmarked : (i : ℕ) → i < length v.placements
      → let p = placement_at v i in UncutUnmarked (names_after v p.axis (es p.axis)) p (placement_of h i)
  pub lists : (a : Axis) → lists_of h a ≡ lists_after (view_in v a) (es a)
  pub names : (a : Axis) (line place : ℕ) → name_of h a line place ≡ name_after (view_in v a) (es a) line place
  pub records : (a : Axis) (items : List ℕ) (i : ℕ) → record_with h a items i ≡ record_after (view_in v a) items i
  -- the source of each record is that of CSS's account of explicit and implicit tracks
  pub sources : (a : Axis) (items : List ℕ) → tracks_in (tracks_after (view_in v a)) ≤ length items → (i : ℕ) → i < records_in (tracks_after (view_in v a))
      → RecordSource (tracks_after (view_in v a)) (components_of (counted (view_in v a))) i (record_with h a items i).track.source
  -- a lent run of records after the call that fills it, and what that call answers
  pub lent : (a : Axis) (items : List ℕ) (run : List GridTrack) → run_with h a items run
      ≡ run_after (tracks_after (view_in v a)) (components_of (counted (view_in v a))) (map sizes_of (view_in v a).spares) items run
  pub filled : (a : Axis) (items : List ℕ) (run : List GridTrack) → fill_with h a items run ≡ fill_answer_of (tracks_after (view_in v a)) (length run) (length items)
  -- the sheet's own marks are enough item bytes
  pub marks : (a : Axis) → tracks_in (tracks_after (view_in v a)) ≤ length (marks_of h.tables a)

abbrev pub HistoryAnswers : Type 0
HistoryAnswers = (r : HistoryRun) → AcceptedRun r → Answers (held_at r) (view_at r) (entries_at r)

-- ---- demand 3: order freedom of names

-- "names may arrive in any order": two histories over the same axis records, areas, tracks, repeats and placements, with the same entries in any order, resolve
-- every placement alike
abbrev pub HistoryOrder : Type 0
HistoryOrder =
    (n m : Axis → CssTemplate) (p q : HistoryRun) → AcceptedRun p → AcceptedRun q
    → AllCounted n (view_at p) → AllCounted m (view_at q)
    → Regular n (view_at p) (calls_at p) → Regular m (view_at q) (calls_at q)
    → SamePanel (view_at p) (view_at q)
    → SameEntries n (view_at p) (calls_at p) m (view_at q) (calls_at q)
    → (i : ℕ) → placement_of (held_at p) i ≡ placement_of (held_at q) i

-- and over the book and the areas they are the lines that CSS counts to
pub record PlacedOverBook (m : Axis → CssTemplate) (r : HistoryRun) : Type 0 where
  pub placed : (i : ℕ) → i < length (view_at r).placements
      → let p = placement_at (view_at r) i in
      PlacedByCss (book_names (m p.axis) (view_at r) p.axis (calls_at r)) p (placement_of (held_at r) i)
  pub marked : (i : ℕ) → i < length (view_at r).placements
      → let p = placement_at (view_at r) i in
      CssMarks (book_names (m p.axis) (view_at r) p.axis (calls_at r)) (css_end p.start) (css_end p.end) (held_marks (placement_of (held_at r) i).held)
  -- and CSS counts to nothing else
  pub only : (i : ℕ) → i < length (view_at r).placements → (x : ResolvedEnds) (k : HeldEnds)
      → let p = placement_at (view_at r) i in let b = book_names (m p.axis) (view_at r) p.axis (calls_at r) in
      CssEnds b (css_end p.start) (css_end p.end) x → CssMarks b (css_end p.start) (css_end p.end) k → placement_of (held_at r) i ≡ answer_at p x k

abbrev pub HistoryBook : Type 0
HistoryBook = (m : Axis → CssTemplate) (r : HistoryRun) → AcceptedRun r → AllCounted m (view_at r) → Regular m (view_at r) (calls_at r) → PlacedOverBook m r
