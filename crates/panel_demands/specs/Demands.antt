-- The three demands, stated on the definitions that the contracts of the calls cite. proofs/Demands.antt proves each of them.
-- Every call ends on every input: each is a proved function without `requires`, and its contract names its answer for every state, table and store.
use Rattle.std.specs.Prelude.{ℕ, suc, ◌+◌, ◌*◌, ◌-◌, ◌≤◌, ◌<◌, ◌≡◌, ◌⊎◌, true, false, length, get_or, take}
use mathlib.Core.List.{List, [], map, Memᴰ}
use Rattle.coordinates.specs.declared.axis.Axis.{Axis}
use Rattle.coordinates.specs.Refusals.{no_refusal, refusal_of, count, short}
use Rattle.sizing.specs.Words.{sizing_of}
use Rattle.template_rules.specs.Template.{Component}
use Rattle.template_rules.specs.Css.{Automatic, Valid, Repetitions}
use Rattle.name_rules.specs.Css.{Bytes, start, end, ResolvedEnds, CssEnds}
use Rattle.name_rules.specs.CssMarks.{HeldEnds, CssMarks}
use Rattle.name_rules.specs.Conditions.{UsedNamesLie}
use Rattle.name_resolver.specs.Placements.{held_marks}
use Rattle.track_rules.specs.declared.GridTrack.{GridTrack}
use Rattle.track_rules.specs.Tracks.{zero_grid_track, refused_record}
use Rattle.track_rules.specs.Written.{written_out}
use Rattle.track_rules.specs.Records.{tracks_in, records_in, no_track}
use Rattle.track_rules.specs.Sources.{RecordSource}
use Rattle.track_rules.specs.Lines.{Stands}
use Rattle.track_run.specs.Run.{refused_fill, fill_answer_of, run_after}
use Rattle.axis_tables.specs.declared.AxisGrid.{AxisGrid}
use Rattle.axis_tables.specs.Runs.{bytes_of}
use Rattle.axis_tables.specs.View.{sizes_of, components_of, axis_bytes}
use Rattle.panel_tables.specs.declared.Grid.{Grid}
use Rattle.panel_tables.specs.declared.Panel.{Panel}
use Rattle.panel_tables.specs.Axes.{grid_in, room_in}
use Rattle.panel_tables.specs.Placements.{placement_at as place_at}
use Rattle.sheet_rules.specs.Sheet.{inner_of, strategy_of, counted, sheet_of}
use Rattle.sheet_rules.specs.Valid.{ValidTemplate, CssCounted}
use Rattle.sheet_rules.specs.Rows.{Row, overlap, number_of, HoldsAt, FirstAt, Nowhere}
use Rattle.sheet_rules.specs.Overlaps.{PairAt}
use Rattle.sheet_rules.specs.Contents.{lines_of, PanelSays}
use Rattle.sheet_rules.specs.Panels.{Tables}
use Rattle.sheet_rules.specs.Read.{short_stores, refused_sheet, refused_overlap, read_sheet}
use Rattle.panel_rules.specs.Calls.{NameTables, NamedWords, book_in, words_in, store_in, template_in, spares_in, axis_tracks, short_names, enter_refusal, enter_name, track_record}
use Rattle.panel_rules.specs.Placing.{refused_placement, resolve_placement}
use Rattle.panel_rules.specs.Runs.{names_of, Call, refusal_in, Accepted, run_of, size_of, placement_of, lists_of, name_of, record_with, run_with, fill_with, marks_of}
use Rattle.panel_rules.specs.Views.{entry_name, entries_after, names_after, css_end, placement_at, answer_at, PlacedByCss, UncutUnmarked, placement_after, size_after, lists_after, name_after, record_after, tracks_after}
use Rattle.panel_rules.specs.Added.{sheet_axis, added, refusal_after}
use Rattle.panel_rules.specs.Book.{CssTemplate, as_written, book, book_names, book_bytes, table_refusal, sheet_tracks, AllValid, AllCounted, RegularTemplate, Regular}
use Rattle.panel_rules.specs.Order.{SamePanel, SameEntries}
use Rattle.panel_rules.specs.Alone.{Run, DifferInRows, SameColumns}
use Rattle.panel_rules.specs.Invalid.{InvalidBesideEmpty, SameAnswers}

-- ==== demand 1: "a fault in a panel is answered by its number and place, with all other answer fields zero and every lent buffer untouched"

-- reading a sheet: accepted exactly where no row of the table holds at any line and no store is short; refused by the row that comes first at
-- the earliest line, or by 10 after all of these. Refusal 12 carries the first pair of areas, every other answer zeros in its place. A refused
-- sheet leaves everything lent as it was
pub data SheetAnswered (s : List ℕ) (t : Tables) : Type 0 where
  sheet_accepted : Nowhere (HoldsAt s) → short_stores t ≡ false → (read_sheet s t).answer.refusal ≡ no_refusal
      → ((read_sheet s t).answer.earlier ≡ 0) × ((read_sheet s t).answer.later ≡ 0) → SheetAnswered s t
  sheet_overlaps : (k i j : ℕ) → FirstAt (HoldsAt s) k overlap → PairAt s k i j → read_sheet s t ≡ refused_overlap (record { earlier = i; later = j; line = k }) t → SheetAnswered s t
  sheet_refused : (k : ℕ) (r : Row) → (r ≡ overlap → ⊥) → FirstAt (HoldsAt s) k r → read_sheet s t ≡ refused_sheet (record { number = number_of r; line = k }) t → SheetAnswered s t
  sheet_short : Nowhere (HoldsAt s) → short_stores t ≡ true → read_sheet s t ≡ refused_sheet (refusal_of short) t → SheetAnswered s t

-- entering a name: a refused call gives its number and line 0, the state as it came and everything lent as it was
pub data EntryAnswered (p : Panel) (t : NameTables) (a : Axis) (line : ℕ) (name : Bytes) : Type 0 where
  entry_accepted : enter_refusal p t a line name ≡ 0 → (enter_name p t a line name).answer.refusal ≡ no_refusal → EntryAnswered p t a line name
  entry_refused : (n : ℕ) → enter_refusal p t a line name ≡ suc n
      → enter_name p t a line name ≡ record { answer = record { refusal = refusal_of (suc n); panel = p }; tables = t } → EntryAnswered p t a line name

-- resolving a placement: 4 where it isn't held, or where the explicit count of its axis is no panel's; then 10 where a store is short
abbrev pub explicit_for : Grid → NamedWords → ℕ → ℕ
explicit_for g placements i = (grid_in g (place_at placements.words i).axis).size.explicit

pub data PlacementAnswered (g : Grid) (t : NameTables) (areas placements : NamedWords) (i : ℕ) : Type 0 where
  placement_accepted : i < g.placements → explicit_for g placements i ≤ 10000 → short_names t ≡ false
      → (resolve_placement g t areas placements i).refusal ≡ no_refusal → PlacementAnswered g t areas placements i
  placement_outside : (g.placements ≤ i) ⊎ (10000 < explicit_for g placements i)
      → resolve_placement g t areas placements i ≡ refused_placement count → PlacementAnswered g t areas placements i
  placement_short : i < g.placements → explicit_for g placements i ≤ 10000 → short_names t ≡ true
      → resolve_placement g t areas placements i ≡ refused_placement short → PlacementAnswered g t areas placements i

-- one record: 4 for an index of 2N + 1 or more, then 10 for fewer than N item bytes
pub data RecordAnswered (g : AxisGrid) (words items : List ℕ) (i : ℕ) : Type 0 where
  record_accepted : i < records_in (axis_tracks g) → tracks_in (axis_tracks g) ≤ length items → (track_record g words items i).refusal ≡ no_refusal → RecordAnswered g words items i
  record_outside : records_in (axis_tracks g) ≤ i → track_record g words items i ≡ refused_record count → RecordAnswered g words items i
  record_short : i < records_in (axis_tracks g) → length items < tracks_in (axis_tracks g) → track_record g words items i ≡ refused_record short → RecordAnswered g words items i

-- the lent run: 10 for fewer than 2N + 1 records or N item bytes, and then no record is written
pub data RunAnswered (g : AxisGrid) (words items : List ℕ) (run : List GridTrack) : Type 0 where
  run_accepted : records_in (axis_tracks g) ≤ length run → tracks_in (axis_tracks g) ≤ length items
      → fill_answer_of (axis_tracks g) (length run) (length items) ≡ record { refusal = no_refusal; count = records_in (axis_tracks g) } → RunAnswered g words items run
  run_short : (length run < records_in (axis_tracks g)) ⊎ (length items < tracks_in (axis_tracks g))
      → fill_answer_of (axis_tracks g) (length run) (length items) ≡ refused_fill short
      → run_after (axis_tracks g) (template_in g words) (spares_in g words) items run ≡ run → RunAnswered g words items run

pub record FirstDemand : Type 0 where
  pub sheets : (s : List ℕ) (t : Tables) → SheetAnswered s t
  pub entries : (p : Panel) (t : NameTables) (a : Axis) (line : ℕ) (name : Bytes) → EntryAnswered p t a line name
  pub placements : (g : Grid) (t : NameTables) (areas placements : NamedWords) (i : ℕ) → PlacementAnswered g t areas placements i
  pub records : (g : AxisGrid) (words items : List ℕ) (i : ℕ) → RecordAnswered g words items i
  pub runs : (g : AxisGrid) (words items : List ℕ) (run : List GridTrack) → RunAnswered g words items run

-- ==== demand 2: the answers after an accepted sheet and any entry calls are those of the definitions that the Rust is compared with, on the
-- sheet's view and the entries that the table accepts; repeats, placements and sources are CSS's

-- what the template of an axis gives where it is invalid in CSS's words (document 02, request 04)
pub record InvalidTheorem (s : List ℕ) (t : Tables) (calls : List Call) (a : Axis) : Type 0 where
  pub sizes : size_of (run_of s t calls) a ≡ record { repetitions = 0; explicit = (sheet_axis s a).areas }
  -- the entries are those of the calls alone
  pub entries : book_in (run_of s t calls).panel.grid (names_of (run_of s t calls).tables) a ≡ added s a calls
  -- the tracks and components that later calls are handed
  pub template : template_in (grid_in (run_of s t calls).panel.grid a) (words_in (names_of (run_of s t calls).tables) a) ≡ []
  -- the `name` records keep their bytes: the first of the store, all counted as used
  pub used : (room_in (run_of s t calls).panel.room a).used ≡ length (axis_bytes (sheet_axis s a)) + length (bytes_of entry_name (added s a calls))
  pub bytes : take (length (axis_bytes (sheet_axis s a))) (store_in (names_of (run_of s t calls).tables) a) ≡ axis_bytes (sheet_axis s a)

pub record SecondDemand (s : List ℕ) (t : Tables) (calls : List Call) : Type 0 where
  -- the view, which the name book of demand 3 is fed too, is what the lines of the sheet say
  pub view : PanelSays (lines_of s) (sheet_of s).view
  -- layer 3 on the sheet's view; no entry call changes it
  pub sizes : (a : Axis) → size_of (run_of s t calls) a ≡ size_after (sheet_axis s a)
  -- the repetitions of a valid template are CSS's
  pub repeats : (a : Axis) (c : Component) → Valid (components_of (sheet_axis s a).template) → Memᴰ c (components_of (sheet_axis s a).template) → Automatic c
      → Repetitions (inner_of (sheet_axis s a).line) (strategy_of (sheet_axis s a).line) (sizing_of (sheet_axis s a).line.gap) (components_of (sheet_axis s a).template)
      (size_of (run_of s t calls) a).repetitions
  -- an invalid template counts as no template: no repetition, no track, no entry of the sheet, and areas still count; its bytes are used
  pub invalid : (a : Axis) → (ValidTemplate (sheet_axis s a).template → ⊥) → InvalidTheorem s t calls a
  -- layer 4
  pub entries : (a : Axis) → book_in (run_of s t calls).panel.grid (names_of (run_of s t calls).tables) a ≡ entries_after (sheet_axis s a) (added s a calls)
  -- one more entry is refused by the table alone, with the entries and bytes that its axis has then
  pub refusals : (c : Call) → refusal_in (run_of s t calls) c ≡ refusal_of (refusal_after (sheet_axis s c.axis) (added s c.axis calls) c)
  pub placements : (i : ℕ) → placement_of (run_of s t calls) i ≡ placement_after (sheet_of s).view (λ a. added s a calls) i
  -- each placement under conditions on its own names only: what CSS counts to
  pub placed : (i : ℕ) → i < length (sheet_of s).view.placements
      → let p = placement_at (sheet_of s).view i in let x = names_after (sheet_of s).view p.axis (added s p.axis calls) in
      UsedNamesLie x start (css_end p.start) → UsedNamesLie x end (css_end p.end) → PlacedByCss x p (placement_of (run_of s t calls) i)
  -- its marks say which ends were held on the way there (document 02, Req 06)
  pub marked : (i : ℕ) → i < length (sheet_of s).view.placements
      → let p = placement_at (sheet_of s).view i in let x = names_after (sheet_of s).view p.axis (added s p.axis calls) in
      UsedNamesLie x start (css_end p.start) → UsedNamesLie x end (css_end p.end)
      → CssMarks x (css_end p.start) (css_end p.end) (held_marks (placement_of (run_of s t calls) i).held)
  -- and nothing else
  pub only : (i : ℕ) → i < length (sheet_of s).view.placements
      → let p = placement_at (sheet_of s).view i in let x = names_after (sheet_of s).view p.axis (added s p.axis calls) in
      UsedNamesLie x start (css_end p.start) → UsedNamesLie x end (css_end p.end)
      → (r : ResolvedEnds) (h : HeldEnds) → CssEnds x (css_end p.start) (css_end p.end) r → CssMarks x (css_end p.start) (css_end p.end) h
      → placement_of (run_of s t calls) i ≡ answer_at p r h
  -- on any names: an end without a mark is where it would be if no line were ever held
  pub unmarked : (i : ℕ) → i < length (sheet_of s).view.placements
      → let p = placement_at (sheet_of s).view i in let x = names_after (sheet_of s).view p.axis (added s p.axis calls) in
      UncutUnmarked x p (placement_of (run_of s t calls) i)
  pub lists : (a : Axis) → lists_of (run_of s t calls) a ≡ lists_after (sheet_axis s a) (added s a calls)
  pub names : (a : Axis) (line place : ℕ) → name_of (run_of s t calls) a line place ≡ name_after (sheet_axis s a) (added s a calls) line place
  -- layer 5
  pub records : (a : Axis) (items : List ℕ) (i : ℕ) → record_with (run_of s t calls) a items i ≡ record_after (sheet_axis s a) items i
  -- the source of each record is that of CSS's account of explicit and implicit tracks
  pub sources : (a : Axis) (items : List ℕ) → tracks_in (tracks_after (sheet_axis s a)) ≤ length items → (i : ℕ) → i < records_in (tracks_after (sheet_axis s a))
      → RecordSource (tracks_after (sheet_axis s a)) (components_of (counted (sheet_axis s a))) i (record_with (run_of s t calls) a items i).track.source
  -- a lent run of records after the call that fills it, and what that call answers
  pub lent : (a : Axis) (items : List ℕ) (run : List GridTrack) → run_with (run_of s t calls) a items run
      ≡ run_after (tracks_after (sheet_axis s a)) (components_of (counted (sheet_axis s a))) (map sizes_of (sheet_axis s a).spares) items run
  pub filled : (a : Axis) (items : List ℕ) (run : List GridTrack) → fill_with (run_of s t calls) a items run
      ≡ fill_answer_of (tracks_after (sheet_axis s a)) (length run) (length items)
  -- the sheet's own marks are enough item bytes
  pub marks : (a : Axis) → tracks_in (tracks_after (sheet_axis s a)) ≤ length (marks_of (run_of s t calls).tables a)

-- ==== demand 3

-- an axis of whose template, as far as it counts, each repeat is written out and at most 10,000 tracks: the entries held are the book's, an entry is
-- refused exactly as the book refuses it, and "the track after each template line but the last is the one written there, or collapsed as CSS has it"
pub record TemplateTheorem (m : CssTemplate) (s : List ℕ) (t : Tables) (calls : List Call) (a : Axis) : Type 0 where
  pub entries : book_in (run_of s t calls).panel.grid (names_of (run_of s t calls).tables) a ≡ book m (sheet_of s).view a calls
  pub refusals : (line : ℕ) (name : Bytes) → refusal_in (run_of s t calls) (record { axis = a; line = line; name = name })
      ≡ refusal_of (table_refusal (length (book m (sheet_of s).view a calls)) (book_bytes m (sheet_of s).view a calls) line name)
  -- record 2(k + j) - 1, k the negative tracks, is track j as written out, or collapsed exactly where `fit` wrote it and it holds no item
  pub tracks : (items : List ℕ) → tracks_in (tracks_after (sheet_axis s a)) ≤ length items
      → (j : ℕ) → 1 ≤ j → j ≤ sheet_tracks m
      → ((record_with (run_of s t calls) a items (2 * ((sheet_axis s a).negative + j) - 1)).refusal ≡ no_refusal)
      × Stands (get_or (written_out (components_of m.template) m.repetitions) (j - 1) no_track) (get_or items ((sheet_axis s a).negative + j - 1) 0)
      (record_with (run_of s t calls) a items (2 * ((sheet_axis s a).negative + j) - 1)).track
  -- the same of a lent run that the call fills
  pub lent : (items : List ℕ) (run : List GridTrack) → tracks_in (tracks_after (sheet_axis s a)) ≤ length items → records_in (tracks_after (sheet_axis s a)) ≤ length run
      → (j : ℕ) → 1 ≤ j → j ≤ sheet_tracks m
      → Stands (get_or (written_out (components_of m.template) m.repetitions) (j - 1) no_track) (get_or items ((sheet_axis s a).negative + j - 1) 0)
      (get_or (run_with (run_of s t calls) a items run) (2 * ((sheet_axis s a).negative + j) - 1) zero_grid_track)

-- the run theorem: each named line and each named span beside a line is the line that CSS counts to over the book and the areas
pub record RunTheorem (m : Axis → CssTemplate) (s : List ℕ) (t : Tables) (calls : List Call) : Type 0 where
  pub placed : (i : ℕ) → i < length (sheet_of s).view.placements
      → let p = placement_at (sheet_of s).view i in
      PlacedByCss (book_names (m p.axis) (sheet_of s).view p.axis calls) p (placement_of (run_of s t calls) i)
  -- with the marks of CSS's counting
  pub marked : (i : ℕ) → i < length (sheet_of s).view.placements
      → let p = placement_at (sheet_of s).view i in
      CssMarks (book_names (m p.axis) (sheet_of s).view p.axis calls) (css_end p.start) (css_end p.end) (held_marks (placement_of (run_of s t calls) i).held)
  -- and CSS counts to nothing else
  pub only : (i : ℕ) → i < length (sheet_of s).view.placements → (r : ResolvedEnds) (h : HeldEnds)
      → let p = placement_at (sheet_of s).view i in let b = book_names (m p.axis) (sheet_of s).view p.axis calls in
      CssEnds b (css_end p.start) (css_end p.end) r → CssMarks b (css_end p.start) (css_end p.end) h → placement_of (run_of s t calls) i ≡ answer_at p r h

-- both templates of a sheet as they stand, with repetitions for each
abbrev pub both_written : (Axis → ℕ) → List ℕ → Axis → CssTemplate
both_written n s a = as_written (n a) (sheet_axis s a)

pub record ThirdDemand : Type 0 where
  -- for every accepted sheet and every list of entry calls, refused ones included, from any lent contents; an axis under its own template's conditions,
  -- that it is valid among them
  pub templates : (n : ℕ) (s : List ℕ) (t : Tables) (calls : List Call) (a : Axis) → Accepted s t → ValidTemplate (sheet_axis s a).template
      → RegularTemplate (as_written n (sheet_axis s a)) (sheet_axis s a).line → TemplateTheorem (as_written n (sheet_axis s a)) s t calls a
  pub runs : (n : Axis → ℕ) (s : List ℕ) (t : Tables) (calls : List Call) → Accepted s t → AllValid (sheet_of s).view
      → Regular (both_written n s) (sheet_of s).view calls → RunTheorem (both_written n s) s t calls
  -- "with the same accepted entries in any order, resolve every placement alike"
  pub order : (n m : Axis → ℕ) (p q : Run) → Accepted p.sheet p.tables → Accepted q.sheet q.tables
      → AllValid (sheet_of p.sheet).view → AllValid (sheet_of q.sheet).view
      → Regular (both_written n p.sheet) (sheet_of p.sheet).view p.calls → Regular (both_written m q.sheet) (sheet_of q.sheet).view q.calls
      → SamePanel (sheet_of p.sheet).view (sheet_of q.sheet).view
      → SameEntries (both_written n p.sheet) (sheet_of p.sheet).view p.calls (both_written m q.sheet) (sheet_of q.sheet).view q.calls
      → (i : ℕ) → placement_of (run_of p.sheet p.tables p.calls) i ≡ placement_of (run_of q.sheet q.tables q.calls) i
  -- "any two runs that differ in nothing but row names and row template have the same column answers", on every input
  pub columns : (p q : Run) → DifferInRows p q → SameColumns p q

-- the same without the condition that templates are valid, over what CSS takes for each: bench four is covered
pub record WithoutValidity : Type 0 where
  pub templates : (m : CssTemplate) (s : List ℕ) (t : Tables) (calls : List Call) (a : Axis) → Accepted s t → CssCounted (sheet_axis s a).template m.template
      → RegularTemplate m (sheet_axis s a).line → TemplateTheorem m s t calls a
  pub runs : (m : Axis → CssTemplate) (s : List ℕ) (t : Tables) (calls : List Call) → Accepted s t → AllCounted m (sheet_of s).view
      → Regular m (sheet_of s).view calls → RunTheorem m s t calls
  pub order : (n m : Axis → CssTemplate) (p q : Run) → Accepted p.sheet p.tables → Accepted q.sheet q.tables
      → AllCounted n (sheet_of p.sheet).view → AllCounted m (sheet_of q.sheet).view
      → Regular n (sheet_of p.sheet).view p.calls → Regular m (sheet_of q.sheet).view q.calls
      → SamePanel (sheet_of p.sheet).view (sheet_of q.sheet).view
      → SameEntries n (sheet_of p.sheet).view p.calls m (sheet_of q.sheet).view q.calls
      → (i : ℕ) → placement_of (run_of p.sheet p.tables p.calls) i ≡ placement_of (run_of q.sheet q.tables q.calls) i
  -- an invalid template always meets the conditions on it, as the empty one that it counts as
  pub invalid : (n : ℕ) (s : List ℕ) (a : Axis) → (ValidTemplate (sheet_axis s a).template → ⊥) → RegularTemplate (record { template = []; repetitions = n }) (sheet_axis s a).line
  -- and every answer is that of the same panel with an empty one, as far as the same entries are accepted
  pub empty : (a : Axis) (p q : Run) → InvalidBesideEmpty a p q → SameAnswers p q
