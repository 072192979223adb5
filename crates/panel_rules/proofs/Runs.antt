-- After an accepted sheet and any entry calls each call answers by the sheet's view and the entries that the table accepts. Assumes nothing.
use Prim.Native.Nat.{ℕ, ◌≤◌}
use mathlib.Core.Path.{◌≡◌, refl, sym, ap, ◌∙◌}
use mathlib.Core.List.{List, [], ◌++◌, map, append_assoc}
use native.Mathlib.Omega.{arith}
use lib.ListN.{length, take, drop, length-map}
use lib.Seq.{take_at}
use Rattle.coordinates.specs.declared.axis.Axis.{Axis}
use Rattle.coordinates.specs.declared.axis.Axis.TheVariants.{Column, Row}
use Rattle.name_rules.specs.Css.{Entry}
use Rattle.name_entries.specs.Entries.{entry_of, named_entry}
use Rattle.name_entries.specs.Entries as Store
use Rattle.name_entries.specs.LineNames.{of_axis}
use Rattle.track_rules.specs.declared.GridTrack.{GridTrack}
use Rattle.sizing.proofs.Words.{sizing_in_range_lem}
use Rattle.track_rules.specs.Records.{tracks_in, axis_refusal}
use Rattle.track_rules.proofs.Answers.{axis_unrefused}
use Rattle.track_run.specs.Run.{fill_answer_of, run_after}
use Rattle.axis_tables.specs.Runs.{bytes_of}
use Rattle.axis_tables.specs.View.{AxisView, sizes_of, components_of, axis_bytes}
use Rattle.axis_tables.proofs.Fits.{Fits}
use Rattle.panel_tables.specs.View.{PanelView}
use Rattle.panel_tables.specs.Axes.{grid_in, room_in}
use Rattle.panel_tables.proofs.Axes.{axis_in_fits}
use Rattle.sheet_rules.specs.Sheet.{counted, explicit_of, entries_of, sheet_of}
use Rattle.sheet_rules.specs.Panels.{Tables, entry_words}
use Rattle.sheet_rules.proofs.Fits.{sheet_fits}
use Rattle.sheet_end.proofs.Entries.{entries_read}
use Rattle.panel_rules.specs.Calls.{words_in, store_in, book_in, template_in}
use Rattle.panel_rules.specs.Runs.{Held, names_of, Call, Accepted, run_of, marks_of, size_of, placement_of, lists_of, name_of, record_with, run_with, fill_with}
use Rattle.panel_rules.specs.Views.{entry_name, bytes_after, store_after, state_after, entries_after, placement_at, placement_after, size_after, lists_after, name_after, tracks_after, record_after, held_after, both}
use Rattle.panel_rules.specs.Added.{sheet_axis, added}
use Rattle.panel_rules.proofs.Ends.{sheet_end, no_fault}
use Rattle.panel_rules.proofs.Sheets.{accepted_sheet}
use Rattle.panel_rules.proofs.Held.{added_fit, run-held, both-added}
use Rattle.panel_rules.proofs.Invariants.{sheet_range}
use Rattle.panel_rules.proofs.AxisBack.{explicit_few}
use Rattle.panel_rules.proofs.Answers as Answers
use Rattle.panel_rules.proofs.Run.{added_to}

-- an axis of a sheet fits its tables
pub axis_fits : (s : List ℕ) (a : Axis) → Fits (sheet_axis s a)
axis_fits s a = axis_in_fits (sheet_of s).view a (sheet_fits s)

-- as many entries as words
pub words_entries : (s : List ℕ) → (sheet_of s).fault ≡ 0 → (a : Axis) → length (entry_words (sheet_axis s a)) ≡ length (entries_of (sheet_axis s a))
unfolding Store.entries_of
words_entries s z a =
    let v : AxisView = sheet_axis s a in
    sym (length-map (entry_words v) (λ (w : ℕ). named_entry (axis_bytes v ++ []) (entry_of w)))
    ∙ ap length (entries_read v (axis_fits s a) (no_fault (sheet_of s).view (sheet_end s z) a) [])

-- so what the calls add is counted from the sheet's entries on
pub added_to_lem : (s : List ℕ) → (sheet_of s).fault ≡ 0 → (calls : List Call) (a : Axis) → added s a calls ≡ added_to (sheet_of s).view calls a
added_to_lem s z calls a = rw (words_entries s z a)

-- at most 10,000 explicit tracks
pub few-tracks : (s : List ℕ) → (sheet_of s).fault ≡ 0 → (a : Axis) → explicit_of (sheet_axis s a) ≤ 10000
few-tracks s z a = explicit_few (sheet_axis s a) (no_fault (sheet_of s).view (sheet_end s z) a)

module _ (s : List ℕ) (t : Tables) (calls : List Call) (ok : Accepted s t) where
  abbrev v : PanelView
  v = (sheet_of s).view

  abbrev columns : List Entry
  columns = added s Column calls

  abbrev rows : List Entry
  rows = added s Row calls

  good : (sheet_of s).fault ≡ 0
  good = (accepted_sheet s t ok).0

  -- an answer on what is held, in closed form
  of-closed : {A : Type 0} (answer : Held → A) → answer (run_of s t calls) ≡ answer (held_after v t columns rows)
  of-closed answer = ap answer (run-held s t calls ok)

  pub run-entries : (a : Axis) → book_in (run_of s t calls).panel.grid (names_of (run_of s t calls).tables) a ≡ entries_after (sheet_axis s a) (added s a calls)
  run-entries a =
      of-closed (λ h. book_in h.panel.grid (names_of h.tables) a)
      ∙ Answers.entries-after v (sheet_fits s) (sheet_range s) (sheet_end s good) t (accepted_sheet s t ok).1 columns rows (added_fit s good Column calls) (added_fit s good Row calls) a
      ∙ ap (entries_after (sheet_axis s a)) (both-added s calls a)

  pub run-sizes : (a : Axis) → size_of (run_of s t calls) a ≡ size_after (sheet_axis s a)
  run-sizes a =
      of-closed (λ h. size_of h a)
      ∙ Answers.size-after v (sheet_fits s) (sheet_range s) (sheet_end s good) t (accepted_sheet s t ok).1 columns rows (added_fit s good Column calls) (added_fit s good Row calls) a

  pub run-lists : (a : Axis) → lists_of (run_of s t calls) a ≡ lists_after (sheet_axis s a) (added s a calls)
  run-lists a =
      of-closed (λ h. lists_of h a)
      ∙ Answers.lists-after v (sheet_fits s) (sheet_range s) (sheet_end s good) t (accepted_sheet s t ok).1 columns rows (added_fit s good Column calls) (added_fit s good Row calls) a
      ∙ ap (lists_after (sheet_axis s a)) (both-added s calls a)

  pub run-names : (a : Axis) (line place : ℕ) → name_of (run_of s t calls) a line place ≡ name_after (sheet_axis s a) (added s a calls) line place
  run-names a line place =
      of-closed (λ h. name_of h a line place)
      ∙ Answers.name-after v (sheet_fits s) (sheet_range s) (sheet_end s good) t (accepted_sheet s t ok).1 columns rows (added_fit s good Column calls) (added_fit s good Row calls) a line place
      ∙ ap (λ (es : List Entry). name_after (sheet_axis s a) es line place) (both-added s calls a)

  pub run-records : (a : Axis) (items : List ℕ) (i : ℕ) → record_with (run_of s t calls) a items i ≡ record_after (sheet_axis s a) items i
  run-records a items i =
      of-closed (λ h. record_with h a items i)
      ∙ Answers.record-after v (sheet_fits s) (sheet_range s) (sheet_end s good) t (accepted_sheet s t ok).1 columns rows (added_fit s good Column calls) (added_fit s good Row calls) a items i

  same_entries : (i : ℕ) → placement_after v (both columns rows) i ≡ placement_after v (λ a. added s a calls) i
  unfolding placement_after
  same_entries i = rw (both-added s calls (placement_at v i).axis)

  pub run-placements : (i : ℕ) → placement_of (run_of s t calls) i ≡ placement_after v (λ a. added s a calls) i
  run-placements i =
      of-closed (λ h. placement_of h i)
      ∙ Answers.placement-after v (sheet_fits s) (sheet_range s) (sheet_end s good) t (accepted_sheet s t ok).1 columns rows (added_fit s good Column calls) (added_fit s good Row calls) i
      ∙ same_entries i

  -- what counts as the template, as every later call reads it
  pub run-template : (a : Axis) → template_in (grid_in (run_of s t calls).panel.grid a) (words_in (names_of (run_of s t calls).tables) a) ≡ components_of (counted (sheet_axis s a))
  run-template a =
      of-closed (λ h. template_in (grid_in h.panel.grid a) (words_in (names_of h.tables) a))
      ∙ Answers.template-after v (sheet_fits s) (sheet_range s) (sheet_end s good) t (accepted_sheet s t ok).1 columns rows (added_fit s good Column calls) (added_fit s good Row calls) a

  -- the bytes used, and the store: those of the `name` records, then those of the accepted entries
  pub run-used : (a : Axis) → (room_in (run_of s t calls).panel.room a).used ≡ length (bytes_after (sheet_axis s a) (added s a calls))
  unfolding held_after state_after
  run-used Column = of-closed (λ h. (room_in h.panel.room Column).used)
  run-used Row = of-closed (λ h. (room_in h.panel.room Row).used)

  pub run_store : (a : Axis) → store_in (names_of (run_of s t calls).tables) a ≡ store_after (sheet_axis s a) (added s a calls) (of_axis a t.column_store t.row_store)
  unfolding held_after
  run_store Column = of-closed (λ h. store_in (names_of h.tables) Column)
  run_store Row = of-closed (λ h. store_in (names_of h.tables) Row)

  -- so a store begins with the bytes of its axis's `name` records, whatever the template counts as
  pub run-bytes : (a : Axis) → take (length (axis_bytes (sheet_axis s a))) (store_in (names_of (run_of s t calls).tables) a) ≡ axis_bytes (sheet_axis s a)
  unfolding store_after
  run-bytes a =
      let b = axis_bytes (sheet_axis s a) in
      let more = bytes_of entry_name (added s a calls) in
      let rest = drop (length (b ++ more)) (of_axis a t.column_store t.row_store) in
      ap (take (length b)) (run_store a ∙ append_assoc b more rest) ∙ take_at b (more ++ rest) (length b) refl

  -- the marks are the sheet's
  pub run-marks : (a : Axis) → marks_of (run_of s t calls).tables a ≡ (sheet_axis s a).marks
  unfolding held_after
  run-marks Column = of-closed (λ h. marks_of h.tables Column)
  run-marks Row = of-closed (λ h. marks_of h.tables Row)

  -- of a lent run of records
  pub run-filled : (a : Axis) (items : List ℕ) (run : List GridTrack)
      → run_with (run_of s t calls) a items run ≡ run_after (tracks_after (sheet_axis s a)) (components_of (counted (sheet_axis s a))) (map sizes_of (sheet_axis s a).spares) items run
  run-filled a items run =
      of-closed (λ h. run_with h a items run)
      ∙ rw (
        Answers.tracks-after v (sheet_fits s) (sheet_range s) (sheet_end s good) t (accepted_sheet s t ok).1 columns rows (added_fit s good Column calls) (added_fit s good Row calls) a,
        Answers.template-after v (sheet_fits s) (sheet_range s) (sheet_end s good) t (accepted_sheet s t ok).1 columns rows (added_fit s good Column calls) (added_fit s good Row calls) a,
        Answers.spares-after v (sheet_fits s) (sheet_range s) (sheet_end s good) t (accepted_sheet s t ok).1 columns rows (added_fit s good Column calls) (added_fit s good Row calls) a,
      )

  -- and of the call that fills it
  pub run-fill : (a : Axis) (items : List ℕ) (run : List GridTrack)
      → fill_with (run_of s t calls) a items run ≡ fill_answer_of (tracks_after (sheet_axis s a)) (length run) (length items)
  run-fill a items run =
      of-closed (λ h. fill_with h a items run)
      ∙ rw (Answers.tracks-after v (sheet_fits s) (sheet_range s) (sheet_end s good) t (accepted_sheet s t ok).1 columns rows (added_fit s good Column calls) (added_fit s good Row calls) a)

-- the sheet's marks are enough for all tracks
pub marks_enough : (s : List ℕ) → (sheet_of s).fault ≡ 0 → (a : Axis) → tracks_in (tracks_after (sheet_axis s a)) ≤ length (sheet_axis s a).marks
marks_enough s z a =
    let r = (sheet_range s).axes a in
    omega (arith, r.negative, r.positive, r.marks, few-tracks s z a)

-- and layer 5 does not refuse an axis of an accepted sheet
pub run_axis : (s : List ℕ) → (sheet_of s).fault ≡ 0 → (a : Axis) → axis_refusal (tracks_after (sheet_axis s a)) ≡ 0
run_axis s z a =
    let r = (sheet_range s).axes a in
    axis_unrefused (tracks_after (sheet_axis s a)) (sizing_in_range_lem (sheet_axis s a).line.gap) r.negative (few-tracks s z a) r.positive
