-- "Any two runs that differ in nothing but row names and row template have the same column answers": the theorem. Assumes nothing.
use Prim.Native.Nat.{ℕ}
use mathlib.Core.Path.{◌≡◌, sym, ap, ap₂, ◌∙◌}
use mathlib.Core.List.{List, []}
use mathlib.Core.Bool.{false}
use lib.ListN.{length}
use Rattle.coordinates.specs.declared.axis.Axis.{Axis}
use Rattle.coordinates.specs.declared.axis.Axis.TheVariants.{Column, Row}
use Rattle.coordinates.specs.Refusals.{refusal_of}
use Rattle.name_rules.specs.Css.{Entry}
use Rattle.track_rules.specs.declared.GridTrack.{GridTrack}
use Rattle.axis_tables.specs.View.{AxisView, axis_bytes}
use Rattle.panel_tables.specs.View.{PanelView}
use Rattle.panel_tables.specs.Axes.{state_in}
use Rattle.sheet_rules.specs.Panels.{entry_words}
use Rattle.sheet_rules.specs.Read.{short_stores}
use Rattle.sheet_rules.specs.Sheet.{sheet_of}
use Rattle.panel_rules.specs.Placing.{PlacementAnswer}
use Rattle.panel_rules.specs.Runs.{Held, Call, refusal_in, sheet_held, marks_of, size_of, placement_of, lists_of, name_of, record_with, run_with, fill_with}
use Rattle.panel_rules.specs.Views.{held_after, name_after, placement_after}
use Rattle.panel_rules.specs.Book.{added_from}
use Rattle.panel_rules.specs.Added.{sheet_axis, added, refusal_after}
use Rattle.panel_rules.specs.Alone.{column_calls, column_refusals, Run, held_by, AcceptedRun, DifferInRows, SameColumns}
use Rattle.panel_rules.proofs.Sheets.{accepted_sheet, sheet_held_lem}
use Rattle.panel_rules.proofs.Held.{added_fit, run-held, run_refusal_lem}
use Rattle.panel_rules.proofs.Runs.{run-names, run-placements}
use Rattle.panel_rules.proofs.Alone.{columns_view, columns_added}
use Rattle.panel_rules.proofs.ColumnCalls.{refusals_after, columns_refusals}
use Rattle.panel_rules.proofs.ColumnAnswers.{state-same, size_same, lists-same, records-same, run-same, fill-same, marks-same, names_same, axes-same, placements-same}

-- ---- one run: its answers over the view of its sheet and the entries that its calls add
module _ (r : Run) (ok : AcceptedRun r) where
  abbrev s : List ℕ
  s = r.sheet

  abbrev view : PanelView
  view = (sheet_of s).view

  abbrev entries : Axis → List Entry
  entries a = added s a r.calls

  no_fault : (sheet_of s).fault ≡ 0
  no_fault = (accepted_sheet s r.tables ok).0

  long : short_stores r.tables ≡ false
  long = (accepted_sheet s r.tables ok).1

  held-run : held_by r ≡ held_after view r.tables (entries Column) (entries Row)
  held-run = run-held s r.tables r.calls ok

  name-run : (line place : ℕ) → name_of (held_by r) Column line place ≡ name_after view.columns (entries Column) line place
  name-run line place = run-names s r.tables r.calls ok Column line place

  placement-run : (i : ℕ) → placement_of (held_by r) i ≡ placement_after view entries i
  placement-run i = run-placements s r.tables r.calls ok i

  refusals-run : column_refusals (sheet_held s r.tables) r.calls ≡ refusals_after view.columns [] (column_calls r.calls)
  unfolding added_from
  refusals-run =
      ap (λ (h : Held). column_refusals h r.calls) (sheet_held_lem s r.tables ok)
      ∙ columns_refusals view r.tables r.calls long (added_fit s no_fault Column []) (added_fit s no_fault Row [])

-- ---- two runs
module _ (p q : Run) (d : DifferInRows p q) where
  abbrev v : PanelView
  v = view p d.first

  abbrev u : PanelView
  u = view q d.second

  abbrev c : Axis → List Entry
  c = entries p d.first

  abbrev e : Axis → List Entry
  e = entries q d.second

  same-views : (v.columns ≡ u.columns) × (v.areas ≡ u.areas) × (v.placements ≡ u.placements)
  same-views = columns_view p.sheet q.sheet (no_fault p d.first) (no_fault q d.second) d.lines

  columns : v.columns ≡ u.columns
  columns = same-views.0

  same_entries : c Column ≡ e Column
  same_entries =
      ap (λ (x : AxisView). added_from (length (entry_words x)) (length (axis_bytes x)) Column p.calls) columns
      ∙ columns_added (length (entry_words u.columns)) (length (axis_bytes u.columns)) p.calls q.calls d.calls

  -- an answer that is the same over what is held in closed form
  over : {A : Type 0} (answer : Held → A)
      → answer (held_after v p.tables (c Column) (c Row)) ≡ answer (held_after u q.tables (e Column) (e Row)) → answer (held_by p) ≡ answer (held_by q)
  over answer z = ap answer (held-run p d.first) ∙ z ∙ sym (ap answer (held-run q d.second))

  state : state_in (held_by p).panel Column ≡ state_in (held_by q).panel Column
  state = over (λ h. state_in h.panel Column) (state-same v u p.tables q.tables (c Column) (e Column) (c Row) (e Row) columns same_entries)

  size : size_of (held_by p) Column ≡ size_of (held_by q) Column
  size = over (λ h. size_of h Column) (size_same v u p.tables q.tables (c Column) (e Column) (c Row) (e Row) columns same_entries)

  lists : lists_of (held_by p) Column ≡ lists_of (held_by q) Column
  lists = over (λ h. lists_of h Column) (lists-same v u p.tables q.tables (c Column) (e Column) (c Row) (e Row) columns same_entries)

  names : (line place : ℕ) → name_of (held_by p) Column line place ≡ name_of (held_by q) Column line place
  names line place =
      name-run p d.first line place
      ∙ names_same v.columns u.columns (c Column) (e Column) columns same_entries line place
      ∙ sym (name-run q d.second line place)

  records : (items : List ℕ) (index : ℕ) → record_with (held_by p) Column items index ≡ record_with (held_by q) Column items index
  records items index =
      over (λ h. record_with h Column items index) (records-same v u p.tables q.tables (c Column) (e Column) (c Row) (e Row) columns same_entries items index)

  lent : (items : List ℕ) (run : List GridTrack) → run_with (held_by p) Column items run ≡ run_with (held_by q) Column items run
  lent items run = over (λ h. run_with h Column items run) (run-same v u p.tables q.tables (c Column) (e Column) (c Row) (e Row) columns same_entries items run)

  filled : (items : List ℕ) (run : List GridTrack) → fill_with (held_by p) Column items run ≡ fill_with (held_by q) Column items run
  filled items run = over (λ h. fill_with h Column items run) (fill-same v u p.tables q.tables (c Column) (e Column) (c Row) (e Row) columns same_entries items run)

  marks : marks_of (held_by p).tables Column ≡ marks_of (held_by q).tables Column
  marks = over (λ h. marks_of h.tables Column) (marks-same v u p.tables q.tables (c Column) (e Column) (c Row) (e Row) columns same_entries)

  -- a placement, over the views
  abbrev here : ℕ → PlacementAnswer
  here i = placement_after v c i

  abbrev there : ℕ → PlacementAnswer
  there i = placement_after u e i

  axes : (i : ℕ) → (placement_of (held_by p) i).axis ≡ (placement_of (held_by q) i).axis
  axes i =
      ap (λ (x : PlacementAnswer). x.axis) (placement-run p d.first i)
      ∙ axes-same v u c e same-views.2 i
      ∙ sym (ap (λ (x : PlacementAnswer). x.axis) (placement-run q d.second i))

  placements : (i : ℕ) → (placement_of (held_by p) i).axis ≡ Column → placement_of (held_by p) i ≡ placement_of (held_by q) i
  placements i z =
      let x : placement_of (held_by p) i ≡ here i = placement-run p d.first i in
      let y : placement_of (held_by q) i ≡ there i = placement-run q d.second i in
      x
      ∙ placements-same v u c e same-views.2 i columns same-views.1 same_entries
      (sym (ap (λ (w : PlacementAnswer). w.axis) x) ∙ z)
      ∙ sym y

  refusals : column_refusals (sheet_held p.sheet p.tables) p.calls ≡ column_refusals (sheet_held q.sheet q.tables) q.calls
  refusals =
      refusals-run p d.first
      ∙ ap₂ (λ (x : AxisView) (cs : List Call). refusals_after x [] cs) columns d.calls
      ∙ sym (refusals-run q d.second)

  refusal : (k : Call) → k.axis ≡ Column → refusal_in (held_by p) k ≡ refusal_in (held_by q) k
  refusal k z =
      on-columns p d.first
      ∙ ap₂ (λ (x : AxisView) (es : List Entry). refusal_of (refusal_after x es k)) columns same_entries
      ∙ sym (on-columns q d.second)
    where
      on-columns : (r : Run) (ok : AcceptedRun r) → refusal_in (held_by r) k ≡ refusal_of (refusal_after (view r ok).columns (entries r ok Column) k)
      on-columns r ok =
          run_refusal_lem r.sheet r.tables r.calls k ok
          ∙ ap (λ (a : Axis). refusal_of (refusal_after (sheet_axis r.sheet a) (added r.sheet a r.calls) k)) z

-- any two runs that differ in nothing but row names and row template have the same column answers
pub columns_alone : (p q : Run) → DifferInRows p q → SameColumns p q
columns_alone p q d =
    record {
      state = state p q d;
      size = size p q d;
      lists = lists p q d;
      names = names p q d;
      axes = axes p q d;
      placements = placements p q d;
      records = records p q d;
      marks = marks p q d;
      marked = λ index. ap (λ (items : List ℕ). record_with (held_by p) Column items index) (marks p q d) ∙ records p q d (marks_of (held_by q).tables Column) index;
      lent = lent p q d;
      filled = filled p q d;
      refusals = refusals p q d;
      refusal = refusal p q d;
    }
