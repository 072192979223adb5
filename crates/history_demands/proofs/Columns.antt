-- Two histories that differ in row names and row template alone have the same column answers. Assumes nothing.
use Prim.Native.Nat.{ℕ}
use mathlib.Core.Path.{◌≡◌, refl, sym, ap, ap₂, ◌∙◌}
use mathlib.Core.List.{List, [], ◌∷◌, ◌++◌, map, append_assoc}
use mathlib.Core.Bool.{Bool, true, false, cond}
use native.Mathlib.Omega.{arith}
use lib.Dec.{eqb, leb}
use lib.ListN.{length}
use borrow.Author.Tests.{eqb-true, eqb-false}
use Rattle.coordinates.specs.declared.axis.Axis.{Axis}
use Rattle.coordinates.specs.declared.axis.Axis.TheVariants.{Column, Row}
use Rattle.coordinates.specs.Refusals.{refusal_of}
use Rattle.name_rules.specs.Css.{Entry}
use Rattle.track_run.specs.Run.{fill_answer_of, run_after}
use Rattle.sheet_forms.specs.Said.{Record}
use Rattle.sheet_forms.specs.Said.{Fault, Axis as AxisLine, Area as AreaLine, Name, Track, Repeat, End as EndLine, Spare, Extra, Item, Place, PictureRow, Cell}
use Rattle.sheet_forms.specs.Words.{at}
use Rattle.sheet_forms.specs.Records.{record_of}
use Rattle.axis_tables.specs.View.{AxisView, AxisOutcome, sizes_of, components_of, track_step, repeat_step, end_step, name_step, spare_step, item_step, extra_step, axis_step}
use Rattle.panel_tables.specs.View.{Area, Placement, PanelView, refused, accepted, raised, ends_fault, lower, items, limited_step, place_step, half, cell_step}
use Rattle.panel_tables.specs.Axes.{state_in, view_in, step_in}
use Rattle.sheet_rules.specs.Contents.{Line}
use Rattle.sheet_rules.specs.Lines.{bit, late_at, edges_of, placed_end, record_step, line_step}
use Rattle.sheet_rules.specs.Sheet.{counted, sheet_of}
use Rattle.panel_rules.specs.Placing.{PlacementAnswer}
use Rattle.panel_rules.specs.Runs.{Held, marks_of}
use Rattle.panel_rules.specs.Views.{held_after, size_after, lists_after, name_after, record_after, tracks_after}
use Rattle.panel_rules.specs.Book.{same_axis}
use Rattle.panel_rules.specs.Added.{call_entry, refusal_after}
use Rattle.panel_rules.specs.Alone.{row_template_line}
use Rattle.panel_rules.proofs.Alone.{columns_view}
use Rattle.panel_rules.proofs.Sheets.{accepted_sheet}
use Rattle.panel_rules.proofs.ColumnView.{row_line_lem}
use Rattle.panel_rules.proofs.ColumnAnswers.{state-same, marks-same, axes-same, placements-same}
use Rattle.edit_rules.specs.Edits.{Edit, line, enter, unread}
use Rattle.edit_rules.specs.Replay.{reopened, edit_fault, edit_step, edited_by}
use Rattle.edit_rules.specs.Settled.{calls_of, entered_on, view_by}
use Rattle.edit_rules.proofs.Areas.{area-taken}
use Rattle.edit_rules.proofs.Held.{all-accepted}
use Rattle.edit_rules.proofs.Taken.{line_clean}
use Rattle.sheet_rules.proofs.Pictures.{CleanLine, clean_line}
use Rattle.history_demands.specs.Acts.{HistoryRun, AcceptedRun, reached_by, past_edits}
use Rattle.history_demands.specs.Answers.{view_at, entries_at, held_at, Answers}
use Rattle.history_demands.specs.Columns.{column_edits, DifferInRows, SameColumns, HistoryColumns}
use Rattle.history_demands.proofs.Answers.{accepted-at, closed-at, given-at, answers-at}

-- ---- what column answers see of a view

record Columns : Type 0 where
  pub axis : AxisView
  pub areas : List Area
  pub placements : List Placement

abbrev seen : PanelView → Columns
seen v = record { axis = v.columns; areas = v.areas; placements = v.placements }

abbrev on_columns : Columns → Axis → AxisOutcome → Columns
on_columns x Column o = record { axis = o.axis; areas = x.areas; placements = x.placements }
on_columns x Row o = x

abbrev placed : Columns → List Placement → Columns
placed x ps = record { axis = x.axis; areas = x.areas; placements = x.placements ++ ps }

-- what an accepted record makes of it
effect : Columns → Line → Record → Columns
effect x fs (Fault n) = x
effect x fs (AxisLine a) = on_columns x a.axis (axis_step x.axis (bit a.definite) a.inner a.rule a.gap)
effect x fs (AreaLine a) =
    record { axis = raised x.axis a.columnend; areas = x.areas ++ (record { name = at fs 1; edges = edges_of a } ∷ []); placements = x.placements }
effect x fs (Name a) = on_columns x a (name_step x.axis (at fs 2))
effect x fs (Track a min max) = on_columns x a (track_step x.axis min max)
effect x fs (Repeat a n) = on_columns x a (repeat_step x.axis n.kind n.number)
effect x fs (EndLine a) = on_columns x a (end_step x.axis)
effect x fs (Spare a min max) = on_columns x a (spare_step x.axis min max)
effect x fs (Extra a m n) = on_columns x a (extra_step x.axis m n)
effect x fs (Item a i) = on_columns x a (item_step x.axis i)
effect x fs (Place a s e) = placed x (record { axis = a; cell = false; start = placed_end (at fs 3) s; end = placed_end (at fs 6) e } ∷ [])
effect x fs (Cell cs ce rs re) =
    placed x (half Column (placed_end (at fs 2) cs) (placed_end (at fs 5) ce) ∷ (half Row (placed_end (at fs 8) rs) (placed_end (at fs 11) re) ∷ []))
effect x fs (PictureRow n) = x

axis-seen : (v : PanelView) (a : Axis) (step : AxisView → AxisOutcome) → seen (step_in v a (step (view_in v a))).panel ≡ on_columns (seen v) a (step v.columns)
axis-seen v Column step = refl
axis-seen v Row step = refl

limited-taken : (v : PanelView) (fault : ℕ) (after : PanelView) → (limited_step v fault after).fault ≡ 0 → (limited_step v fault after).panel ≡ after
unfolding limited_step
limited-taken v fault after = go (eqb fault 0) refl (leb 256 (items v))
  where
    go : (b : Bool) → eqb fault 0 ≡ b → (c : Bool) → (cond b (cond c (refused 8 v) (accepted after)) (refused fault v)).fault ≡ 0
        → (cond b (cond c (refused 8 v) (accepted after)) (refused fault v)).panel ≡ after
    go true e true z = absurd (omega (arith, z))
    go true e false z = refl
    go false e c z = absurd (eqb-false fault 0 e z)

record-seen : (v : PanelView) (fs : Line) (r : Record) → late_at 2 v.stage ≡ true → (record_step v fs r).fault ≡ 0 → seen (record_step v fs r).panel ≡ effect (seen v) fs r
unfolding record_step place_step cell_step effect
record-seen v fs (Fault n) late z = refl
record-seen v fs (AxisLine a) late z = axis-seen v a.axis (λ x. axis_step x (bit a.definite) a.inner a.rule a.gap)
record-seen v fs (AreaLine a) late z = ap seen (area-taken (at fs 1) (edges_of a) v z)
record-seen v fs (Name a) late z = axis-seen v a (λ x. name_step x (at fs 2))
record-seen v fs (Track a min max) late z = axis-seen v a (λ x. track_step x min max)
record-seen v fs (Repeat a n) late z = axis-seen v a (λ x. repeat_step x n.kind n.number)
record-seen v fs (EndLine a) late z = axis-seen v a end_step
record-seen v fs (Spare a min max) late z = axis-seen v a (λ x. spare_step x min max)
record-seen v fs (Extra a m n) late z = axis-seen v a (λ x. extra_step x m n)
record-seen v fs (Item a i) late z = axis-seen v a (λ x. item_step x i)
record-seen v fs (Place a s e) late z = ap seen (limited-taken v (ends_fault (placed_end (at fs 3) s) (placed_end (at fs 6) e)) _ z)
record-seen v fs (Cell cs ce rs re) late z =
    ap seen
    (limited-taken v (lower (ends_fault (placed_end (at fs 2) cs) (placed_end (at fs 5) ce)) (ends_fault (placed_end (at fs 8) rs) (placed_end (at fs 11) re))) _ z)
    ∙ ap (λ (l : List Placement). record { axis = v.columns; areas = v.areas; placements = l }) (append_assoc v.placements (_ ∷ []) (_ ∷ []))
record-seen v fs (PictureRow n) late z = rw late

-- ---- an accepted edit

module _ (v : PanelView) (fs : Line) (z : edit_fault v fs ≡ 0) where
  clean : CleanLine (reopened v) fs (record_of fs)
  clean = clean_line (reopened v) fs (line_clean (reopened v) fs z)

  edit-seen : seen (edit_step v fs).panel ≡ seen (record_step (reopened v) fs (record_of fs)).panel
  unfolding edit_step
  edit-seen = rw z (ap seen clean.panel)

  accepted-seen : seen (edit_step v fs).panel ≡ effect (seen v) fs (record_of fs)
  accepted-seen = edit-seen ∙ record-seen (reopened v) fs (record_of fs) refl clean.step

-- of the row names and the row template nothing is seen
row-seen : (v : PanelView) (fs : Line) → row_template_line fs ≡ true → edit_fault v fs ≡ 0 → seen (edit_step v fs).panel ≡ seen v
row-seen v fs t z = edit-seen v fs z ∙ ap (λ (x : PanelView). seen x) (row_line_lem (reopened v) fs t)

step-none : (v : PanelView) (fs : Line) → (edit_step v fs).fault ≡ 0 → edit_fault v fs ≡ 0
unfolding edit_step
step-none v fs = go (eqb (edit_fault v fs) 0) refl
  where
    go : (b : Bool) → eqb (edit_fault v fs) 0 ≡ b → (cond b (accepted (line_step (reopened v) fs).panel) (refused (edit_fault v fs) v)).fault ≡ 0 → edit_fault v fs ≡ 0
    go true e z = eqb-true (edit_fault v fs) 0 e
    go false e z = z

-- ---- accepted edits one after the other

seen_after : Columns → List Edit → Columns
seen_after x [] = x
seen_after x (line fs ∷ edits) = seen_after (effect x fs (record_of fs)) edits
seen_after x (enter c ∷ edits) = seen_after x edits
seen_after x (unread ∷ edits) = seen_after x edits

edits-seen : (v : PanelView) (edits : List Edit) → (edited_by v edits).fault ≡ 0 → seen (view_by v edits) ≡ seen_after (seen v) (column_edits edits)
unfolding edited_by column_edits seen_after
edits-seen v [] z = refl
edits-seen v (line fs ∷ edits) z = go (eqb (edit_step v fs).fault 0) refl (edits-seen (edit_step v fs).panel edits) z
  where
    by : (t : Bool) → row_template_line fs ≡ t → edit_fault v fs ≡ 0
        → seen_after (seen (edit_step v fs).panel) (column_edits edits) ≡ seen_after (seen v) (cond t (column_edits edits) (line fs ∷ column_edits edits))
    by true t y = ap (λ (x : Columns). seen_after x (column_edits edits)) (row-seen v fs t y)
    by false t y = ap (λ (x : Columns). seen_after x (column_edits edits)) (accepted-seen v fs y)

    go : (b : Bool) → eqb (edit_step v fs).fault 0 ≡ b
        → ((edited_by (edit_step v fs).panel edits).fault ≡ 0 → seen (view_by (edit_step v fs).panel edits) ≡ seen_after (seen (edit_step v fs).panel) (column_edits edits))
        → (cond b (edited_by (edit_step v fs).panel edits) (edit_step v fs)).fault ≡ 0
        → seen (cond b (edited_by (edit_step v fs).panel edits) (edit_step v fs)).panel
        ≡ seen_after (seen v) (cond (row_template_line fs) (column_edits edits) (line fs ∷ column_edits edits))
    go true e i y = i y ∙ by (row_template_line fs) refl (step-none v fs (eqb-true (edit_step v fs).fault 0 e))
    go false e i y = absurd (eqb-false (edit_step v fs).fault 0 e y)
edits-seen v (enter c ∷ edits) z = edits-seen v edits z ∙ go (same_axis Column c.axis)
  where
    go : (b : Bool) → seen_after (seen v) (column_edits edits) ≡ seen_after (seen v) (cond b (enter c ∷ column_edits edits) (column_edits edits))
    go true = refl
    go false = refl
edits-seen v (unread ∷ edits) z = absurd (omega (arith, z))

-- ---- the direct entries

calls-kept : (edits : List Edit) → entered_on Column (calls_of edits) ≡ entered_on Column (calls_of (column_edits edits))
unfolding calls_of entered_on column_edits
calls-kept [] = refl
calls-kept (line fs ∷ edits) = calls-kept edits ∙ go (row_template_line fs)
  where
    go : (b : Bool) → entered_on Column (calls_of (column_edits edits)) ≡ entered_on Column (calls_of (cond b (column_edits edits) (line fs ∷ column_edits edits)))
    go true = refl
    go false = refl
calls-kept (enter c ∷ edits) = go (same_axis Column c.axis) refl (calls-kept edits)
  where
    go : (b : Bool) → same_axis Column c.axis ≡ b → entered_on Column (calls_of edits) ≡ entered_on Column (calls_of (column_edits edits))
        → cond b (call_entry c ∷ entered_on Column (calls_of edits)) (entered_on Column (calls_of edits))
        ≡ entered_on Column (calls_of (cond b (enter c ∷ column_edits edits) (column_edits edits)))
    go true e i = rw e (ap (λ (l : List Entry). call_entry c ∷ l) i)
    go false e i = i
calls-kept (unread ∷ edits) = calls-kept edits

-- ---- two histories

module _ (p q : HistoryRun) (d : DifferInRows p q) where
  abbrev v : PanelView
  v = view_at p

  abbrev u : PanelView
  u = view_at q

  view-seen : (r : HistoryRun) (ok : AcceptedRun r) → seen (view_at r) ≡ seen_after (seen (sheet_of r.sheet).view) (column_edits (past_edits (reached_by r).steps))
  view-seen r ok =
      edits-seen (sheet_of r.sheet).view (past_edits (reached_by r).steps)
      (all-accepted (sheet_of r.sheet).view (past_edits (reached_by r).steps) (accepted-at r ok)).lines

  sheets-seen : seen (sheet_of p.sheet).view ≡ seen (sheet_of q.sheet).view
  sheets-seen =
      let k = columns_view p.sheet q.sheet (accepted_sheet p.sheet p.tables d.first).0 (accepted_sheet q.sheet q.tables d.second).0 d.lines in
      rw (k.0, k.1, k.2)

  same-seen : seen v ≡ seen u
  same-seen = view-seen p d.first ∙ ap₂ (λ (x : Columns) (l : List Edit). seen_after x l) sheets-seen d.edits ∙ sym (view-seen q d.second)

  columns : v.columns ≡ u.columns
  columns = ap (λ (x : Columns). x.axis) same-seen

  entries : entries_at p Column ≡ entries_at q Column
  entries =
      calls-kept (past_edits (reached_by p).steps)
      ∙ ap (λ (l : List Edit). entered_on Column (calls_of l)) d.edits
      ∙ sym (calls-kept (past_edits (reached_by q).steps))

  abbrev here : Answers (held_at p) v (entries_at p)
  here = answers-at p d.first

  abbrev there : Answers (held_at q) u (entries_at q)
  there = answers-at q d.second

  -- an answer that is the same over what is held in closed form
  over : {A : Type 0} (answer : Held → A)
      → answer (held_after v (given-at p d.first) (entries_at p Column) (entries_at p Row)) ≡ answer (held_after u (given-at q d.second) (entries_at q Column) (entries_at q Row))
      → answer (held_at p) ≡ answer (held_at q)
  over answer z = ap answer (closed-at p d.first) ∙ z ∙ sym (ap answer (closed-at q d.second))

  -- one that is read off the axis and its entries
  axis-same : {A : Type 0} (answer : AxisView → List Entry → A) → answer v.columns (entries_at p Column) ≡ answer u.columns (entries_at q Column)
  axis-same answer = ap₂ answer columns entries

  pub same_columns : SameColumns (held_at p) (held_at q)
  same_columns =
      record {
        state = over (λ h. state_in h.panel Column) (state-same v u (given-at p d.first) (given-at q d.second) (entries_at p Column) (entries_at q Column) (entries_at p Row) (entries_at q Row) columns entries);
        size = here.sizes Column ∙ axis-same (λ x es. size_after x) ∙ sym (there.sizes Column);
        lists = here.lists Column ∙ axis-same lists_after ∙ sym (there.lists Column);
        names = λ line place. here.names Column line place ∙ axis-same (λ x es. name_after x es line place) ∙ sym (there.names Column line place);
        axes = λ i.
            ap (λ (x : PlacementAnswer). x.axis) (here.placements i)
            ∙ axes-same v u (entries_at p) (entries_at q) (ap (λ (x : Columns). x.placements) same-seen) i
            ∙ sym (ap (λ (x : PlacementAnswer). x.axis) (there.placements i));
        placements = λ i z.
            here.placements i
            ∙ placements-same v u (entries_at p) (entries_at q) (ap (λ (x : Columns). x.placements) same-seen) i columns (ap (λ (x : Columns). x.areas) same-seen) entries
            (sym (ap (λ (x : PlacementAnswer). x.axis) (here.placements i)) ∙ z)
            ∙ sym (there.placements i);
        records = λ items i. here.records Column items i ∙ axis-same (λ x es. record_after x items i) ∙ sym (there.records Column items i);
        marks = over (λ h. marks_of h.tables Column) (marks-same v u (given-at p d.first) (given-at q d.second) (entries_at p Column) (entries_at q Column) (entries_at p Row) (entries_at q Row) columns entries);
        lent = λ items run.
            here.lent Column items run
            ∙ axis-same (λ x es. run_after (tracks_after x) (components_of (counted x)) (map sizes_of x.spares) items run)
            ∙ sym (there.lent Column items run);
        filled = λ items run.
            here.filled Column items run ∙ axis-same (λ x es. fill_answer_of (tracks_after x) (length run) (length items)) ∙ sym (there.filled Column items run);
        refusal = λ c z.
            here.refusals c
            ∙ ap (λ (a : Axis). refusal_of (refusal_after (view_in v a) (entries_at p a) c)) z
            ∙ axis-same (λ x es. refusal_of (refusal_after x es c))
            ∙ sym (ap (λ (a : Axis). refusal_of (refusal_after (view_in u a) (entries_at q a) c)) z)
            ∙ sym (there.refusals c);
      }

pub history_columns : HistoryColumns
history_columns = same_columns
