-- Worked runs, from the bytes of the sheet to the answers after the run: they answer as specs/Worked.antt has it. The conditions of the third demand
-- are met by runs with an automatic repeat, and all but that each template is valid by bench four; two different runs differ in nothing but row names
-- and row template. Assumes nothing.
use Prim.Native.Nat.{ℕ, zero, suc}
use mathlib.Core.Path.{◌≡◌, refl, sym, ap, ap₂, ◌∙◌, subst}
use mathlib.Core.Bool.{Bool, true, false, ◌&&◌}
use native.Mathlib.Omega.{arith}
use mathlib.Core.List.{List, [], ◌∷◌, ◌++◌, map, Memᴰ}
use lib.Ieee.{of_bits, add, sub, mul, div, lt, of_int}
use lib.ListN.{length, get_or}
use borrow.Author.Tests.{eq-eqb}
use Rattle.coordinates.specs.declared.axis.Axis.{Axis}
use Rattle.coordinates.specs.declared.axis.Axis.TheVariants.{Column, Row}
use Rattle.coordinates.specs.declared.line.GenericGridPlacement.TheVariants as Placed
use Rattle.coordinates.specs.Refusals.{count}
use Rattle.name_rules.specs.Css.{Bytes, Entry}
use Rattle.name_rules.specs.Conditions.{SameMembers}
use Rattle.name_rules.specs.Rule.{seek, named?}
use Rattle.name_rules.specs.Template.{repeated, passed, rule_from}
use Rattle.name_resolver.specs.Types.{NonNamedGridPlacement, ResolvedLine}
use Rattle.text.specs.Split.{split, onto, same, index}
use Rattle.text.specs.Whole.{digits_of, natural_of, non_negative, negative, whole_of, count_in, index_in}
use Rattle.text.specs.Hexadecimal.{bits_from, bits_of}
use Rattle.sizing.specs.Ranges.{up_to, minimum_kind, largest_of, value_in_range, length_in_range}
use Rattle.sizing.specs.Words.{float_up_to, sizing_of_kind, sizing_of}
use Rattle.template_rules.specs.Css.{Automatic, no_component}
use Rattle.template_rules.specs.Explicit.{template_size_of}
use Rattle.template_rules.specs.Counts.{outside_count, automatic_count, before_count, automatic_tracks, any_empty, all_fixed, every_fixed}
use Rattle.template_rules.specs.Space.{outside_space, repetition_space}
use Rattle.template_rules.specs.Repetitions.{fitting_of, held_of, repetitions_of}
use Rattle.template_rules.specs.Whole.{floor_of, ceiling_of}
use Rattle.sheet_forms.specs.Faults.{rank_of, first_of}
use Rattle.sheet_forms.specs.Fields.{axis_of, rule_of, count_of, repetition_of, codes, name_fault}
use Rattle.sheet_forms.specs.Sizes.{kind_of, size_of as size_read, inner_of}
use Rattle.sheet_forms.specs.Ends.{end_kind, end_name, end_number, end_within}
use Rattle.sheet_forms.specs.Records.{axis_line, area_line, name_line, sizes_line, repeat_line, end_line, extra_line, item_line, place_line, cell_line, fixed_kind, by_kind, record_of as record_read}
use Rattle.name_entries.specs.Names.{is_name}
use Rattle.std.proofs.lemmas.Bool.{and_parts}
use Rattle.name_entries.specs.LineNames.{shown_after, explicit_line_names}
use Rattle.track_rules.specs.Tracks.{RecordAnswer}
use Rattle.track_rules.specs.Tracks.{refused_record}
use Rattle.track_rules.specs.Written.{written_out}
use Rattle.track_rules.specs.Records.{listed, open_to, all_tracks, records_of, axis_refusal, record_answer_of}
use Rattle.axis_tables.specs.View.{Item, AxisView, components_of, empty_axis, track_step, repeat_step, end_step, name_step, spare_step, item_step, extra_step, axis_step}
use Rattle.panel_tables.specs.View.{PanelView, empty_view, area_step, end_fault as end_own, lower, limited_step, place_step, cell_step}
use Rattle.panel_tables.specs.Axes.{view_in}
use Rattle.panel_cells.specs.Steps.{shares, sharing_from}
use Rattle.sheet_rules.specs.Lines.{record_step, record_fault, strict_fault, line_fault, shared_at, line_step}
use Rattle.sheet_rules.specs.Valid.{ValidTemplate}
use Rattle.sheet_rules.proofs.Counted.{counted-valid}
use Rattle.sheet_rules.specs.Sheet.{size_of as template_size, counted, entries_of, end_fault, ended, run, fold_of, broken_at, broken_from, broken_of, display_of, overlap_from, overlap_of, sheet_of}
use Rattle.sheet_rules.specs.Kinds.{is_kind}
use Rattle.sheet_rules.specs.Contents.{drawn_in}
use Rattle.sheet_rules.proofs.Chosen.{accepted_former}
use Rattle.sheet_rules.specs.Panels.{Tables}
use Rattle.sheet_rules.specs.Read.{SheetRead, short_stores, read_by}
use Rattle.panel_rules.specs.Placing.{PlacementAnswer}
use Rattle.axis_tables.specs.declared.AxisSize.{AxisSize}
use Rattle.panel_rules.specs.Placing.{refused_placement}
use Rattle.panel_rules.specs.Runs.{Held, Call, Accepted, run_of, marks_of, size_of, placement_of, name_of, record_of}
use Rattle.panel_rules.specs.Views.{span_of, size_after, lists_after, name_after, record_after, placement_after}
use Rattle.panel_rules.specs.Added.{sheet_axis, found_in, added}
use Rattle.panel_rules.specs.Book.{CssTemplate, as_written, sheet_book, sheet_tracks, table_refusal, added_from, book, AllValid, RegularAxis, Regular}
use Rattle.panel_rules.specs.Order.{SamePanel, SameEntries}
use Rattle.panel_rules.specs.Alone.{row_template_line, without_rows, kept_lines, column_calls, held_by, DifferInRows}
use Rattle.panel_rules.specs.Worked.{AxisWorked, Worked, accepted, AxisAnswers, Answers, view_of, found, Met, MetButValid, run_from, lent, sample_sheet, sample, row_sheet, row_run, other_sheet, other_run, called_sheet, first_order, second_order, named_sheet, named_run, bench_sheet, bench_four, empty_sheet, bench_empty}
use Rattle.panel_rules.specs.Invalid.{emptied, unlined, InvalidBesideEmpty}
use Rattle.panel_rules.proofs.RegularTest.{regular_test, regular-by-test, valid_test, valid_by_test, invalid_by_test, non_zero_test, non_zero_by_test, all_among, all_among_lem}
use Rattle.panel_rules.proofs.Sheets.{read_former}
use Rattle.panel_rules.proofs.Run.{added_to}
use Rattle.panel_rules.proofs.Runs.{added_to_lem, run-sizes, run-lists, run-names, run-records, run-placements, run-marks}

-- ---- from the view of a sheet to the answers after a run

listed_same : {A : Type 0} (f g : ℕ → A) → ((i : ℕ) → f i ≡ g i) → (n : ℕ) → listed f n ≡ listed g n
listed_same f g e zero = refl
listed_same f g e (suc n) = ap₂ (λ l x. l ++ (x ∷ [])) (listed_same f g e n) (e n)

-- what is computed for an axis from the view, the conditions of the third demand included, and what comes out
record AxisComputation : Type 0 where
  size : AxisSize
  lists : ℕ
  names : List (List Bytes)
  records : List RecordAnswer
  regular : Bool

abbrev axis_computed : PanelView → List Call → Axis → AxisWorked → AxisComputation
axis_computed v calls a w =
    record {
      size = size_after (view_in v a);
      lists = lists_after (view_in v a) (added_to v calls a);
      names = listed (λ i. listed (name_after (view_in v a) (added_to v calls a) (suc i)) 2) (length w.names);
      records = listed (record_after (view_in v a) (view_in v a).marks) (suc (length w.records));
      regular = regular_test v a calls;
    }

abbrev axis_expected : AxisWorked → AxisComputation
axis_expected w = record { size = w.size; lists = length w.names; names = w.names; records = map accepted w.records ++ (refused_record count ∷ []); regular = true }

-- and for a run
record Computation : Type 0 where
  fault : ℕ
  columns : AxisComputation
  rows : AxisComputation
  placements : List PlacementAnswer
  non_zero : Bool

abbrev computed : Worked → Computation
computed w =
    record {
      fault = (sheet_of w.sheet).fault;
      columns = axis_computed (view_of w) w.calls Column w.columns;
      rows = axis_computed (view_of w) w.calls Row w.rows;
      placements = listed (placement_after (view_of w) (added_to (view_of w) w.calls)) (suc (length w.placements));
      non_zero = non_zero_test (view_of w).placements;
    }

abbrev expected : Worked → Computation
expected w = record { fault = 0; columns = axis_expected w.columns; rows = axis_expected w.rows; placements = w.placements ++ (refused_placement count ∷ []); non_zero = true }

read_accepted : (s : List ℕ) (t : Tables) → (sheet_of s).fault ≡ 0 → short_stores t ≡ false → Accepted s t
unfolding read_by
read_accepted s t z long =
    let p = accepted_former s z in
    ap (λ (r : SheetRead). r.answer.refusal) (read_former s t p.0) ∙ rw (eq-eqb (display_of s).fault 0 p.1, long)

module _ (w : Worked) (c : computed w ≡ expected w) (t : Tables) (long : short_stores t ≡ false) where
  abbrev s : List ℕ
  s = w.sheet

  abbrev calls : List Call
  calls = w.calls

  abbrev h : Held
  h = run_of s t calls

  good : (sheet_of s).fault ≡ 0
  good = ap (λ (x : Computation). x.fault) c

  ok : Accepted s t
  ok = read_accepted s t good long

  axis-answers : (a : Axis) (e : AxisWorked) → axis_computed (view_of w) calls a e ≡ axis_expected e → AxisAnswers h a e
  axis-answers a e x =
      record {
        sizes = run-sizes s t calls ok a ∙ ap (λ (y : AxisComputation). y.size) x;
        lists = run-lists s t calls ok a ∙ ap (lists_after (sheet_axis s a)) (added_to_lem s good calls a) ∙ ap (λ (y : AxisComputation). y.lists) x;
        names = listed_same _ _ (λ i. listed_same _ _ (λ p. name (suc i) p) 2) (length e.names) ∙ ap (λ (y : AxisComputation). y.names) x;
        records = listed_same _ _ track (suc (length e.records)) ∙ ap (λ (y : AxisComputation). y.records) x;
      }
    where
      name : (line place : ℕ) → name_of h a line place ≡ name_after (sheet_axis s a) (added_to (view_of w) calls a) line place
      name line place = run-names s t calls ok a line place ∙ ap (λ (es : List Entry). name_after (sheet_axis s a) es line place) (added_to_lem s good calls a)

      track : (i : ℕ) → record_of h a i ≡ record_after (sheet_axis s a) (sheet_axis s a).marks i
      track i = run-records s t calls ok a (marks_of h.tables a) i ∙ ap (λ (items : List ℕ). record_after (sheet_axis s a) items i) (run-marks s t calls ok a)

  same-added : (i : ℕ) → placement_after (view_of w) (λ a. added s a calls) i ≡ placement_after (view_of w) (added_to (view_of w) calls) i
  same-added i = ap (λ (es : Axis → List Entry). placement_after (view_of w) es i) (λ j a. added_to_lem s good calls a j)

  answers : Answers w t
  answers =
      record {
        is_accepted = ok;
        columns = axis-answers Column w.columns (ap (λ (x : Computation). x.columns) c);
        rows = axis-answers Row w.rows (ap (λ (x : Computation). x.rows) c);
        placements = listed_same _ _ (λ i. run-placements s t calls ok i ∙ same-added i) (suc (length w.placements)) ∙ ap (λ (x : Computation). x.placements) c;
      }

-- the conditions over what counts as each template
regular : (w : Worked) → computed w ≡ expected w → Regular (λ a. found_in (view_in (view_of w) a)) (view_of w) w.calls
regular w c = record { axes = axes; nonzero = non_zero_by_test (view_of w).placements (ap (λ (x : Computation). x.non_zero) c) }
  where
    axes : (a : Axis) → RegularAxis (found_in (view_in (view_of w) a)) (view_of w) a w.calls
    axes Column = regular-by-test (view_of w) Column w.calls (ap (λ (x : Computation). x.columns.regular) c)
    axes Row = regular-by-test (view_of w) Row w.calls (ap (λ (x : Computation). x.rows.regular) c)

-- where each is valid, it counts as it is written
whole-found : (v : AxisView) → ValidTemplate v.template → found_in v ≡ as_written (template_size v).repetitions v
whole-found v t = ap (λ (is : List Item). record { template = is; repetitions = (template_size v).repetitions }) (counted-valid v t)

-- both templates are valid, by their tests
record ValidIn (w : Worked) : Type 0 where
  columns : valid_test (view_of w).columns.template ≡ true
  rows : valid_test (view_of w).rows.template ≡ true

all_valid : (w : Worked) → ValidIn w → AllValid (view_of w)
all_valid w t Column = valid_by_test (view_of w).columns.template t.columns
all_valid w t Row = valid_by_test (view_of w).rows.template t.rows

-- ---- computed

-- component i of an axis is an automatic repeat
record AutomaticAt (w : Worked) (a : Axis) (i : ℕ) : Type 0 where
  written : Memᴰ (get_or (components_of (view_in (view_of w) a).template) i no_component) (components_of (view_in (view_of w) a).template)
  automatic : Automatic (get_or (components_of (view_in (view_of w) a).template) i no_component)

abbrev entries_in : Worked → Axis → List Entry
entries_in w a = book (found w a) (view_of w) a w.calls

abbrev same_entries : Worked → Worked → Axis → Bool
same_entries w z a = all_among (entries_in w a) (entries_in z a) && all_among (entries_in z a) (entries_in w a)

record All : Type 0 where
  of_sample : computed sample ≡ expected sample
  of_rows : computed row_run ≡ expected row_run
  of_other : computed other_run ≡ expected other_run
  of_first : computed first_order ≡ expected first_order
  of_second : computed second_order ≡ expected second_order
  of_named : computed named_run ≡ expected named_run
  of_bench : computed bench_four ≡ expected bench_four
  of_empty : computed bench_empty ≡ expected bench_empty
  emptied_bench : unlined (view_of bench_empty) ≡ unlined (emptied Column (view_of bench_four))
  -- which templates are valid
  sample_valid : ValidIn sample
  row_valid : ValidIn row_run
  called_valid : ValidIn first_order
  named_valid : ValidIn named_run
  bench_invalid : valid_test (view_of bench_four).columns.template ≡ false
  -- which component is an automatic repeat
  sample_repeat : AutomaticAt sample Column 0
  row_repeat : AutomaticAt row_run Row 1
  first_repeat : AutomaticAt first_order Column 0
  second_repeat : AutomaticAt second_order Column 0
  named_repeat : AutomaticAt named_run Column 0
  -- the entries of two orders are among each other
  column_entries : same_entries first_order second_order Column ≡ true
  row_entries : same_entries first_order second_order Row ≡ true
  named_columns : same_entries first_order named_run Column ≡ true
  named_rows : same_entries first_order named_run Row ≡ true
  -- a name does not change the tracks and repeats
  named_panel : ((view_of first_order).columns.line ≡ (view_of named_run).columns.line)
      × (components_of (view_of first_order).columns.template ≡ components_of (view_of named_run).columns.template)
      × ((view_of first_order).rows ≡ (view_of named_run).rows)
      × ((view_of first_order).areas ≡ (view_of named_run).areas)
      × ((view_of first_order).placements ≡ (view_of named_run).placements)
      × ((view_of first_order).picture ≡ (view_of named_run).picture)

all : All
unfolding sample_sheet sample row_sheet row_run other_sheet other_run called_sheet first_order second_order named_sheet named_run bench_sheet bench_four empty_sheet bench_empty
    split onto same index digits_of natural_of non_negative negative whole_of count_in index_in bits_from bits_of
    up_to minimum_kind largest_of value_in_range length_in_range float_up_to sizing_of_kind sizing_of rank_of first_of axis_of rule_of count_of repetition_of codes name_fault
    kind_of size_read inner_of end_kind end_name end_number end_within axis_line area_line name_line sizes_line repeat_line end_line extra_line item_line place_line cell_line fixed_kind by_kind record_read
    empty_axis track_step repeat_step end_step name_step spare_step item_step extra_step axis_step empty_view area_step end_own lower limited_step place_step cell_step
    template_size_of outside_count automatic_count before_count automatic_tracks any_empty all_fixed every_fixed outside_space repetition_space fitting_of held_of repetitions_of floor_of ceiling_of
    repeated passed rule_from record_step record_fault line_step shares sharing_from strict_fault line_fault shared_at template_size counted entries_of end_fault ended run fold_of broken_at broken_from broken_of is_kind display_of overlap_from overlap_of sheet_of of_bits add sub mul div lt of_int
    sheet_book sheet_tracks table_refusal added_from book is_name
    size_after lists_after name_after record_after placement_after shown_after explicit_line_names written_out open_to all_tracks records_of axis_refusal record_answer_of seek named?
all = record {
  of_sample = refl;
  of_rows = refl;
  of_other = refl;
  of_first = refl;
  of_second = refl;
  of_named = refl;
  of_bench = refl;
  of_empty = refl;
  emptied_bench = refl;
  sample_valid = record { columns = refl; rows = refl };
  row_valid = record { columns = refl; rows = refl };
  called_valid = record { columns = refl; rows = refl };
  named_valid = record { columns = refl; rows = refl };
  bench_invalid = refl;
  sample_repeat = record { written = Memᴰ.head refl; automatic = refl };
  row_repeat = record { written = Memᴰ.tail (Memᴰ.head refl); automatic = refl };
  first_repeat = record { written = Memᴰ.head refl; automatic = refl };
  second_repeat = record { written = Memᴰ.head refl; automatic = refl };
  named_repeat = record { written = Memᴰ.head refl; automatic = refl };
  column_entries = refl;
  row_entries = refl;
  named_columns = refl;
  named_rows = refl;
  named_panel = (refl, refl, refl, refl, refl, refl);
}

-- ---- the answers, from any tables with stores long enough

pub sample-answers : (t : Tables) → short_stores t ≡ false → Answers sample t
sample-answers = answers sample all.of_sample

pub row_answers : (t : Tables) → short_stores t ≡ false → Answers row_run t
row_answers = answers row_run all.of_rows

pub other-answers : (t : Tables) → short_stores t ≡ false → Answers other_run t
other-answers = answers other_run all.of_other

pub first_answers : (t : Tables) → short_stores t ≡ false → Answers first_order t
first_answers = answers first_order all.of_first

pub second-answers : (t : Tables) → short_stores t ≡ false → Answers second_order t
second-answers = answers second_order all.of_second

pub named-answers : (t : Tables) → short_stores t ≡ false → Answers named_run t
named-answers = answers named_run all.of_named

pub bench_answers : (t : Tables) → short_stores t ≡ false → Answers bench_four t
bench_answers = answers bench_four all.of_bench

pub empty_answers : (t : Tables) → short_stores t ≡ false → Answers bench_empty t
empty_answers = answers bench_empty all.of_empty

-- there are such tables
pub lent_long : short_stores lent ≡ false
unfolding lent
lent_long = refl

-- ---- the conditions of the third demand are met by runs with an automatic repeat

met : (w : Worked) (a : Axis) (i : ℕ) → computed w ≡ expected w → ValidIn w → AutomaticAt w a i → Met w a
met w a i c v m =
    record {
      valid = all_valid w v;
      regular = subst (λ (f : Axis → CssTemplate). Regular f (view_of w) w.calls) (λ j b. whole-found (view_in (view_of w) b) (all_valid w v b) j) (regular w c);
      component = get_or (components_of (view_in (view_of w) a).template) i no_component;
      written = m.written;
      automatic = m.automatic;
    }

pub sample-met : Met sample Column
sample-met = met sample Column 0 all.of_sample all.sample_valid all.sample_repeat

pub row_met : Met row_run Row
row_met = met row_run Row 1 all.of_rows all.row_valid all.row_repeat

pub first_met : Met first_order Column
first_met = met first_order Column 0 all.of_first all.called_valid all.first_repeat

second-valid : ValidIn second_order
unfolding first_order second_order
second-valid = record { columns = all.called_valid.columns; rows = all.called_valid.rows }

pub second-met : Met second_order Column
second-met = met second_order Column 0 all.of_second second-valid all.second_repeat

pub named-met : Met named_run Column
named-met = met named_run Column 0 all.of_named all.named_valid all.named_repeat

-- bench four meets all but one

pub bench_met : MetButValid bench_four Column
bench_met = record { invalid = invalid_by_test (view_of bench_four).columns.template all.bench_invalid; regular = regular bench_four all.of_bench }

-- and it stands beside the same panel with an empty template
pub bench_beside : (t u : Tables) → short_stores t ≡ false → short_stores u ≡ false → InvalidBesideEmpty Column (run_from bench_four t) (run_from bench_empty u)
unfolding bench_four bench_empty added_from
bench_beside t u long further =
    record {
      first = (bench_answers t long).is_accepted;
      second = (empty_answers u further).is_accepted;
      invalid = bench_met.invalid;
      panel = all.emptied_bench;
      entries = λ b. refl;
    }

-- the orders are over the same panel, with the same entries

pub orders_panel : SamePanel (view_of first_order) (view_of second_order)
unfolding first_order second_order
orders_panel = record { lines = λ a. refl; components = λ a. refl; areas = λ x. (λ h. h, λ h. h); pictures = λ a. refl; placements = refl }

same_list : {A : Type 0} {l m : List A} → l ≡ m → SameMembers l m
same_list e x = (subst (Memᴰ x) e, subst (Memᴰ x) (sym e))

pub named-panel : SamePanel (view_of first_order) (view_of named_run)
named-panel = record { lines = lines; components = components; areas = same_list all.named_panel.3; pictures = λ a. ap (drawn_in a) all.named_panel.5; placements = all.named_panel.4 }
  where
    lines : (a : Axis) → (view_in (view_of first_order) a).line ≡ (view_in (view_of named_run) a).line
    lines Column = all.named_panel.0
    lines Row = ap (λ (x : AxisView). x.line) all.named_panel.2

    components : (a : Axis) → components_of (view_in (view_of first_order) a).template ≡ components_of (view_in (view_of named_run) a).template
    components Column = all.named_panel.1
    components Row = ap (λ (x : AxisView). components_of x.template) all.named_panel.2

same_runs : (w z : Worked) → same_entries w z Column ≡ true → same_entries w z Row ≡ true → SameEntries (found w) (view_of w) w.calls (found z) (view_of z) z.calls
same_runs w z c r a e =
    let b = and_parts (all_among (entries_in w a) (entries_in z a)) (all_among (entries_in z a) (entries_in w a)) (tested a) in
    (all_among_lem (entries_in w a) (entries_in z a) b.0 e, all_among_lem (entries_in z a) (entries_in w a) b.1 e)
  where
    tested : (a : Axis) → same_entries w z a ≡ true
    tested Column = c
    tested Row = r

pub orders_entries : SameEntries (found first_order) (view_of first_order) first_order.calls (found second_order) (view_of second_order) second_order.calls
orders_entries = same_runs first_order second_order all.column_entries all.row_entries

pub named-entries : SameEntries (found first_order) (view_of first_order) first_order.calls (found named_run) (view_of named_run) named_run.calls
named-entries = same_runs first_order named_run all.named_columns all.named_rows

-- ---- two runs that differ in nothing but row names and row template, and do differ

-- the line that a settled placement starts at, 0 where it starts at none
abbrev starts_at : NonNamedGridPlacement → ℕ
starts_at (Placed.Line g) = span_of g.0
starts_at Placed.Auto = 0
starts_at (Placed.Span n) = 0

abbrev first_line : ResolvedLine → ℕ
first_line l = starts_at l.start

-- the rows of the cell, which is placements 3 and 4 from 0 on
abbrev cell_rows : Held → ResolvedLine
cell_rows h = (placement_of h 4).line

kept-lines : kept_lines row_run.sheet ≡ kept_lines other_run.sheet
unfolding row_run other_run row_sheet other_sheet without_rows row_template_line split onto same
kept-lines = refl

column_calls_lem : column_calls row_run.calls ≡ column_calls other_run.calls
unfolding row_run other_run column_calls
column_calls_lem = refl

module _ (t u : Tables) (long : short_stores t ≡ false) (further : short_stores u ≡ false) where
  pub rows-differ : DifferInRows (run_from row_run t) (run_from other_run u)
  rows-differ = record { first = (row_answers t long).is_accepted; second = (other-answers u further).is_accepted; lines = kept-lines; calls = column_calls_lem }

  -- four rows are not two
  pub not_same : held_by (run_from row_run t) ≡ held_by (run_from other_run u) → ⊥
  unfolding row_run other_run
  not_same e =
      let four : (size_of (held_by (run_from row_run t)) Row).explicit ≡ 4 = ap (λ (x : AxisSize). x.explicit) (row_answers t long).rows.sizes in
      let two : (size_of (held_by (run_from other_run u)) Row).explicit ≡ 2 = ap (λ (x : AxisSize). x.explicit) (other-answers u further).rows.sizes in
      omega (arith, sym four ∙ ap (λ (h : Held). (size_of h Row).explicit) e ∙ two)

  -- nor are a cell's rows from line 3 those from line 5, so that where it lands is no column answer
  pub cell_rows_differ : cell_rows (held_by (run_from row_run t)) ≡ cell_rows (held_by (run_from other_run u)) → ⊥
  unfolding row_run other_run
  cell_rows_differ e =
      let third : first_line (cell_rows (held_by (run_from row_run t))) ≡ 3 = ap (λ (l : List PlacementAnswer). first_line (get_or l 4 (refused_placement count)).line) (row_answers t long).placements in
      let fifth : first_line (cell_rows (held_by (run_from other_run u))) ≡ 5 = ap (λ (l : List PlacementAnswer). first_line (get_or l 4 (refused_placement count)).line) (other-answers u further).placements in
      omega (arith, sym third ∙ ap first_line e ∙ fifth)
