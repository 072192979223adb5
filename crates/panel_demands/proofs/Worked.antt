-- The third demand at the worked runs: they meet its conditions, with automatic repeats, names in different orders, and two row templates; and bench
-- four, whose template is invalid. Assumes nothing.
use Prim.Native.Nat.{ℕ}
use mathlib.Core.Path.{◌≡◌}
use mathlib.Core.Bool.{false}
use Rattle.coordinates.specs.declared.axis.Axis.{Axis}
use Rattle.coordinates.specs.declared.axis.Axis.TheVariants.{Column}
use Rattle.sheet_rules.specs.Panels.{Tables}
use Rattle.sheet_rules.specs.Read.{short_stores}
use Rattle.panel_rules.specs.Runs.{placement_of}
use Rattle.panel_rules.specs.Alone.{held_by, SameColumns}
use Rattle.sheet_rules.proofs.Counted.{counted_css}
use Rattle.panel_rules.specs.Book.{CssTemplate}
use Rattle.panel_rules.specs.Added.{sheet_axis, found_in}
use Rattle.panel_rules.specs.Worked.{repetitions, found, run_from, sample, row_run, other_run, first_order, second_order, named_run, bench_four, bench_empty}
use Rattle.panel_rules.specs.Invalid.{SameAnswers}
use Rattle.panel_rules.proofs.Worked.{sample-answers, row_answers, first_answers, second-answers, named-answers, bench_answers, bench_met, bench_beside, sample-met, row_met, first_met, second-met, named-met, orders_panel, orders_entries, named-panel, named-entries, rows-differ}
use Rattle.panel_demands.specs.Demands.{InvalidTheorem, TemplateTheorem, RunTheorem}
use Rattle.panel_demands.proofs.Demands.{second_demand, third_demand, without_validity}

pub sample-run : (t : Tables) → short_stores t ≡ false → RunTheorem (found sample) sample.sheet t sample.calls
sample-run t long = third_demand.runs (repetitions sample) sample.sheet t sample.calls (sample-answers t long).is_accepted sample-met.valid sample-met.regular

-- each axis under its own template's conditions
pub sample-templates : (t : Tables) → short_stores t ≡ false → (a : Axis) → TemplateTheorem (found sample a) sample.sheet t sample.calls a
sample-templates t long a =
    third_demand.templates (repetitions sample a) sample.sheet t sample.calls a (sample-answers t long).is_accepted (sample-met.valid a) (sample-met.regular.axes a).template

pub row_run_lem : (t : Tables) → short_stores t ≡ false → RunTheorem (found row_run) row_run.sheet t row_run.calls
row_run_lem t long = third_demand.runs (repetitions row_run) row_run.sheet t row_run.calls (row_answers t long).is_accepted row_met.valid row_met.regular

pub row_templates : (t : Tables) → short_stores t ≡ false → (a : Axis) → TemplateTheorem (found row_run a) row_run.sheet t row_run.calls a
row_templates t long a =
    third_demand.templates (repetitions row_run a) row_run.sheet t row_run.calls a (row_answers t long).is_accepted (row_met.valid a) (row_met.regular.axes a).template

-- bench four: its template is invalid, and the run theorem covers it all the same
abbrev bench_counted : Axis → CssTemplate
bench_counted a = found_in (sheet_axis bench_four.sheet a)

pub bench_run : (t : Tables) → short_stores t ≡ false → RunTheorem bench_counted bench_four.sheet t bench_four.calls
bench_run t long =
    without_validity.runs bench_counted bench_four.sheet t bench_four.calls (bench_answers t long).is_accepted
    (λ a. counted_css (sheet_axis bench_four.sheet a)) bench_met.regular

pub bench_templates : (t : Tables) → short_stores t ≡ false → (a : Axis) → TemplateTheorem (bench_counted a) bench_four.sheet t bench_four.calls a
bench_templates t long a =
    without_validity.templates (bench_counted a) bench_four.sheet t bench_four.calls a (bench_answers t long).is_accepted
    (counted_css (sheet_axis bench_four.sheet a)) (bench_met.regular.axes a).template

-- and its template gives nothing
pub bench_nothing : (t : Tables) → short_stores t ≡ false → InvalidTheorem bench_four.sheet t bench_four.calls Column
bench_nothing t long = (second_demand bench_four.sheet t bench_four.calls (bench_answers t long).is_accepted).invalid Column bench_met.invalid

module _ (t u : Tables) (long : short_stores t ≡ false) (further : short_stores u ≡ false) where
  -- every answer of bench four is that of the same panel with an empty template
  pub bench-empty : SameAnswers (run_from bench_four t) (run_from bench_empty u)
  bench-empty = without_validity.empty Column (run_from bench_four t) (run_from bench_empty u) (bench_beside t u long further)

  -- every placement alike, in either order
  pub orders-alike : (i : ℕ) → placement_of (held_by (run_from first_order t)) i ≡ placement_of (held_by (run_from second_order u)) i
  orders-alike =
      third_demand.order (repetitions first_order) (repetitions second_order) (run_from first_order t) (run_from second_order u)
      (first_answers t long).is_accepted (second-answers u further).is_accepted first_met.valid second-met.valid first_met.regular second-met.regular orders_panel orders_entries

  -- and where the sheet has one of the names
  pub named-alike : (i : ℕ) → placement_of (held_by (run_from first_order t)) i ≡ placement_of (held_by (run_from named_run u)) i
  named-alike =
      third_demand.order (repetitions first_order) (repetitions named_run) (run_from first_order t) (run_from named_run u)
      (first_answers t long).is_accepted (named-answers u further).is_accepted first_met.valid named-met.valid first_met.regular named-met.regular named-panel named-entries

  -- the same columns, beside different rows
  pub columns-alike : SameColumns (run_from row_run t) (run_from other_run u)
  columns-alike = third_demand.columns (run_from row_run t) (run_from other_run u) (rows-differ t u long further)
