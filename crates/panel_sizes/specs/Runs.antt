-- The size of an axis at another inner size after an accepted sheet and any entry calls, refused ones included.
use Rattle.std.specs.Prelude.{◌≡◌, ℕ, true, List}
use Rattle.coordinates.specs.declared.axis.Axis.{Axis}
use Rattle.sizing.specs.Ranges.{length_in_range}
use Rattle.template_rules.specs.Explicit.{with_areas}
use Rattle.axis_tables.specs.View.{AxisView}
use Rattle.panel_tables.specs.Axes.{state_in}
use Rattle.sheet_rules.specs.Sheet as Sheet
use Rattle.sheet_rules.specs.Panels.{Tables}
use Rattle.panel_rules.specs.Calls.{words_in}
use Rattle.panel_rules.specs.Runs.{Held, names_of, Call, run_of, size_of}
use Rattle.panel_rules.specs.Added.{sheet_axis}
use Rattle.library_numbers.specs.declared.SizeAnswer.{SizeAnswer}
use Rattle.library_numbers.specs.Answers.{size_answer}
use Rattle.panel_sizes.specs.Sizes.{axis_size_at, size_numbers}

-- the call on what is held
abbrev pub size_at_of : Held → Axis → ℕ → SizeAnswer
size_at_of h a inner = axis_size_at (state_in h.panel a) (words_in (names_of h.tables) a) inner

-- what the sheet says of an axis, had its `axis` line that inner size
abbrev pub resized : AxisView → ℕ → AxisView
resized v inner =
    record {
      line = record { seen = v.line.seen; definite = 1; inner = inner; rule = v.line.rule; gap = v.line.gap };
      template = v.template;
      unended = v.unended;
      spares = v.spares;
      negative = v.negative;
      positive = v.positive;
      marks = v.marks;
      areas = v.areas;
    }

pub record SizesTheorem (s : List ℕ) (t : Tables) (calls : List Call) (a : Axis) : Type 0 where
  -- the answer is layer 3's for the sheet with that inner size in its place
  pub resized_sheet : (inner : ℕ) → length_in_range inner ≡ true
      → size_at_of (run_of s t calls) a inner ≡ size_numbers (with_areas (sheet_axis s a).areas (Sheet.size_of (resized (sheet_axis s a) inner)))
  -- at the inner size that the axis has it is the size that the panel has
  pub own : ((sheet_axis s a).line.definite ≡ 0 → ⊥) → length_in_range (sheet_axis s a).line.inner ≡ true
      → size_at_of (run_of s t calls) a (sheet_axis s a).line.inner ≡ size_answer (size_of (run_of s t calls) a)
