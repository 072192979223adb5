-- The explicit size of an axis at another inner size (layer 3; SHEET.md, Calls), whatever the state and the words hold: what the line after
-- the last finds of the axis with that inner size, and nothing is written.
use Rattle.std.specs.Prelude.{ℕ, cond, List}
use Rattle.coordinates.specs.declared.axis.Axis.{Axis}
use Rattle.coordinates.specs.Refusals.{value, count}
use Rattle.sizing.specs.Ranges.{length_in_range}
use Rattle.template_rules.specs.Explicit as Explicit
use Rattle.axis_tables.specs.declared.AxisState.{AxisState}
use Rattle.panel_tables.specs.declared.Panel.{Panel}
use Rattle.panel_tables.specs.Axes.{state_in}
use Rattle.panel_tables.specs.Regions.{axis_words_in}
use Rattle.sheet_end.specs.End.{size_in}
use Rattle.library_numbers.specs.declared.SizeAnswer.{SizeAnswer}

-- an axis with an inner size of those bits; its rule, its gap and everything else stay
abbrev pub state_at : AxisState → ℕ → AxisState
state_at s inner =
    record {
      grid = record {
        space = record { definite = 1; inner = inner; rule = s.grid.space.rule; gap = s.grid.space.gap };
        template = s.grid.template;
        implicit = s.grid.implicit;
        entries = s.grid.entries;
        size = s.grid.size;
      };
      room = s.room;
    }

-- the numbers of a size, or of a refusal
abbrev pub size_numbers : Explicit.SizeAnswer → SizeAnswer
size_numbers a = record { number = a.refusal.number; repetitions = a.repetitions; explicit = a.explicit }

abbrev pub refused_size : ℕ → SizeAnswer
refused_size n = record { number = n; repetitions = 0; explicit = 0 }

-- of one axis, from its state and its words: "a size outside its range" is 3, before layer 3's refusals
unfoldable pub axis_size_at : AxisState → List ℕ → ℕ → SizeAnswer
axis_size_at s words inner = cond (length_in_range inner) (size_numbers (size_in (state_at s inner) words)) (refused_size value)

abbrev pub size_at : Panel → List ℕ → Axis → ℕ → SizeAnswer
size_at p words a inner = axis_size_at (state_in p a) (axis_words_in a words) inner

-- what a size of no axis is refused by: lowest number first
abbrev pub no_axis_size : ℕ → ℕ
no_axis_size inner = cond (length_in_range inner) count value
