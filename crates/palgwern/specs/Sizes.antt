-- `palgwern_size_at`: the size of an axis by its number at another inner size; a number that is no axis is 4, after 3.
use Rattle.std.specs.Prelude.{ℕ, cond, List}
use Rattle.coordinates.specs.Axes.{axis_of}
use Rattle.panel_tables.specs.declared.Panel.{Panel}
use Rattle.library_numbers.specs.declared.SizeAnswer.{SizeAnswer}
use Rattle.library_numbers.specs.Answers.{is_axis}
use Rattle.panel_sizes.specs.Sizes.{size_at, no_axis_size, refused_size}

unfoldable pub size_at_of : Panel → List ℕ → ℕ → ℕ → SizeAnswer
size_at_of p words axis inner = cond (is_axis axis) (size_at p words (axis_of axis) inner) (refused_size (no_axis_size inner))
