-- Of the lists of both axes, as they lie in what is lent, those of one.
use mathlib.Core.Path.{◌≡◌, refl}
use mathlib.Core.List.{List}
use Prim.Native.Nat.{ℕ}
use Rattle.coordinates.specs.declared.axis.Axis.{Axis}
use Rattle.coordinates.specs.declared.axis.Axis.TheVariants.{Column, Row}
use Rattle.name_entries.specs.LineNames.{of_axis}
use Rattle.panel_tables.specs.Regions.{axis_words_in, marks_in}

pub words_of : (a : Axis) (words : List ℕ) → of_axis a (axis_words_in Column words) (axis_words_in Row words) ≡ axis_words_in a words
words_of Column words = refl
words_of Row words = refl

pub marks_of_lem : (a : Axis) (bytes : List ℕ) → of_axis a (marks_in Column bytes) (marks_in Row bytes) ≡ marks_in a bytes
marks_of_lem Column bytes = refl
marks_of_lem Row bytes = refl
