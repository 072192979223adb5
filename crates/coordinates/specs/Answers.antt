-- What the calls of layer 1 answer: a refusal with zeros beside it, or the line or count.
use Rattle.std.specs.Prelude.{ℕ, zero, suc, ◌+◌, ◌-◌, Bool, false, cond, ltb, ℤ, pos, negsuc, Result, Ok, Err}
use Rattle.coordinates.specs.Refusals.{Refusal, no_refusal, refusal_of, number_of, count, zero_line}
use Rattle.coordinates.specs.Lines.{held, outside, uncut, to_grid_line}
use Rattle.coordinates.specs.declared.line.OriginZeroLine.{OriginZeroLine}
use Rattle.coordinates.specs.declared.line.GridLine.{GridLine}
use Rattle.coordinates.specs.Types.{MarkedLine}
use Rattle.coordinates.specs.declared.refusal.Fault.{Fault}
use Rattle.coordinates.specs.declared.refusal.Fault.TheVariants.{Count}

-- ---- answers in this paper's numbers and values: a refusal, and beside it zeros

-- an origin-zero line
pub record OriginZeroAnswer : Type 0 where
  pub refusal : Refusal
  pub line : OriginZeroLine

-- a grid line as an origin-zero line, and its mark: whether it was held at an end
pub record ConvertedLine : Type 0 where
  pub refusal : Refusal
  pub line : OriginZeroLine
  pub held : Bool

-- a grid line
pub record GridLineAnswer : Type 0 where
  pub refusal : Refusal
  pub line : GridLine

-- a number of tracks
pub record CountAnswer : Type 0 where
  pub refusal : Refusal
  pub count : ℕ

abbrev pub clamped_of : ℤ → OriginZeroLine
clamped_of z = record { 0 = held z }

-- an answer, and a refusal with line 0 beside it
abbrev pub line_answer : ℤ → OriginZeroAnswer
line_answer l = record { refusal = no_refusal; line = record { 0 = l } }

abbrev pub refused_line : ℕ → OriginZeroAnswer
refused_line n = record { refusal = refusal_of n; line = record { 0 = pos 0 } }

-- a line held, and its mark: "exactly when the uncut number lies outside -10,000..10,000" (document 02, Req 06)
abbrev pub held_line : ℤ → ConvertedLine
held_line l = record { refusal = no_refusal; line = record { 0 = held l }; held = outside l }

-- a refused conversion has line 0 and no mark beside it
abbrev pub refused_conversion : ℕ → ConvertedLine
refused_conversion n = record { refusal = refusal_of n; line = record { 0 = pos 0 }; held = false }

-- a grid line as an origin-zero line; "conversion of line 0" is refused by 9
abbrev pub converted_line : ℕ → ℤ → ConvertedLine
converted_line n (pos zero) = refused_conversion zero_line
converted_line n (pos (suc g)) = held_line (uncut n (pos (suc g)))
converted_line n (negsuc g) = held_line (uncut n (negsuc g))

-- more than 10,000 explicit tracks are refused by 4, and that first
unfoldable pub origin_zero_answer : ℕ → ℤ → ConvertedLine
origin_zero_answer n g = cond (ltb 10000 n) (refused_conversion count) (converted_line n g)

-- back: a count above 10,000 or a line outside -10,000..10,000 is refused by 4
abbrev pub grid_line_of : ℤ → GridLineAnswer
grid_line_of g = record { refusal = no_refusal; line = record { 0 = g } }

abbrev pub refused_grid_line : ℕ → GridLineAnswer
refused_grid_line n = record { refusal = refusal_of n; line = record { 0 = pos 0 } }

unfoldable pub grid_line_answer : ℕ → ℤ → GridLineAnswer
grid_line_answer n l = cond (ltb 10000 n) (refused_grid_line count) (cond (outside l) (refused_grid_line count) (grid_line_of (to_grid_line n l)))

abbrev pub count_answer : ℕ → CountAnswer
count_answer n = record { refusal = no_refusal; count = n }

abbrev pub refused_count : ℕ → CountAnswer
refused_count n = record { refusal = refusal_of n; count = 0 }

-- the tracks there must be before the grid if an item starts at a line, and after it if one ends there
abbrev pub implied_negative : ℤ → ℕ
implied_negative (pos l) = 0
implied_negative (negsuc k) = k + 1

abbrev pub implied_positive : ℕ → ℤ → ℕ
implied_positive n (pos l) = l - n
implied_positive n (negsuc k) = 0

-- a line outside -10,000..10,000 is refused by 4, and so is a count above 10,000
unfoldable pub implied_negative_answer : ℤ → CountAnswer
implied_negative_answer l = cond (outside l) (refused_count count) (count_answer (implied_negative l))

unfoldable pub implied_positive_answer : ℕ → ℤ → CountAnswer
implied_positive_answer n l = cond (ltb 10000 n) (refused_count count) (cond (outside l) (refused_count count) (count_answer (implied_positive n l)))

-- a guard: 4 where a number is outside its range
abbrev pub count_check : Bool → Result (Unit {0}) Fault
count_check b = cond b (Err Count) (Ok tt)

-- ---- the numbers and values of what a call answers

abbrev pub answered_line : Result OriginZeroLine Fault → OriginZeroAnswer
answered_line (Ok l) = line_answer l.0
answered_line (Err fault) = refused_line (number_of fault)

abbrev pub answered_conversion : Result MarkedLine Fault → ConvertedLine
answered_conversion (Ok m) = record { refusal = no_refusal; line = m.value; held = m.held }
answered_conversion (Err fault) = refused_conversion (number_of fault)

abbrev pub answered_grid_line : Result GridLine Fault → GridLineAnswer
answered_grid_line (Ok g) = grid_line_of g.0
answered_grid_line (Err fault) = refused_grid_line (number_of fault)

abbrev pub answered_count : Result ℕ Fault → CountAnswer
answered_count (Ok n) = count_answer n
answered_count (Err fault) = refused_count (number_of fault)
