-- The tracks between two lines (coordinates.rs, `span`).
use Rattle.std.specs.Prelude.{ℕ, cond, ℤ, pos, negsuc, ◌-ℤ◌}
use Rattle.coordinates.specs.Refusals.{count}
use Rattle.coordinates.specs.Lines.{outside}
use Rattle.coordinates.specs.Answers.{CountAnswer, count_answer, refused_count}

-- the larger of a number and 0
abbrev pub positive_part : ℤ → ℕ
positive_part (pos n) = n
positive_part (negsuc n) = 0

-- a line outside -10,000..10,000 is refused by 4
unfoldable pub span_answer : ℤ → ℤ → CountAnswer
span_answer start end =
    cond (outside start) (refused_count count) (cond (outside end) (refused_count count) (count_answer (positive_part (end -ℤ start))))
