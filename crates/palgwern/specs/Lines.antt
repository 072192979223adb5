-- The conversions by argument that answer a line, as numbers: a refusal and 0, or the line.
use Rattle.coordinates.specs.Answers.{GridLineAnswer, OriginZeroAnswer}
use Rattle.panel_positions.specs.declared.LineAnswer.{LineAnswer}

abbrev pub grid_line_numbers : GridLineAnswer → LineAnswer
grid_line_numbers a = record { number = a.refusal.number; line = a.line.0 }

abbrev pub origin_zero_numbers : OriginZeroAnswer → LineAnswer
origin_zero_numbers a = record { number = a.refusal.number; line = a.line.0 }
