-- Lines and track counts by argument, as numbers of 32 bits, and the answers of layer 1 as numbers: a refusal with zeros beside it, or what is answered.
use Rattle.std.specs.Prelude.{ℕ, Bool, cond, ltb, ℤ, pos, negsuc, Option, Some, None}
use Rattle.coordinates.specs.Refusals.{count}
use Rattle.coordinates.specs.Answers.{ConvertedLine, refused_conversion, origin_zero_answer}
use Rattle.track_counts.specs.Counts.{TrackAnswer, IndexAnswer}
use Rattle.track_counts.specs.declared.counts.TrackCounts.{TrackCounts}
use Rattle.library_numbers.specs.Answers.{mark_number}
use Rattle.library_lines.specs.declared.AxisCounts.{AxisCounts}
use Rattle.library_lines.specs.declared.ConversionAnswer.{ConversionAnswer}
use Rattle.library_lines.specs.declared.TrackNumbers.{TrackNumbers}
use Rattle.library_lines.specs.declared.LineRecord.{LineRecord}

-- outside -32,768..32,767, the lines that a placement can write (`negsuc l` is -(l + 1))
abbrev pub too_wide : ℤ → Bool
too_wide (pos l) = ltb 32767 l
too_wide (negsuc l) = ltb 32767 l

-- a line that no placement can write is refused by 4, as a count above 10,000 is; then line 0 by 9
unfoldable pub conversion_of : ℕ → ℤ → ConvertedLine
unfolding origin_zero_answer
conversion_of n g = cond (too_wide g) (refused_conversion count) (origin_zero_answer n g)

-- the counts of an axis
abbrev pub counts_of : AxisCounts → TrackCounts
counts_of c = record { negative_implicit = c.negative; explicit = c.explicit; positive_implicit = c.positive }

-- ---- answers as numbers

-- an origin-zero line, and its mark: 1 where it was held
abbrev pub conversion_numbers : ConvertedLine → ConversionAnswer
conversion_numbers a = record { number = a.refusal.number; line = a.line.0; held = mark_number a.held }

-- a track
abbrev pub track_numbers : TrackAnswer → TrackNumbers
track_numbers a = record { number = a.refusal.number; track = a.track }

-- whether the axis has the line, and its record
abbrev pub record_at : ℕ → Option ℕ → LineRecord
record_at number (Some place) = record { number = number; found = 1; place = place }
record_at number None = record { number = number; found = 0; place = 0 }

abbrev pub record_numbers : IndexAnswer → LineRecord
record_numbers a = record_at a.refusal.number a.index
