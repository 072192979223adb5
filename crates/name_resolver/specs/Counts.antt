-- How the lines of a name are counted: from which line, which way, and past how many.
use Rattle.std.specs.Prelude.{Bool, true, false, ℕ, zero, suc, pred, ◌≤◌, min, ℤ, pos, negsuc, ◌+ℤ◌, ◌-ℤ◌}
use Rattle.name_rules.specs.Css.{Side, start, end}
use Rattle.name_rules.specs.Rule.{Seek, at, left}
use Rattle.name_lines.specs.declared.Way.TheVariants.{Up, Down}
use Rattle.name_resolver.specs.declared.count.Count.{Count}

-- 0, which is no line and no index
abbrev pub is_zero : ℤ → Bool
is_zero (pos zero) = true
is_zero (pos (suc n)) = false
is_zero (negsuc k) = false

-- an index counts from line 0 on, 0 as 1; a negative one from the last explicit line back
abbrev pub index_count : ℕ → ℤ → Count
index_count explicit (pos i) = record { way = Up; first = pos 0; over = pred i }
index_count explicit (negsuc i) = record { way = Down; first = pos explicit; over = i }

-- the most that 32 bits hold: lines that a count passes over, and the last that one begins at
abbrev pub most_counted : ℕ
most_counted = 4294967295

-- a count that passes over no more
abbrev pub held_count : Count → Count
held_count c = record c { over = min c.over most_counted }

-- a number of 32 bits and a sign, as far before 0 as from it on
abbrev pub LineFits : ℤ → Type 0
LineFits (pos l) = l ≤ most_counted
LineFits (negsuc k) = k ≤ most_counted

-- a span of a start counts back from the line before o, a span of an end on from the line after it; a span of 0 as 1
abbrev pub span_count : Side → ℕ → ℤ → Count
span_count start n o = record { way = Down; first = o -ℤ pos 1; over = pred n }
span_count end n o = record { way = Up; first = o +ℤ pos 1; over = pred n }

-- a count forwards begins at line 0 where its line lies before that
abbrev pub first_line : ℤ → ℕ
first_line (pos l) = l
first_line (negsuc k) = 0

-- the line that a search backwards comes to, every line before line 0 counting
abbrev pub found_line : Seek → ℤ
found_line (at l) = pos l
found_line (left m) = negsuc m
