-- Searches over a range of lines, on either side, and the windows that they go through.
use Rattle.std.specs.Prelude.{Bool, ℕ, ◌+◌, ◌-◌, min, max}
use Rattle.name_rules.specs.Rule.{Seek, seek}
use Rattle.name_lines.specs.Marks.{back}
use Rattle.name_lines.specs.declared.Way.{Way}
use Rattle.name_lines.specs.declared.Way.TheVariants.{Up, Down}
use Rattle.name_search.specs.declared.Sought.{Sought}
use Rattle.name_search.specs.declared.window.Window.{Window}

-- pass over m lines that p marks among the k from line f on, the first first or the last first, and answer the next
abbrev pub scan : Way → (ℕ → Bool) → ℕ → ℕ → ℕ → Seek
scan Up p f k m = seek p k f m
scan Down p f k m = back p f k m

-- the place among k lines that is looked at after i of them
abbrev pub place_at : Way → ℕ → ℕ → ℕ
place_at Up k i = i
place_at Down k i = k - 1 - i

-- the same name sought from line f on, or before it, after m lines of it
abbrev pub part_of : Sought → ℕ → ℕ → Sought
part_of s f m = record { axis = s.axis; nth = record { way = s.nth.way; from = f; over = m } }

-- the lines to look at from line f on, or before it, where none past line h has a name
abbrev pub lines_sought : Way → ℕ → ℕ → Window
lines_sought Up f h = record { low = f; end = min h 20000 }
lines_sought Down f h = record { low = 0; end = min f h }

-- how many lines are marked at a time
abbrev pub window_length : ℕ
window_length = 2048

-- the next of the lines, as many as are marked at a time or as there are
abbrev pub next_window : Way → Window → Window
next_window Up w = record { low = w.low; end = min (w.low + window_length) w.end }
next_window Down w = record { low = max w.low (w.end - window_length); end = w.end }

-- the lines after a window of them
abbrev pub lines_left : Way → Window → Window → Window
lines_left Up lines w = record { low = w.end; end = lines.end }
lines_left Down lines w = record { low = lines.low; end = w.low }
