-- The run of equal words that starts at a place of a line.
use Rattle.std.specs.Prelude.{ℕ, List, get_or}
use Rattle.text.specs.Places.{starts_from}
use Rattle.picture_rules.specs.Steps.{first_run}
use Rattle.picture_words.specs.Words.{words_left}
use Rattle.picture_words.specs.declared.run.WordRun.{WordRun}

-- where word number k from a place on starts, the first number 0; past the end after the last
abbrev pub start_at : List ℕ → ℕ → ℕ → ℕ
start_at line at k = get_or (starts_from at (words_left line at)) k 0

unfoldable pub run_at : List ℕ → ℕ → WordRun
run_at line at = record { count = first_run (words_left line at); next = start_at line at (first_run (words_left line at)) }
