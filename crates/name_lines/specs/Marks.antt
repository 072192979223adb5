-- Marks of the lines of a window, as the search reads them.
use Rattle.std.specs.Prelude.{◌≡◌, Bool, false, ◌&&◌, ◌||◌, List, ℕ, zero, suc, ◌+◌, ◌-◌, ◌<◌, min, ltb, length, get_or, Result, Ok, Err}
use Rattle.name_rules.specs.Rule.{Seek, at, left, onward, seek}
use Rattle.name_lines.specs.declared.Way.{Way}
use Rattle.name_lines.specs.declared.Way.TheVariants.{Up, Down}

-- place k of the window is marked
abbrev pub marked : List Bool → ℕ → Bool
marked ms k = get_or ms k false

-- the marks after those places were marked too at which p holds
pub record Adds (before after : List Bool) (p : ℕ → Bool) : Type 0 where
  pub kept : length after ≡ length before
  pub places : (k : ℕ) → k < length before → marked after k ≡ (marked before k || p k)

-- the line of a number is among the count lines from low on
abbrev pub lies_in : ℕ → ℕ → ℕ → Bool
lies_in low count number = ltb low number && ltb (number - low - 1) count

-- the answer of a search
abbrev pub seek_of : Result ℕ ℕ → Seek
seek_of (Ok l) = at l
seek_of (Err m) = left m

-- pass over m marked numbers among the k from f on, the last first, and answer the next
unfoldable pub back : (ℕ → Bool) → ℕ → ℕ → ℕ → Seek
back p f zero m = left m
back p f (suc k) m = onward (p (f + k)) (f + k) m (λ j. back p f k j)

-- pass over m lines that p marks from line f on as far as line 20,000, or before line f, and answer the next
abbrev pub walk : Way → (ℕ → Bool) → ℕ → ℕ → Seek
walk Up p f m = seek p (20000 - f) f m
walk Down p f m = back p 0 f m

-- where a walk begins: one back begins at line 20,000 at the latest, since no line from there on has a name
abbrev pub start_of : Way → ℕ → ℕ
start_of Up f = f
start_of Down f = min f 20000
