-- Entries whose lines never fall from one to the next, as those that a sheet's template writes.
use Rattle.std.specs.Prelude.{ℕ, suc, Bool, true, cond, ◌&&◌, List, [], ◌∷◌, leb}
use Rattle.name_entries.specs.Entries.{entry_of}

-- whether the lines never fall, and none is below the given one
unfoldable pub ascends_from : ℕ → List ℕ → Bool
ascends_from line [] = true
ascends_from line (w ∷ words) = leb line (entry_of w).line && ascends_from (entry_of w).line words

-- whether the lines never fall
abbrev pub ascends : List ℕ → Bool
ascends words = ascends_from 0 words

-- how many words there are before the first whose line is above the given one
unfoldable pub count_up_to : ℕ → List ℕ → ℕ
count_up_to line [] = 0
count_up_to line (w ∷ words) = cond (leb (entry_of w).line line) (suc (count_up_to line words)) 0
