-- What stands at a place of a history's bytes.
use Rattle.std.specs.Prelude.{ℕ, zero, suc, ◌+◌, ◌≡◌, List, [], ◌∷◌, ◌++◌, true, false, cond, ltb, length, take, drop, Option, Some, None}
use Rattle.text.specs.Split.{before, same}
use Rattle.text.specs.Decimal.{decimal}
use Rattle.history_lines.specs.declared.HistoryLine.{HistoryLine}

-- the place after a text, where it stands at a place
unfoldable pub after_text : List ℕ → List ℕ → ℕ → Option ℕ
after_text t s place = cond (same (take (length t) (drop place s)) t) (Some (place + length t)) None

-- a step's number and a tab
abbrev pub mark : ℕ → List ℕ
mark n = decimal n ++ (9 ∷ [])

-- a text does not begin with them
abbrev pub Unmarked : ℕ → List ℕ → Type 0
Unmarked n s = same (take (length (mark n)) s) (mark n) ≡ false

-- a text begins with them, and the rest comes after them
abbrev pub MarkedBy : ℕ → List ℕ → List ℕ → Type 0
MarkedBy n s rest = (same (take (length (mark n)) s) (mark n) ≡ true) × (rest ≡ drop (length (mark n)) s) × (length rest + length (mark n) ≡ length s)

-- the text that starts at a place, up to the line feed that ends its line, where there is one
unfoldable pub ended_at : List ℕ → ℕ → Option HistoryLine
ended_at s start =
    cond (ltb (start + before 10 (drop start s)) (length s))
    (Some (record { text = record { offset = start; length = before 10 (drop start s) }; after = start + before 10 (drop start s) + 1 }))
    None

unfoldable pub ended_after : List ℕ → Option ℕ → Option HistoryLine
ended_after s None = None
ended_after s (Some start) = ended_at s start

-- line n at a place: its number and a tab stand there, and a line feed ends its text
unfoldable pub line_at : ℕ → List ℕ → ℕ → Option HistoryLine
line_at n s place = ended_after s (after_text (mark n) s place)

-- what comes after a line, where it was found
abbrev pub after_line : (ℕ → Option ℕ) → Option HistoryLine → Option ℕ
after_line next None = None
after_line next (Some line) = next line.after

-- the place after k lines, numbered from n on, one after the other from a place on
unfoldable pub after_lines : ℕ → ℕ → List ℕ → ℕ → Option ℕ
after_lines zero n s place = Some place
after_lines (suc k) n s place = after_line (after_lines k (suc n) s) (line_at n s place)
