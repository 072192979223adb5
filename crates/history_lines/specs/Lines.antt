-- A history (document 02, request 14): "a lent history takes each accepted edit as a tabbed line from its first byte on: a step number from 1,
-- then the sheet's line". A text has no line feed (10), which ends its line.
use Rattle.std.specs.Prelude.{ℕ, suc, List, [], ◌∷◌, ◌++◌}
use Rattle.text.specs.Decimal.{decimal}

-- a step's number, a tab, its text, a line feed
unfoldable pub history_line : ℕ → List ℕ → List ℕ
history_line n text = decimal n ++ (9 ∷ (text ++ (10 ∷ [])))

-- the lines of texts, numbered from n on, one after the other
unfoldable pub history_of : ℕ → List (List ℕ) → List ℕ
history_of n [] = []
history_of n (text ∷ texts) = history_line n text ++ history_of (suc n) texts
