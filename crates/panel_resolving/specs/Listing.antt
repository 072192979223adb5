-- Entries whose lines ascend, by their places in the table.
use Rattle.std.specs.Prelude.{ℕ, suc, ◌≤◌, ◌<◌, Bool, cond, ◌&&◌, List, [], ◌∷◌, eqb, leb, ltb, length, get_or}
use Rattle.name_rules.specs.Css.{Bytes}
use Rattle.name_rules.specs.Rule.{any, eq_bytes}
use Rattle.name_entries.specs.Entries.{entry_of, name_in}

-- the line of the entry at a place
abbrev pub line_at : List ℕ → ℕ → ℕ
line_at ws i = (entry_of (get_or ws i 0)).line

-- the lines of some places ascend from 1 to 20,000
pub record Ascends (line : ℕ → ℕ) (count : ℕ) : Type 0 where
  pub first : (i : ℕ) → i < count → 1 ≤ line i
  pub last : (i : ℕ) → i < count → line i ≤ 20000
  pub rises : (i j : ℕ) → i < j → j < count → line i < line j

-- those of entries do
abbrev pub LinesAscend : List ℕ → Type 0
LinesAscend ws = Ascends (line_at ws) (length ws)

-- how many entries have a line of at most n
unfoldable pub up_to : ℕ → List ℕ → ℕ
up_to n [] = 0
up_to n (w ∷ ws) = cond (leb (entry_of w).line n) (suc (up_to n ws)) (up_to n ws)

-- an entry is on the line, counted from 0
abbrev pub on_line : List ℕ → ℕ → Bool
on_line ws l = any (λ (w : ℕ). eqb (entry_of w).line (suc l)) ws

-- there are entries, and the first has the name
abbrev pub first_named : List ℕ → List ℕ → Bytes → Bool
first_named store part nm = ltb 0 (length part) && eq_bytes (name_in store (entry_of (get_or part 0 0))) nm

-- none of the entries where they list another name
unfoldable pub named_part : List ℕ → Bool → Bool → List ℕ
named_part part listed named = cond listed (cond named part []) part
