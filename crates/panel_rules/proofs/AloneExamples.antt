-- Which lines are a row name or the row template: worked lines and one test. Assumes nothing.
use Prim.Native.Nat.{ℕ}
use mathlib.Core.Bool.{Bool, true, false, cond, not, ◌&&◌}
use mathlib.Core.List.{List, [], ◌∷◌}
use lib.Dec.{T}
use Rattle.text.specs.Split.{split, onto, same}
use Rattle.panel_rules.specs.Alone.{row_template_line}

-- a line, and whether it is one of these
pub record Case : Type 0 where
  pub line : List ℕ
  pub dropped : Bool

abbrev dropped : List ℕ → Case
dropped l = record { line = l; dropped = true }

abbrev kept : List ℕ → Case
kept l = record { line = l; dropped = false }

pub right : Case → Bool
right c = let d = row_template_line (split 9 c.line) in cond c.dropped d (not d)

pub every : List Case → Bool
every [] = true
every (c ∷ cs) = right c && every cs

pub cases : List Case
cases =
    -- a row name
    dropped (110 ∷ 97 ∷ 109 ∷ 101 ∷ 9 ∷ 114 ∷ 9 ∷ 120 ∷ [])
    -- a row track
    ∷ dropped (116 ∷ 114 ∷ 97 ∷ 99 ∷ 107 ∷ 9 ∷ 114 ∷ 9 ∷ 97 ∷ 117 ∷ 116 ∷ 111 ∷ 9 ∷ 48 ∷ 48 ∷ 48 ∷ 48 ∷ 48 ∷ 48 ∷ 48 ∷ 48 ∷ 9 ∷ 97 ∷ 117 ∷ 116 ∷ 111 ∷ 9 ∷ 48 ∷ 48 ∷ 48 ∷ 48 ∷ 48 ∷ 48 ∷ 48 ∷ 48 ∷ [])
    -- a row repeat
    ∷ dropped (114 ∷ 101 ∷ 112 ∷ 101 ∷ 97 ∷ 116 ∷ 9 ∷ 114 ∷ 9 ∷ 102 ∷ 105 ∷ 108 ∷ 108 ∷ [])
    -- its end
    ∷ dropped (101 ∷ 110 ∷ 100 ∷ 9 ∷ 114 ∷ [])
    -- a column name, though it is `r`
    ∷ kept (110 ∷ 97 ∷ 109 ∷ 101 ∷ 9 ∷ 99 ∷ 9 ∷ 114 ∷ [])
    -- a column track
    ∷ kept (116 ∷ 114 ∷ 97 ∷ 99 ∷ 107 ∷ 9 ∷ 99 ∷ 9 ∷ 97 ∷ 117 ∷ 116 ∷ 111 ∷ 9 ∷ 48 ∷ 48 ∷ 48 ∷ 48 ∷ 48 ∷ 48 ∷ 48 ∷ 48 ∷ 9 ∷ 97 ∷ 117 ∷ 116 ∷ 111 ∷ 9 ∷ 48 ∷ 48 ∷ 48 ∷ 48 ∷ 48 ∷ 48 ∷ 48 ∷ 48 ∷ [])
    -- a column end
    ∷ kept (101 ∷ 110 ∷ 100 ∷ 9 ∷ 99 ∷ [])
    -- a row axis record
    ∷ kept (97 ∷ 120 ∷ 105 ∷ 115 ∷ 9 ∷ 114 ∷ 9 ∷ 45 ∷ 9 ∷ 109 ∷ 97 ∷ 120 ∷ 9 ∷ 108 ∷ 101 ∷ 110 ∷ 9 ∷ 48 ∷ 48 ∷ 48 ∷ 48 ∷ 48 ∷ 48 ∷ 48 ∷ 48 ∷ [])
    -- an area called `r`
    ∷ kept (97 ∷ 114 ∷ 101 ∷ 97 ∷ 9 ∷ 114 ∷ 9 ∷ 49 ∷ 9 ∷ 50 ∷ 9 ∷ 49 ∷ 9 ∷ 50 ∷ [])
    -- a spare row size
    ∷ kept (115 ∷ 112 ∷ 97 ∷ 114 ∷ 101 ∷ 9 ∷ 114 ∷ 9 ∷ 97 ∷ 117 ∷ 116 ∷ 111 ∷ 9 ∷ 48 ∷ 48 ∷ 48 ∷ 48 ∷ 48 ∷ 48 ∷ 48 ∷ 48 ∷ 9 ∷ 97 ∷ 117 ∷ 116 ∷ 111 ∷ 9 ∷ 48 ∷ 48 ∷ 48 ∷ 48 ∷ 48 ∷ 48 ∷ 48 ∷ 48 ∷ [])
    -- implicit rows
    ∷ kept (101 ∷ 120 ∷ 116 ∷ 114 ∷ 97 ∷ 9 ∷ 114 ∷ 9 ∷ 49 ∷ 9 ∷ 49 ∷ [])
    -- an item in a row
    ∷ kept (105 ∷ 116 ∷ 101 ∷ 109 ∷ 9 ∷ 114 ∷ 9 ∷ 48 ∷ [])
    -- a placement by rows
    ∷ kept (112 ∷ 108 ∷ 97 ∷ 99 ∷ 101 ∷ 9 ∷ 114 ∷ 9 ∷ 108 ∷ 105 ∷ 110 ∷ 101 ∷ 9 ∷ 45 ∷ 9 ∷ 49 ∷ 9 ∷ 97 ∷ 117 ∷ 116 ∷ 111 ∷ 9 ∷ 45 ∷ 9 ∷ 48 ∷ [])
    -- nothing
    ∷ kept ([])
    ∷ []

pub worked : T (every cases)
unfolding every right cases row_template_line split onto same
worked = tt
