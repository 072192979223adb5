-- How a picture is taken: row by row, a row as runs of equal words. It mirrors the code; proofs/Theorem.antt joins it to Picture.antt.
use Rattle.std.specs.Prelude.{ℕ, suc, ◌+◌, List, [], ◌∷◌, Bool, true, false, cond, eqb, length}
use Rattle.text.specs.Split.{same}
use Rattle.picture_rules.specs.Picture.{Word, Picture, Box, PictureArea, is_dots}

-- ---- runs of equal words

pub record EqualRun : Type 0 where
  pub word : Word
  pub count : ℕ

-- one word in front of runs
unfoldable pub with_word : Word → List EqualRun → List EqualRun
with_word w [] = record { word = w; count = 1 } ∷ []
with_word w (x ∷ xs) = cond (same x.word w) (record { word = w; count = suc x.count } ∷ xs) (record { word = w; count = 1 } ∷ x ∷ xs)

unfoldable pub runs_of : List Word → List EqualRun
runs_of [] = []
runs_of (w ∷ ws) = with_word w (runs_of ws)

-- how many words equal to w stand in front
unfoldable pub again_of : Word → List Word → ℕ
again_of w [] = 0
again_of w (x ∷ xs) = cond (same x w) (suc (again_of w xs)) 0

-- the length of the first run
unfoldable pub first_run : List Word → ℕ
first_run [] = 0
first_run (w ∷ ws) = suc (again_of w ws)

-- ---- one run

-- the cells of a run: one row
abbrev pub run_box : ℕ → ℕ → ℕ → Box
run_box row column count = record { rowstart = row; rowend = row + 1; columnstart = column; columnend = column + count }

-- whether a box ends at the row of a run and has exactly its columns
abbrev pub continues : Box → Box → Bool
continues b run = cond (eqb b.rowend run.rowstart) (cond (eqb b.columnstart run.columnstart) (eqb b.columnend run.columnend) false) false

-- with the row of the run
abbrev pub longer : Box → Box → Box
longer b run = record { rowstart = b.rowstart; rowend = run.rowend; columnstart = b.columnstart; columnend = b.columnend }

abbrev pub grown : PictureArea → Box → PictureArea
grown a run = record { name = a.name; box = cond (continues a.box run) (longer a.box run) a.box }

-- the areas after a run of a name: one more where the name is new, else its box with one row more where the run continues it
unfoldable pub drawn : PictureArea → List PictureArea → List PictureArea
drawn run [] = run ∷ []
drawn run (a ∷ rest) = cond (same a.name run.name) (grown a run.box ∷ rest) (a ∷ drawn run rest)

-- whether the name is new, or the run continues its box
unfoldable pub fits : PictureArea → List PictureArea → Bool
fits run [] = true
fits run (a ∷ rest) = cond (same a.name run.name) (continues a.box run.box) (fits run rest)

-- ---- the picture so far

pub record PictureState : Type 0 where
  pub areas : List PictureArea
  pub rows : ℕ
  pub width : ℕ
  pub broken : Bool

abbrev pub no_rows : PictureState
no_rows = record { areas = []; rows = 0; width = 0; broken = false }

-- a run of a name; one that does not fit breaks the picture, and nothing mends it
abbrev pub name_run_step : PictureArea → PictureState → PictureState
name_run_step run s = record { areas = drawn run s.areas; rows = s.rows; width = s.width; broken = cond (fits run s.areas) s.broken true }

unfoldable pub run_step : ℕ → ℕ → EqualRun → PictureState → PictureState
run_step row column x s = cond (is_dots x.word) s (name_run_step (record { name = x.word; box = run_box row column x.count }) s)

unfoldable pub runs_from : ℕ → ℕ → List EqualRun → PictureState → PictureState
runs_from row column [] s = s
runs_from row column (x ∷ xs) s = runs_from row (column + x.count) xs (run_step row column x s)

-- one row more, of so many words
abbrev pub row_counted : ℕ → PictureState → PictureState
row_counted width s = record { areas = s.areas; rows = s.rows + 1; width = width; broken = s.broken }

unfoldable pub row_step : PictureState → List Word → PictureState
row_step s ws = row_counted (length ws) (runs_from (s.rows + 1) 1 (runs_of ws) s)

unfoldable pub rows_from : PictureState → Picture → PictureState
rows_from s [] = s
rows_from s (ws ∷ rest) = rows_from (row_step s ws) rest

-- all rows of a picture
abbrev pub taken_of : Picture → PictureState
taken_of p = rows_from no_rows p
