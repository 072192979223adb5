-- "Any two runs that differ in nothing but row names and row template have the same column answers": what such runs are, and what is the same.
use Rattle.std.specs.Prelude.{ℕ, ◌≡◌, Bool, cond, ◌&&◌, ◌||◌, List, [], ◌∷◌, get_or}
use Rattle.coordinates.specs.declared.axis.Axis.TheVariants.{Column}
use Rattle.coordinates.specs.Refusals.{Refusal}
use Rattle.text.specs.Split.{split, same}
use Rattle.sheet_forms.specs.Words.{at, axis_words, kind_words}
use Rattle.track_rules.specs.declared.GridTrack.{GridTrack}
use Rattle.panel_tables.specs.Axes.{state_in}
use Rattle.sheet_rules.specs.Panels.{Tables}
use Rattle.panel_rules.specs.Runs.{Held, Call, refusal_in, after, Accepted, sheet_held, run_of, marks_of, size_of, placement_of, lists_of, name_of, record_with, record_of, run_with, fill_with}
use Rattle.panel_rules.specs.Book.{same_axis}

-- ---- the sheet without its row names and row template

-- `name`, `track`, `repeat` or `end`
abbrev pub template_word : List ℕ → Bool
template_word f = same f (get_or kind_words 2 []) || same f (get_or kind_words 3 []) || same f (get_or kind_words 4 []) || same f (get_or kind_words 5 [])

-- the fields of such a line on axis `r`
unfoldable pub row_template_line : List (List ℕ) → Bool
row_template_line fs = template_word (at fs 0) && same (at fs 1) (get_or axis_words 1 [])

-- lines without those, wherever they stand
unfoldable pub without_rows : List (List ℕ) → List (List ℕ)
without_rows [] = []
without_rows (l ∷ ls) = cond (row_template_line (split 9 l)) (without_rows ls) (l ∷ without_rows ls)

abbrev pub kept_lines : List ℕ → List (List ℕ)
kept_lines s = without_rows (split 10 s)

-- ---- the entry calls on the columns

unfoldable pub column_calls : List Call → List Call
column_calls [] = []
column_calls (c ∷ cs) = cond (same_axis Column c.axis) (c ∷ column_calls cs) (column_calls cs)

-- what these calls of a list answer, in order, each with what the calls before it left
unfoldable pub column_refusals : Held → List Call → List Refusal
column_refusals h [] = []
column_refusals h (c ∷ cs) = cond (same_axis Column c.axis) (refusal_in h c ∷ column_refusals (after h c) cs) (column_refusals (after h c) cs)

-- ---- two runs

-- a sheet, everything lent to its call, whatever it holds before, and the entry calls
pub record Run : Type 0 where
  pub sheet : List ℕ
  pub tables : Tables
  pub calls : List Call

abbrev pub held_by : Run → Held
held_by r = run_of r.sheet r.tables r.calls

abbrev pub AcceptedRun : Run → Type 0
AcceptedRun r = Accepted r.sheet r.tables

-- they differ in nothing but row names and row template
pub record DifferInRows (p q : Run) : Type 0 where
  pub first : AcceptedRun p
  pub second : AcceptedRun q
  pub lines : kept_lines p.sheet ≡ kept_lines q.sheet
  pub calls : column_calls p.calls ≡ column_calls q.calls

-- the column answers after two runs, and those of their entry calls on the columns, are the same; "where a cell lands" is none of them, "its
-- settled fields are" (document 02, request 10): its columns are one of the placements, its rows another
pub record SameColumns (p q : Run) : Type 0 where
  -- the columns' part of the state that the last call gave back
  pub state : state_in (held_by p).panel Column ≡ state_in (held_by q).panel Column
  pub size : size_of (held_by p) Column ≡ size_of (held_by q) Column
  pub lists : lists_of (held_by p) Column ≡ lists_of (held_by q) Column
  pub names : (line place : ℕ) → name_of (held_by p) Column line place ≡ name_of (held_by q) Column line place
  -- a placement is of the same axis in both; on the columns all of the answer is the same
  pub axes : (i : ℕ) → (placement_of (held_by p) i).axis ≡ (placement_of (held_by q) i).axis
  pub placements : (i : ℕ) → (placement_of (held_by p) i).axis ≡ Column → placement_of (held_by p) i ≡ placement_of (held_by q) i
  -- for any item bytes, and for the sheet's marks
  pub records : (items : List ℕ) (index : ℕ) → record_with (held_by p) Column items index ≡ record_with (held_by q) Column items index
  pub marks : marks_of (held_by p).tables Column ≡ marks_of (held_by q).tables Column
  pub marked : (index : ℕ) → record_of (held_by p) Column index ≡ record_of (held_by q) Column index
  -- a lent run of records after the call that fills it, and what that call answers
  pub lent : (items : List ℕ) (run : List GridTrack) → run_with (held_by p) Column items run ≡ run_with (held_by q) Column items run
  pub filled : (items : List ℕ) (run : List GridTrack) → fill_with (held_by p) Column items run ≡ fill_with (held_by q) Column items run
  -- of the calls in the runs, and of any one more
  pub refusals : column_refusals (sheet_held p.sheet p.tables) p.calls ≡ column_refusals (sheet_held q.sheet q.tables) q.calls
  pub refusal : (c : Call) → c.axis ≡ Column → refusal_in (held_by p) c ≡ refusal_in (held_by q) c
