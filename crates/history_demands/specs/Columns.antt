-- "The third property's column claim" over the steps up to the panel's own (document 02, request 14): two histories that differ there in nothing but
-- row names and row template have the same column answers. proofs/ proves it.
use Rattle.std.specs.Prelude.{ℕ, ◌≡◌, cond, List, [], ◌∷◌}
use Rattle.coordinates.specs.declared.axis.Axis.TheVariants.{Column}
use Rattle.track_rules.specs.declared.GridTrack.{GridTrack}
use Rattle.panel_tables.specs.Axes.{state_in}
use Rattle.panel_rules.specs.Runs.{Held, Call, refusal_in, marks_of, size_of, placement_of, lists_of, name_of, record_with, run_with, fill_with}
use Rattle.panel_rules.specs.Book.{same_axis}
use Rattle.panel_rules.specs.Alone.{row_template_line, kept_lines}
use Rattle.edit_rules.specs.Edits.{Edit, line, enter, unread}
use Rattle.history_demands.specs.Acts.{HistoryRun, AcceptedRun, reached_by, past_edits}
use Rattle.history_demands.specs.Answers.{held_at}

-- edits without `enter` and `track` of the rows; step numbers are no part of them
unfoldable pub column_edits : List Edit → List Edit
column_edits [] = []
column_edits (line fs ∷ edits) = cond (row_template_line fs) (column_edits edits) (line fs ∷ column_edits edits)
column_edits (enter c ∷ edits) = cond (same_axis Column c.axis) (enter c ∷ column_edits edits) (column_edits edits)
column_edits (unread ∷ edits) = unread ∷ column_edits edits

-- of the sheet's lines and of those edits
pub record DifferInRows (p q : HistoryRun) : Type 0 where
  pub first : AcceptedRun p
  pub second : AcceptedRun q
  pub lines : kept_lines p.sheet ≡ kept_lines q.sheet
  pub edits : column_edits (past_edits (reached_by p).steps) ≡ column_edits (past_edits (reached_by q).steps)

-- the column answers on what is held
pub record SameColumns (h g : Held) : Type 0 where
  pub state : state_in h.panel Column ≡ state_in g.panel Column
  pub size : size_of h Column ≡ size_of g Column
  pub lists : lists_of h Column ≡ lists_of g Column
  pub names : (line place : ℕ) → name_of h Column line place ≡ name_of g Column line place
  -- a placement is of the same axis in both; on the columns all of the answer is the same
  pub axes : (i : ℕ) → (placement_of h i).axis ≡ (placement_of g i).axis
  pub placements : (i : ℕ) → (placement_of h i).axis ≡ Column → placement_of h i ≡ placement_of g i
  -- for any item bytes; and the sheet's marks
  pub records : (items : List ℕ) (index : ℕ) → record_with h Column items index ≡ record_with g Column items index
  pub marks : marks_of h.tables Column ≡ marks_of g.tables Column
  -- a lent run of records after the call that fills it, and what that call answers
  pub lent : (items : List ℕ) (run : List GridTrack) → run_with h Column items run ≡ run_with g Column items run
  pub filled : (items : List ℕ) (run : List GridTrack) → fill_with h Column items run ≡ fill_with g Column items run
  -- of any one entry more
  pub refusal : (c : Call) → c.axis ≡ Column → refusal_in h c ≡ refusal_in g c

abbrev pub HistoryColumns : Type 0
HistoryColumns = (p q : HistoryRun) → DifferInRows p q → SameColumns (held_at p) (held_at q)
