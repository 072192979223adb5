-- What is held after any acts from an accepted sheet (document 02, request 14). proofs/ proves it.
use Rattle.std.specs.Prelude.{ℕ, ◌≡◌, List, ◌++◌, map, length, take, drop}
use Rattle.history_lines.specs.Lines.{history_of}
use Rattle.sheet_rules.specs.Sheet.{sheet_of}
use Rattle.sheet_rules.specs.Panels.{Tables}
use Rattle.panel_rules.specs.Runs.{Held}
use Rattle.edit_rules.specs.Edits.{Edit, edit_of}
use Rattle.edit_rules.specs.Settled.{edits_fault, edits_held}
use Rattle.history_demands.specs.Acts.{Reached, all_steps, HistoryRun, AcceptedRun, reached_by, panel_held, past_edits}

-- stores as long as those of other tables
pub record AsLong (t u : Tables) : Type 0 where
  pub columns : length t.column_store ≡ length u.column_store
  pub rows : length t.row_store ≡ length u.row_store

-- "the panel that those first edits alone give, settled alike": what is held after them on a sheet, in tables with stores as long as those lent
pub record GivenBy (s : List ℕ) (t : Tables) (edits : List Edit) (h : Held) : Type 0 where
  pub lent : Tables
  pub stores : AsLong lent t
  pub held : h ≡ edits_held (sheet_of s).view lent edits

-- after acts on a sheet, from tables and bytes lent
pub record RunTheorem (s : List ℕ) (t : Tables) (bytes : List ℕ) (r : Reached) : Type 0 where
  -- the panel is that of the steps up to its own, whatever acts came between
  pub panel : GivenBy s t (past_edits r.steps) (panel_held r.held)
  pub step : r.held.history.step ≡ length r.steps.past
  pub last : r.held.history.last ≡ length (all_steps r.steps)
  -- "takes each accepted edit as a tabbed line from its first byte on: a step number from 1"
  pub lines : r.held.bytes ≡ history_of 1 (all_steps r.steps) ++ drop (length (history_of 1 (all_steps r.steps))) r.held.bytes
  -- "bytes past the lines stay as they were": those that no line has reached
  pub beyond : drop r.farthest r.held.bytes ≡ drop r.farthest bytes
  pub long : length r.held.bytes ≡ length bytes
  -- the first steps alone, as many as there are or fewer, are accepted
  pub accepted : (k : ℕ) → edits_fault (sheet_of s).view (map edit_of (take k (all_steps r.steps))) ≡ 0

abbrev pub RunHeld : Type 0
RunHeld = (r : HistoryRun) → AcceptedRun r → RunTheorem r.sheet r.tables r.bytes (reached_by r)
