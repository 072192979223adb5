-- A panel with another inner size of an axis (SHEET.md, Calls), whatever the panel, the words and the stores hold.
use Rattle.std.specs.Prelude.{ℕ, List, cond, eqb}
use Rattle.coordinates.specs.declared.axis.Axis.{Axis}
use Rattle.coordinates.specs.declared.axis.Axis.TheVariants.{Column, Row}
use Rattle.coordinates.specs.Refusals.{no_refusal, refusal_of, value, short}
use Rattle.sizing.specs.Ranges.{length_in_range}
use Rattle.panel_tables.specs.declared.Panel.{Panel}
use Rattle.panel_tables.specs.Axes.{state_in, with_state}
use Rattle.sheet_end.specs.End.{EndedAxis}
use Rattle.panel_rules.specs.Calls.{NameTables, words_in, short_names, EntryAnswer}
use Rattle.panel_resized.specs.Axes.{resized_axis}

-- an axis of the panel
abbrev pub resized_in : Panel → NameTables → Axis → ℕ → EndedAxis
resized_in p t a inner = resized_axis (state_in p a) (words_in t a) inner

-- the words of an axis anew; those of the other and both stores stay
abbrev pub with_words : NameTables → Axis → List ℕ → NameTables
with_words t Column words = record { columns = words; rows = t.rows; column_store = t.column_store; row_store = t.row_store }
with_words t Row words = record { columns = t.columns; rows = words; column_store = t.column_store; row_store = t.row_store }

-- 3 a size outside its range, then what refuses the axis, then 10 where either store is short
unfoldable pub resize_refusal : Panel → NameTables → Axis → ℕ → ℕ
resize_refusal p t a inner =
    cond (length_in_range inner)
    (cond (eqb (resized_in p t a inner).answer.fault 0) (cond (short_names t) short 0) (resized_in p t a inner).answer.fault)
    value

-- the panel with that size, on a refusal as it came, and what is lent then
pub record ResizedPanel : Type 0 where
  pub answer : EntryAnswer
  pub tables : NameTables

abbrev pub resized_to : Panel → NameTables → Axis → EndedAxis → ResizedPanel
resized_to p t a e = record { answer = record { refusal = no_refusal; panel = with_state p a e.answer.state }; tables = with_words t a e.words }

abbrev pub refused_resize : Panel → NameTables → ℕ → ResizedPanel
refused_resize p t n = record { answer = record { refusal = refusal_of n; panel = p }; tables = t }

unfoldable pub resized_panel : Panel → NameTables → Axis → ℕ → ResizedPanel
resized_panel p t a inner =
    cond (eqb (resize_refusal p t a inner) 0) (resized_to p t a (resized_in p t a inner)) (refused_resize p t (resize_refusal p t a inner))
