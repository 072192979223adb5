-- `palgwern_edit`, `palgwern_edit_name` and `palgwern_recall`: on a refusal the panel and the history come back as they came. An axis is a number, 0
-- the columns, 1 the rows; any other is refused by 4, after 2 for what is no name.
use Rattle.std.specs.Prelude.{ℕ, cond, List, eqb}
use Rattle.coordinates.specs.Axes.{axis_of}
use Rattle.panel_tables.specs.declared.Panel.{Panel}
use Rattle.sheet_rules.specs.Panels.{Tables}
use Rattle.library_numbers.specs.Answers.{is_axis, no_axis_entry}
use Rattle.panel_history.specs.declared.History.{History}
use Rattle.panel_history.specs.History.{EditAnswer as Edit, Handed, Answered, refused, edited, recalled}
use Rattle.panel_history.specs.Names.{edited_name}
use Rattle.palgwern.specs.declared.history.EditAnswer.{EditAnswer}
use Rattle.palgwern.specs.declared.history.NameEdit.{NameEdit}

-- the answer in numbers; a panel and a history that are not changed are handed back
abbrev pub edit_numbers : Panel → History → Edit → EditAnswer
edit_numbers p history a =
    record {
      number = a.refusal.number;
      line = a.refusal.line;
      earlier = a.earlier;
      later = a.later;
      panel = cond (eqb a.refusal.number 0) a.panel p;
      history = cond (eqb a.refusal.number 0) a.history history;
    }

-- the answer, everything lent with the panel, and the bytes of the history
pub record EditNumbers : Type 0 where
  pub answer : EditAnswer
  pub tables : Tables
  pub bytes : List ℕ

abbrev pub handed_back : Panel → Handed → Answered → EditNumbers
handed_back p h a = record { answer = edit_numbers p h.history a.answer; tables = a.tables; bytes = a.bytes }

-- ---- `palgwern_edit` and `palgwern_recall`

unfoldable pub edited_of : List ℕ → Panel → Handed → List ℕ → EditNumbers
edited_of sheet p h text = handed_back p h (edited sheet text h)

unfoldable pub recalled_of : List ℕ → Panel → Handed → ℕ → EditNumbers
recalled_of sheet p h step = handed_back p h (recalled sheet step h)

-- ---- `palgwern_edit_name`

unfoldable pub name_edited_of : List ℕ → Panel → Handed → NameEdit → List ℕ → EditNumbers
name_edited_of sheet p h entry nm =
    handed_back p h (cond (is_axis entry.axis) (edited_name sheet (axis_of entry.axis) entry.line nm h) (refused (no_axis_entry nm) h))
