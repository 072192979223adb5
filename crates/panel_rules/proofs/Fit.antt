-- Further entries of an axis that fit its table and its store, as the table's refusals leave them.
use Prim.Native.Nat.{◌+◌, ◌≤◌}
use mathlib.Core.List.{List, [], ◌∷◌}
use lib.ListN.{length}
use Rattle.name_rules.specs.Css.{Entry}
use Rattle.axis_tables.specs.View.{AxisView}
use Rattle.sheet_rules.specs.Panels.{entry_words}
use Rattle.panel_rules.specs.Views.{bytes_after}

-- every entry is on a line from 1 to 20,000, and its name has at most 32 bytes
abbrev pub InRange : List Entry → Type 0
InRange [] = Unit {0}
InRange (e ∷ es) = (1 ≤ e.line) × (e.line ≤ 20000) × (length e.name ≤ 32) × InRange es

pub record EntriesFit (v : AxisView) (es : List Entry) : Type 0 where
  pub few : length (entry_words v) + length es ≤ 4096
  pub bytes : length (bytes_after v es) ≤ 32768
  pub range : InRange es
