-- What a draft holds after one of its parts is changed. Assumes nothing.
use Prim.Native.Nat.{ℕ}
use mathlib.Core.Path.{◌≡◌}
use mathlib.Core.List.{List}
use Rattle.coordinates.specs.declared.axis.Axis.{Axis}
use Rattle.coordinates.specs.Refusals.{refusal_of}
use Rattle.panel_tables.specs.declared.Panel.{Panel}
use Rattle.panel_tables.specs.Readings.{Reading}
use Rattle.panel_tables.specs.Regions.{area_words_in, placement_words_in}
use Rattle.panel_tables.specs.Written.{PanelStepped, panel_held_of}
use Rattle.panel_rules.specs.Calls.{name_tables_in, enter_name}
use Rattle.sheet_rules.specs.Contents.{Line}
use Rattle.sheet_faults.specs.Lines.{line_in, line_shared}
use Rattle.sheet_step.specs.declared.Draft.{Draft}
use Rattle.sheet_step.specs.Drafts.{held_of}
use Rattle.panel_edits.specs.Applied.{reopened_held, read_judgement, line_applied}
use Rattle.panel_edits.specs.Entered.{call_entered}

-- a line of an edit, by what reading it tells
pub line_said : (d : Draft) (fs : Line) (shared : ℕ) (x : PanelStepped) → x ≡ line_in (reopened_held (held_of d)) fs → shared ≡ line_shared (reopened_held (held_of d)) fs
    → record { answer = read_judgement d.panel.grid.areas shared x.fault; held = x.held } ≡ line_applied (held_of d) fs
unfolding line_applied panel_held_of
line_said d fs shared x e y = rw (y, ← e)

-- an entry leaves the areas and the placements
pub entered_same : (p after : Panel) (q : Reading) (words words_then bytes columns columns_then rows rows_then : List ℕ) (fault : ℕ) (a : Axis) (line : ℕ) (name : List ℕ)
    → record { answer = record { refusal = refusal_of fault; panel = after }; tables = name_tables_in words_then columns_then rows_then } ≡ enter_name p (name_tables_in words columns rows) a line name
    → area_words_in words_then ≡ area_words_in words → placement_words_in words_then ≡ placement_words_in words
    → record { fault = fault; held = panel_held_of after q words_then bytes columns_then rows_then }
    ≡ call_entered (panel_held_of p q words bytes columns rows) (record { axis = a; line = line; name = name })
unfolding panel_held_of
entered_same p after q words words_then bytes columns columns_then rows rows_then fault a line name e x y = rw (x, y, ← e)
