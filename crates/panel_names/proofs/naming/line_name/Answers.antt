use mathlib.Core.Path.{◌∙◌, ap}
use mathlib.Core.List.{List}
use Prim.Native.Nat.{ℕ}
use Rattle.name_entries.specs.Entries.{name_in}
use Rattle.panel_names.proofs.LineEntries.{shown-name, no-name}
use Rattle.panel_names.proofs.naming.line_name.Goals as goal

pub returns-in_default : goal.returns-in_default
returns-in_default c = no-name _ _ _ _ _ _ c.line_entry.ensures c.in_default.is

pub returns : goal.returns
returns c = c.name_in.ensures ∙ ap (λ (s : List ℕ). name_in s c.in-Some.entry) c.store.ensures ∙ shown-name _ _ _ _ _ _ c.line_entry.ensures _ c.in-Some.is
