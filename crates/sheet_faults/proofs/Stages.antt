-- A line that is no record stays at the stage that is reached, and so is not late. Assumes nothing.
use Rattle.std.specs.Prelude.{ℕ, ◌≡◌, cond}
use mathlib.Core.Path.{ap, ◌∙◌}
use Rattle.panel_tables.specs.declared.stage.Stage.{Stage}
use Rattle.panel_tables.specs.declared.stage.Stage.TheVariants.{Axes, Areas, Rows, Rest}
use Rattle.panel_tables.specs.Readings.{stage_number}
use Rattle.sheet_forms.specs.Faults.{first_of}
use Rattle.sheet_forms.proofs.Firsts.{first_none}
use Rattle.sheet_rules.specs.Lines.{late_at}

-- a fault of its own is then its first
pub own_first : (n : ℕ) (s : Stage) → first_of n (first_of 0 (cond (late_at (stage_number s) (stage_number s)) 7 0)) ≡ n
own_first n Axes = ap (first_of n) (first_none 0) ∙ first_none n
own_first n Areas = ap (first_of n) (first_none 0) ∙ first_none n
own_first n Rows = ap (first_of n) (first_none 0) ∙ first_none n
own_first n Rest = ap (first_of n) (first_none 0) ∙ first_none n
