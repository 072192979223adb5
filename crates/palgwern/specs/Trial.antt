-- `palgwern_try_name`: an axis is a number, 0 the columns, 1 the rows, and a packing, 0 sparse, 1 dense; any other is refused by 4, after 2 for what
-- is no name.
use Rattle.std.specs.Prelude.{ℕ, ◌≡◌, cond, List, Option, Some, None, Result, Ok, Err}
use Rattle.coordinates.specs.Axes.{axis_of}
use Rattle.coordinates.specs.Refusals.{number_of}
use Rattle.panel_tables.specs.declared.Panel.{Panel}
use Rattle.sheet_rules.specs.declared.LineFault.{LineFault}
use Rattle.library_numbers.specs.Answers.{is_axis, no_axis_entry}
use Rattle.panel_hits.specs.Settled.{Lent}
use Rattle.cell_placing.specs.declared.Packing.{Packing}
use Rattle.panel_trial.specs.declared.Trial.{Trial}
use Rattle.panel_trial.specs.declared.TrialCounts.{TrialCounts}
use Rattle.panel_trial.specs.Trial.{AnswerRuns, TrialAnswered}
use Rattle.palgwern.specs.declared.trial.NameTrial.{NameTrial}
use Rattle.palgwern.specs.declared.trial.NameTrialAnswer.{NameTrialAnswer}
use Rattle.palgwern.specs.Cells.{packing_in}

-- what is tried with a packing, where there is one
abbrev pub with_packing : NameTrial → Option Packing → Option Trial
with_packing t None = None
with_packing t (Some packing) = Some (record { axis = axis_of t.axis; line = t.line; packing = packing })

-- what is tried by numbers, where they are those of an axis and of a packing
abbrev pub trial_in : NameTrial → Option Trial
trial_in t = cond (is_axis t.axis) (with_packing t (packing_in t.packing)) None

-- how many placements are settled and how many cells land, or the number of the refusal, its line and zeros
abbrev pub trial_numbers : Result TrialCounts LineFault → NameTrialAnswer
trial_numbers (Ok counts) = record { number = 0; line = 0; placements = counts.placements; cells = counts.cells }
trial_numbers (Err told) = record { number = number_of told.fault; line = told.line; placements = 0; cells = 0 }

-- what is answered, and what the lent runs hold then: for a number that is no axis or no packing all as it was; else what a trial answers and leaves
pub data NameTried (p : Panel) (l : Lent) (t : NameTrial) (name : List ℕ) (before after : AnswerRuns) (r : NameTrialAnswer) : Type 0 where
  untried : trial_in t ≡ None → after ≡ before → r ≡ record { number = no_axis_entry name; line = 0; placements = 0; cells = 0 } → NameTried p l t name before after r
  answered : (trial : Trial) (tried : Result TrialCounts LineFault) → trial_in t ≡ Some trial → TrialAnswered p l trial name before after tried → r ≡ trial_numbers tried
      → NameTried p l t name before after r
