-- Document 02, Req 11, over runs: trying a call after a sheet and any entry calls answers what the run with that call answers. proofs/Runs.antt proves it.
use Rattle.std.specs.Prelude.{◌≡◌, List, [], ◌∷◌, ◌++◌, ℕ, Result, Err}
use Rattle.coordinates.specs.declared.refusal.Fault.{Fault}
use Rattle.coordinates.specs.Refusals.{no_refusal, refusal_of, number_of}
use Rattle.sheet_rules.specs.declared.LineFault.{LineFault}
use Rattle.sheet_rules.specs.Panels.{Tables}
use Rattle.panel_rules.specs.Runs.{Held, Call, refusal_in, run_of}
use Rattle.panel_hits.specs.Alone.{lent_of}
use Rattle.cell_placing.specs.declared.Packing.{Packing}
use Rattle.panel_trial.specs.declared.Trial.{Trial}
use Rattle.panel_trial.specs.declared.TrialCounts.{TrialCounts}
use Rattle.panel_trial.specs.Trial.{AnswerRuns, PanelAnswered, TrialAnswered}

-- a call that is tried
abbrev pub trial_of : Call → Packing → Trial
trial_of c packing = record { axis = c.axis; line = c.line; packing = packing }

-- the answers of a trial on what is held
abbrev pub TriedOn : Held → Call → Packing → AnswerRuns → AnswerRuns → Result TrialCounts LineFault → Type 0
TriedOn h c packing before after r = TrialAnswered h.panel (lent_of h) (trial_of c packing) c.name before after r

-- the answers of the panel that is held
abbrev pub HeldAnswered : Held → Packing → AnswerRuns → AnswerRuns → Result TrialCounts LineFault → Type 0
HeldAnswered h packing before after r = PanelAnswered h.panel.grid (lent_of h) packing before after r

-- where the run refuses the call, its refusal, and all is as it was; else the answers after the run with the call
pub data RunAnswered (sheet : List ℕ) (t : Tables) (calls : List Call) (c : Call) (packing : Packing) (before after : AnswerRuns) (r : Result TrialCounts LineFault) : Type 0 where
  refused : (fault : Fault) → refusal_in (run_of sheet t calls) c ≡ refusal_of (number_of fault) → after ≡ before → r ≡ Err (record { fault = fault; line = 0 })
      → RunAnswered sheet t calls c packing before after r
  entered : refusal_in (run_of sheet t calls) c ≡ no_refusal → HeldAnswered (run_of sheet t (calls ++ (c ∷ []))) packing before after r
      → RunAnswered sheet t calls c packing before after r

abbrev pub TriedAsRun : Type 0
TriedAsRun =
    (sheet : List ℕ) (t : Tables) (calls : List Call) (c : Call) (packing : Packing) (before after : AnswerRuns) (r : Result TrialCounts LineFault)
    → TriedOn (run_of sheet t calls) c packing before after r → RunAnswered sheet t calls c packing before after r
