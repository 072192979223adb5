-- Acts through a history (document 02, request 14): edits and recalls, one after the other. "All this holds where every edit goes through the
-- history, each call gets what the last left and nobody else writes it." They step by the definitions that the contracts of the calls cite.
use Rattle.std.specs.Prelude.{ℕ, List, [], ◌∷◌, ◌++◌, map, cond, max, eqb, length, take, drop}
use Rattle.history_lines.specs.Lines.{history_of}
use Rattle.panel_tables.specs.declared.Panel.{Panel}
use Rattle.sheet_rules.specs.Panels.{Tables}
use Rattle.panel_rules.specs.Runs.{Held, Call, Accepted, sheet_held}
use Rattle.edit_rules.specs.Edits.{Edit, edit_of}
use Rattle.panel_history.specs.declared.History.{History}
use Rattle.panel_history.specs.History.{Handed, Answered, zero_history, edited, recalled}
use Rattle.panel_history.specs.Names.{enter_text, edited_name}

-- ---- what is held, and an act on it

-- the panel, the step and the last step, everything lent with the panel, and the bytes of the history
pub record InHand : Type 0 where
  pub panel : Panel
  pub history : History
  pub tables : Tables
  pub bytes : List ℕ

-- an edit by the text of its line, an edit by axis, line and name, a recall
pub data Act : Type 0 where
  edit : List ℕ → Act
  edit_name : Call → Act
  recall : ℕ → Act

-- beside the sheet and the act: what a call gets
abbrev pub handed : InHand → Handed
handed h = record { history = h.history; tables = h.tables; bytes = h.bytes }

-- what it answers and leaves
abbrev pub answer_to : List ℕ → InHand → Act → Answered
answer_to s h (edit text) = edited s text (handed h)
answer_to s h (edit_name c) = edited_name s c.axis c.line c.name (handed h)
answer_to s h (recall k) = recalled s k (handed h)

-- the refusal of an act, 0 where it is accepted
abbrev pub refusal_to : List ℕ → InHand → Act → ℕ
refusal_to s h a = (answer_to s h a).answer.refusal.number

-- what is held after an answer: on a refusal the panel and the step as they came
abbrev pub after_answer : InHand → Answered → InHand
after_answer h r =
    cond (eqb r.answer.refusal.number 0)
    (record { panel = r.answer.panel; history = r.answer.history; tables = r.tables; bytes = r.bytes })
    (record { panel = h.panel; history = h.history; tables = r.tables; bytes = r.bytes })

abbrev pub after_act : List ℕ → InHand → Act → InHand
after_act s h a = after_answer h (answer_to s h a)

-- after a sheet: "step 0 is the panel before them", any bytes are lent
abbrev pub begun : List ℕ → Tables → List ℕ → InHand
begun s t bytes = record { panel = (sheet_held s t).panel; history = zero_history; tables = (sheet_held s t).tables; bytes = bytes }

-- ---- the steps: the texts up to the panel's own, and those of the later ones

pub record Steps : Type 0 where
  pub past : List (List ℕ)
  pub future : List (List ℕ)

abbrev pub no_steps : Steps
no_steps = record { past = []; future = [] }

-- all of them, from step 1 on
abbrev pub all_steps : Steps → List (List ℕ)
all_steps p = p.past ++ p.future

-- "takes each accepted edit"; "a new edit after it drops the later steps"
abbrev pub with_edit : Steps → List ℕ → Steps
with_edit p text = record { past = p.past ++ (text ∷ []); future = [] }

-- "Recall to a step": "those first edits alone" are up to the panel's own then, and the others stay
abbrev pub at_step : Steps → ℕ → Steps
at_step p k = record { past = take k (all_steps p); future = drop k (all_steps p) }

abbrev pub moved : Steps → Act → Steps
moved p (edit text) = with_edit p text
moved p (edit_name c) = with_edit p (enter_text c.axis c.line c.name)
moved p (recall k) = at_step p k

-- a refused act changes nothing: "a refused edit drops none", and "an edit refused by 16 is no part of a run"
abbrev pub steps_after : List ℕ → InHand → Steps → Act → Steps
steps_after s h p a = cond (eqb (refusal_to s h a) 0) (moved p a) p

-- ---- acts one after the other

-- what is held, its steps, and the farthest byte that lines have reached
pub record Reached : Type 0 where
  pub held : InHand
  pub steps : Steps
  pub farthest : ℕ

abbrev pub next : List ℕ → Reached → Act → Reached
next s r a =
    let p : Steps = steps_after s r.held r.steps a in
    record { held = after_act s r.held a; steps = p; farthest = max r.farthest (length (history_of 1 (all_steps p))) }

unfoldable pub acts_from : List ℕ → Reached → List Act → Reached
acts_from s r [] = r
acts_from s r (a ∷ acts) = acts_from s (next s r a) acts

-- a sheet, everything lent to its call, the bytes lent for the history, and the acts
pub record HistoryRun : Type 0 where
  pub sheet : List ℕ
  pub tables : Tables
  pub bytes : List ℕ
  pub acts : List Act

abbrev pub AcceptedRun : HistoryRun → Type 0
AcceptedRun r = Accepted r.sheet r.tables

-- from step 0 on
abbrev pub reached_by : HistoryRun → Reached
reached_by r = acts_from r.sheet (record { held = begun r.sheet r.tables r.bytes; steps = no_steps; farthest = 0 }) r.acts

-- the panel and its tables
abbrev pub panel_held : InHand → Held
panel_held h = record { panel = h.panel; tables = h.tables }

-- the edits up to the panel's own step
abbrev pub past_edits : Steps → List Edit
past_edits p = map edit_of p.past
