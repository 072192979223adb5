-- The steps of making the edits of a history again: its lines one after the other, each read and done on what a draft holds.
use Rattle.std.specs.Prelude.{ℕ, zero, suc, ◌≡◌, List, [], ◌∷◌, ◌++◌, map, false, Option, Some, None, Result, Ok, Err, ◌||◌, cond, eqb, ltb, length}
use Rattle.coordinates.specs.Refusals.{short, no_step}
use Rattle.text.specs.Places.{part_at}
use Rattle.history_lines.specs.declared.HistoryLine.{HistoryLine}
use Rattle.history_lines.specs.Lines.{history_of}
use Rattle.history_lines.specs.Found.{line_at}
use Rattle.panel_tables.specs.View.{PanelView}
use Rattle.panel_tables.specs.Written.{PanelHeld, PanelStepped}
use Rattle.sheet_rules.specs.declared.SheetFault.{SheetFault}
use Rattle.sheet_rules.specs.Answers.{SheetAnswer, refused_with}
use Rattle.sheet_rules.specs.Panels.{Tables}
use Rattle.sheet_rules.specs.Read.{short_stores}
use Rattle.panel_rules.specs.Runs.{Held}
use Rattle.sheet.specs.Runs.{held_end}
use Rattle.sheet.specs.Steps.{refused_answer, copied}
use Rattle.edit_rules.specs.Edits.{Edit, edit_of}
use Rattle.edit_rules.specs.Replay.{edited_by}
use Rattle.edit_rules.specs.Settled.{edits_fault, edits_held}
use Rattle.panel_edits.specs.Steps.{TextStep}
use Rattle.panel_edits.specs.Entered.{entered}
use Rattle.panel_history.specs.History.{first_texts, Handed, Answered, refused_as, edited_by_texts}

-- after lines: the refusal of one, 17 where it does not stand there; the place after them; and what is held
pub record Passed : Type 0 where
  pub fault : ℕ
  pub place : ℕ
  pub held : PanelHeld

abbrev pub stopped : ℕ → PanelHeld → Passed
stopped fault h = record { fault = fault; place = 0; held = h }

-- after a line that was done
abbrev pub passed_on : (PanelHeld → Passed) → PanelStepped → Passed
passed_on next a = cond (eqb a.fault 0) (next a.held) (stopped a.fault a.held)

abbrev pub passed_line : TextStep → List ℕ → (ℕ → PanelHeld → Passed) → PanelHeld → Option HistoryLine → Passed
passed_line f s next h None = stopped no_step h
passed_line f s next h (Some line) = passed_on (next line.after) (f h (part_at s line.text))

-- k lines, numbered from n on, from a place on
unfoldable pub passed_from : TextStep → ℕ → ℕ → List ℕ → ℕ → PanelHeld → Passed
passed_from f zero n s place h = record { fault = 0; place = place; held = h }
passed_from f (suc k) n s place h = passed_line f s (passed_from f k (suc n) s) h (line_at n s place)

-- the first lines
abbrev pub passed : TextStep → ℕ → List ℕ → PanelHeld → Passed
passed f k s h = passed_from f k 1 s 0 h

-- the place after lines of which none is refused, and what is held
pub record Placed : Type 0 where
  pub place : Option ℕ
  pub held : PanelHeld

abbrev pub placed_in : Passed → Placed
placed_in p = record { place = cond (eqb p.fault 0) (Some p.place) None; held = p.held }

-- the refusal, and what is held
abbrev pub stepped_in : Passed → PanelStepped
stepped_in p = record { fault = p.fault; held = p.held }

-- ---- the end, and the entries after it

-- a step after one that is not refused
abbrev pub then_step : PanelStepped → (PanelHeld → PanelStepped) → PanelStepped
then_step a next = cond (eqb a.fault 0) (next a.held) a

abbrev pub end_step : PanelHeld → PanelStepped
end_step h = record { fault = (held_end 0 h).fault; held = (held_end 0 h).held }

-- the end, and the entries of the first lines
unfoldable pub ended_lines : ℕ → List ℕ → PanelHeld → PanelStepped
ended_lines k s h = then_step (end_step h) (λ g. stepped_in (passed entered k s g))

-- and one more
unfoldable pub ended_edit : ℕ → List ℕ → List ℕ → PanelHeld → PanelStepped
ended_edit k s text h = then_step (ended_lines k s h) (λ g. entered g text)

-- ---- what the edits of the first lines come to after a view

-- the panel and the tables that a draft is copied out to
abbrev pub copied_out : PanelHeld → Tables → Held
copied_out h t = record { panel = h.panel; tables = copied h t.column_store t.row_store }

-- they are what edits leave, in stores that are long enough
abbrev pub Settles : PanelView → List Edit → PanelHeld → Type 0
Settles v edits h = (t : Tables) → short_stores t ≡ false → copied_out h t ≡ edits_held v t edits

-- lines that were done: their texts, of which none is refused, and what is held
pub record StepsMade (v : PanelView) (k : ℕ) (s : List ℕ) (h : PanelHeld) : Type 0 where
  pub texts : List (List ℕ)
  pub found : first_texts k s ≡ Some texts
  pub accepted : edits_fault v (map edit_of texts) ≡ 0
  pub settles : Settles v (map edit_of texts) h

-- or they do not stand there, or are refused
abbrev pub StepsAsked : PanelView → ℕ → List ℕ → Option (Unit {0}) → PanelHeld → Type 0
StepsAsked v k s None h = (texts : List (List ℕ)) → first_texts k s ≡ Some texts → edits_fault v (map edit_of texts) ≡ 0 → ⊥
StepsAsked v k s (Some u) h = StepsMade v k s h

-- ---- the stores

-- "a line-name store below 32,768 bytes": 10
abbrev pub stores_judgement : List ℕ → List ℕ → SheetAnswer
stores_judgement column_store row_store = refused_answer (cond (ltb (length column_store) 32768 || ltb (length row_store) 32768) short 0) 0

-- ---- and an edit after them

abbrev pub with_edit : List (List ℕ) → List ℕ → List Edit
with_edit texts text = map edit_of texts ++ (edit_of text ∷ [])

-- one that was done, with the place of its line
pub record EditMade (v : PanelView) (k : ℕ) (s text : List ℕ) (place : ℕ) (h : PanelHeld) : Type 0 where
  pub texts : List (List ℕ)
  pub found : first_texts k s ≡ Some texts
  pub ends : place ≡ length (history_of 1 texts)
  pub past : (edited_by v (map edit_of texts)).fault ≡ 0
  pub accepted : edits_fault v (with_edit texts text) ≡ 0
  pub settles : Settles v (with_edit texts text) h

abbrev pub refused_call : SheetFault → Handed → Answered
refused_call fault h = record { answer = refused_as (refused_with fault); tables = h.tables; bytes = h.bytes }

-- or it is refused, whatever is lent
abbrev pub EditAsked : PanelView → ℕ → List ℕ → List ℕ → Result ℕ SheetFault → PanelHeld → Type 0
EditAsked v k s text (Err fault) held = (h : Handed) → refused_call fault h ≡ edited_by_texts v (first_texts k s) text h
EditAsked v k s text (Ok place) held = EditMade v k s text place held
