-- What the calls on a history answer and leave, whatever the sheet, the state, the tables and the bytes hold (document 02, request 14).
use Rattle.std.specs.Prelude.{ℕ, zero, suc, ◌+◌, List, [], ◌∷◌, ◌++◌, map, cond, eqb, leb, ltb, length, Option, Some, None, Result, Ok, Err}
use Rattle.coordinates.specs.Refusals.{Refusal, no_refusal, refusal_of, short, history_full, no_step}
use Rattle.text.specs.Places.{part_at}
use Rattle.history_lines.specs.declared.HistoryLine.{HistoryLine}
use Rattle.history_lines.specs.Lines.{history_line, history_of}
use Rattle.history_lines.specs.Found.{line_at}
use Rattle.history_lines.specs.Written.{bytes_after}
use Rattle.panel_tables.specs.declared.Panel.{Panel}
use Rattle.panel_tables.specs.View.{PanelView}
use Rattle.panel_tables.specs.Written.{zero_panel}
use Rattle.sheet_rules.specs.declared.Overlap.{Overlap}
use Rattle.sheet_rules.specs.declared.SheetFault.{SheetFault}
use Rattle.sheet_rules.specs.Answers.{SheetAnswer, refused_with}
use Rattle.sheet_rules.specs.Sheet.{Outcome, no_overlap, overlap_of}
use Rattle.sheet_rules.specs.Panels.{Tables}
use Rattle.sheet_rules.specs.Read.{short_stores}
use Rattle.edit_rules.specs.Edits.{Edit, line, enter, unread, edit_of}
use Rattle.edit_rules.specs.Replay.{edited_by, edit_overlap}
use Rattle.edit_rules.specs.Settled.{view_by, edits_fault, edits_held}
use Rattle.edit_rules.specs.Bases.{base_of}
use Rattle.panel_history.specs.declared.History.{History}
use Rattle.panel_history.specs.declared.Edited.{Edited}

-- ---- the texts of the first lines of a history

-- a text before others
abbrev pub onto : List ℕ → Option (List (List ℕ)) → Option (List (List ℕ))
onto text None = None
onto text (Some texts) = Some (text ∷ texts)

abbrev pub text_before : List ℕ → (ℕ → Option (List (List ℕ))) → Option HistoryLine → Option (List (List ℕ))
text_before s rest None = None
text_before s rest (Some found) = onto (part_at s found.text) (rest found.after)

-- those of k lines, numbered from n on, from a place on; none where one of them does not stand there
unfoldable pub texts_from : ℕ → ℕ → List ℕ → ℕ → Option (List (List ℕ))
texts_from zero n s place = Some []
texts_from (suc k) n s place = text_before s (texts_from k (suc n) s) (line_at n s place)

-- of the first k steps, "from its first byte on: a step number from 1"
abbrev pub first_texts : ℕ → List ℕ → Option (List (List ℕ))
first_texts k s = texts_from k 1 s 0

-- ---- what a call is handed, and what it answers and leaves

-- beside the sheet and the edit: the step, everything lent with the panel, and the bytes of the history
pub record Handed : Type 0 where
  pub history : History
  pub tables : Tables
  pub bytes : List ℕ

-- a refusal with the pair of areas of 12, else zeros; or the panel and the steps
pub record EditAnswer : Type 0 where
  pub refusal : Refusal
  pub earlier : ℕ
  pub later : ℕ
  pub panel : Panel
  pub history : History

-- an answer, and what is lent then
pub record Answered : Type 0 where
  pub answer : EditAnswer
  pub tables : Tables
  pub bytes : List ℕ

abbrev pub zero_history : History
zero_history = record { step = 0; last = 0 }

-- as a refused sheet is answered
abbrev pub refused_as : SheetAnswer → EditAnswer
refused_as a = record { refusal = a.refusal; earlier = a.earlier; later = a.later; panel = zero_panel; history = zero_history }

-- the numbers and values of what a call answers
abbrev pub answered_edit : Result Edited SheetFault → EditAnswer
answered_edit (Ok e) = record { refusal = no_refusal; earlier = 0; later = 0; panel = e.panel; history = e.history }
answered_edit (Err fault) = refused_as (refused_with fault)

-- "all other answer fields zero and every lent buffer untouched"
abbrev pub refused_with_pair : Refusal → Overlap → Handed → Answered
refused_with_pair r pair h =
    record {
      answer = record { refusal = r; earlier = pair.earlier; later = pair.later; panel = zero_panel; history = zero_history };
      tables = h.tables;
      bytes = h.bytes;
    }

abbrev pub refused : ℕ → Handed → Answered
refused n h = refused_with_pair (refusal_of n) no_overlap h

-- a sheet whose lines are refused, at their line, as reading it refuses them
abbrev pub sheet_refused : Outcome → Overlap → Handed → Answered
sheet_refused o pair h = refused_with_pair (record { number = o.fault; line = o.line }) pair h

-- the panel that edits after a view give, the step and the last step then, and the bytes of the history
abbrev pub settled : PanelView → List Edit → History → List ℕ → Handed → Answered
settled v edits history bytes h =
    record {
      answer = record { refusal = no_refusal; earlier = 0; later = 0; panel = (edits_held v h.tables edits).panel; history = history };
      tables = (edits_held v h.tables edits).tables;
      bytes = bytes;
    }

-- ---- an edit

-- the pair of its refusal by 12
abbrev pub pair_of : PanelView → List Edit → Edit → Overlap
pair_of v past (line fs) = edit_overlap (view_by v past) fs
pair_of v past (enter c) = no_overlap
pair_of v past unread = no_overlap

-- "a new edit after it drops the later steps. Lines dropped give their bytes back, to that new edit too": its line comes right after those of the
-- steps up to the panel's own. "Refuses an edit by 16, after all other refusals, when its line does not fit in the bytes then free"
abbrev pub written : PanelView → List Edit → Edit → ℕ → List ℕ → Handed → Answered
written v past e place added h =
    cond (leb (place + length added) (length h.bytes))
    (settled v (past ++ (e ∷ [])) (record { step = suc h.history.step; last = suc h.history.step }) (bytes_after h.bytes place added) h)
    (refused history_full h)

-- after the edits of the lines before it, which are accepted: the first of its faults; a short store; its bytes
unfoldable pub edited_after : PanelView → List Edit → Edit → ℕ → List ℕ → Handed → Answered
edited_after v past e place added h =
    cond (eqb (edits_fault v (past ++ (e ∷ []))) 0)
    (cond (short_stores h.tables) (refused short h) (written v past e place added h))
    (refused_with_pair (refusal_of (edits_fault v (past ++ (e ∷ [])))) (pair_of v past e) h)

-- a history that has no such lines, or lines that are no accepted edits, was written by no call: 17
abbrev pub edited_by_texts : PanelView → Option (List (List ℕ)) → List ℕ → Handed → Answered
edited_by_texts v None text h = refused no_step h
edited_by_texts v (Some texts) text h =
    cond (eqb (edited_by v (map edit_of texts)).fault 0)
    (edited_after v (map edit_of texts) (edit_of text) (length (history_of 1 texts)) (history_line (suc h.history.step) text) h)
    (refused no_step h)

unfoldable pub edited : List ℕ → List ℕ → Handed → Answered
edited sheet text h =
    cond (eqb (base_of sheet).fault 0)
    (edited_by_texts (base_of sheet).view (first_texts h.history.step h.bytes) text h)
    (sheet_refused (base_of sheet) (overlap_of sheet) h)

-- ---- a recall

-- "Recall to a step yields the panel that those first edits alone give"; the later steps stay
abbrev pub recalled_by_texts : PanelView → Option (List (List ℕ)) → ℕ → Handed → Answered
recalled_by_texts v None step h = refused no_step h
recalled_by_texts v (Some texts) step h =
    cond (eqb (edits_fault v (map edit_of texts)) 0)
    (settled v (map edit_of texts) (record { step = step; last = h.history.last }) h.bytes h)
    (refused no_step h)

-- "a step above the last by 17", after 10
unfoldable pub recalled : List ℕ → ℕ → Handed → Answered
recalled sheet step h =
    cond (eqb (base_of sheet).fault 0)
    (cond (short_stores h.tables) (refused short h)
    (cond (ltb h.history.last step) (refused no_step h)
    (recalled_by_texts (base_of sheet).view (first_texts step h.bytes) step h)))
    (sheet_refused (base_of sheet) (overlap_of sheet) h)
