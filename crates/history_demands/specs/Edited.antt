-- An edit after any acts (document 02, request 14): when it is refused by 16, and what it does to the later steps. proofs/ proves it.
use Rattle.std.specs.Prelude.{ℕ, suc, ◌≤◌, ◌<◌, ◌≡◌, ◌↔◌, true, false, List, [], ◌∷◌, ◌++◌, map, length, drop}
use Rattle.name_entries.specs.Names.{is_name}
use Rattle.history_lines.specs.Lines.{history_of}
use Rattle.sheet_rules.specs.Sheet.{sheet_of}
use Rattle.sheet_rules.specs.Panels.{Tables}
use Rattle.panel_rules.specs.Runs.{Call}
use Rattle.edit_rules.specs.Edits.{enter, edit_of}
use Rattle.edit_rules.specs.Settled.{edits_fault}
use Rattle.panel_history.specs.Names.{enter_text}
use Rattle.history_demands.specs.Acts.{InHand, Act, edit, edit_name, refusal_to, after_act, Reached, Steps, HistoryRun, AcceptedRun, reached_by, panel_held}
use Rattle.history_demands.specs.Run.{GivenBy}

-- an edit and its text: by its line, or by axis, line and a name
pub data EditBy : Act → List ℕ → Type 0 where
  by_text : (text : List ℕ) → EditBy (edit text) text
  by_name : (c : Call) → is_name c.name ≡ true → EditBy (edit_name c) (enter_text c.axis c.line c.name)

-- the steps up to the panel's own, and a new one
abbrev pub texts_with : Steps → List ℕ → List (List ℕ)
texts_with p text = p.past ++ (text ∷ [])

-- the first of all refusals of an edit but 10 and 16, 0 where there is none: those of its line, after the last line, of its entry
abbrev pub fault_with : List ℕ → Steps → List ℕ → ℕ
fault_with s p text = edits_fault (sheet_of s).view (map edit_of (texts_with p text))

-- "when its line does not fit in the bytes then free": right after the lines up to the panel's own step, since "lines dropped give their bytes back,
-- to that new edit too"
abbrev pub Fits : Steps → List ℕ → List ℕ → Type 0
Fits p text bytes = length (history_of 1 (texts_with p text)) ≤ length bytes

abbrev pub Unfit : Steps → List ℕ → List ℕ → Type 0
Unfit p text bytes = length bytes < length (history_of 1 (texts_with p text))

-- what an accepted edit leaves
pub record Taken (s : List ℕ) (t : Tables) (r : Reached) (text : List ℕ) (h : InHand) : Type 0 where
  -- "settled alike"
  pub panel : GivenBy s t (map edit_of (texts_with r.steps text)) (panel_held h)
  -- "a new edit after it drops the later steps"
  pub history : h.history ≡ record { step = suc (length r.steps.past); last = suc (length r.steps.past) }
  -- its line comes after those up to the panel's own step; "bytes past the lines stay as they were"
  pub bytes : h.bytes ≡ history_of 1 (texts_with r.steps text) ++ drop (length (history_of 1 (texts_with r.steps text))) r.held.bytes

pub record EditTheorem (s : List ℕ) (t : Tables) (r : Reached) (a : Act) (text : List ℕ) : Type 0 where
  -- it is accepted exactly where there is no refusal and its line fits
  pub accepted : (refusal_to s r.held a ≡ 0) ↔ ((fault_with s r.steps text ≡ 0) × Fits r.steps text r.held.bytes)
  -- "refuses an edit by 16, after all other refusals"
  pub sixteen : (refusal_to s r.held a ≡ 16) ↔ ((fault_with s r.steps text ≡ 0) × Unfit r.steps text r.held.bytes)
  -- and by all others before
  pub refused : (fault_with s r.steps text ≡ 0 → ⊥) → refusal_to s r.held a ≡ fault_with s r.steps text
  pub taken : refusal_to s r.held a ≡ 0 → Taken s t r text (after_act s r.held a)

abbrev pub EditStep : Type 0
EditStep =
    (r : HistoryRun) → AcceptedRun r → (a : Act) (text : List ℕ) → EditBy a text
    → EditTheorem r.sheet r.tables (reached_by r) a text

-- "a refused edit drops none": whatever is held, a refused act leaves all of it as it was
abbrev pub RefusedKeeps : Type 0
RefusedKeeps = (s : List ℕ) (h : InHand) (a : Act) → (refusal_to s h a ≡ 0 → ⊥) → after_act s h a ≡ h

-- the text of an edit by axis, line and name is read as that entry; a line outside 1..20,000 is none, and refused as one
abbrev pub NameEdit : Type 0
NameEdit = (c : Call) → is_name c.name ≡ true → 1 ≤ c.line → c.line ≤ 20000 → edit_of (enter_text c.axis c.line c.name) ≡ enter c

-- bytes that are no name are no field of a line, and refused before all else
abbrev pub NoName : Type 0
NoName = (s : List ℕ) (h : InHand) (c : Call) → is_name c.name ≡ false → refusal_to s h (edit_name c) ≡ 2
