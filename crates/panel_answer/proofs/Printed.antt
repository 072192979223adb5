-- From the first line on, what is printed for a sheet.
use Prim.Native.Nat.{ℕ}
use mathlib.Core.Path.{◌≡◌, refl, sym, ap, subst, ◌∙◌}
use mathlib.Core.List.{List}
use native.Mathlib.Omega.{arith}
use Rattle.std.specs.Prelude.{Result, Ok, Err}
use Rattle.coordinates.proofs.Faults.{fault_some}
use Rattle.panel_tables.specs.declared.Panel.{Panel}
use Rattle.sheet_rules.specs.declared.LineFault.{LineFault}
use Rattle.sheet_rules.specs.declared.SheetFault.{SheetFault}
use Rattle.sheet_rules.specs.declared.SheetFault.TheVariants.{Overlap, Line, Whole}
use Rattle.sheet_rules.specs.Answers.{answered_sheet, refused_with}
use Rattle.sheet_rules.specs.Panels.{Tables}
use Rattle.sheet_rules.specs.Read.{SheetRead}
use Rattle.cell_placing.specs.declared.Packing.TheVariants.{Sparse}
use Rattle.panel_placing.specs.Cells.{CellsAnswered}
use Rattle.panel_answer.specs.Answer.{GridHeld}
use Rattle.panel_answer.specs.Listed.{AnswerLine, Refused}
use Rattle.panel_answer.specs.Walk.{first_line}
use Rattle.panel_answer.specs.Text.{text_from}
use Rattle.panel_answer.specs.Printed.{lent_of, held_of, Printed, refused, unplaced, placed}
use Rattle.panel_answer.proofs.Text.{text-refused, text-whole}

-- a refused sheet has a number
refused-number : (f : SheetFault) → (refused_with f).refusal.number ≡ 0 → ⊥
refused-number (Overlap p) e = absurd (omega (arith, e))
refused-number (Line f) e = fault_some f.fault e
refused-number (Whole fault) e = fault_some fault e

-- of an accepted sheet whose cells were placed
accepted_printed : (r : SheetRead) (before lands : List ℕ) (c : Result ℕ LineFault) → r.answer.refusal.number ≡ 0
    → CellsAnswered r.answer.panel.grid (lent_of r.tables) Sparse before lands c → Printed r before (text_from (held_of r lands) (first_line c))
accepted_printed r before lands (Ok count) n c = placed n lands count c (text-whole (held_of r lands))
accepted_printed r before lands (Err fault) n c = unplaced n lands fault c (text-refused (held_of r lands) (refused_with (Line fault)).refusal)

-- of a sheet that was read, by what was answered
read_as : {r : SheetRead} {after : Tables} {read : Result Panel SheetFault} (a : Result Panel SheetFault) → record { answer = answered_sheet read; tables = after } ≡ r
    → read ≡ a → record { answer = answered_sheet a; tables = after } ≡ r
read_as {r} {after} {read} a e k = ap (λ (x : Result Panel SheetFault). record { answer = answered_sheet x; tables = after }) (sym k) ∙ e

pub refused_printed : {r : SheetRead} {after : Tables} {read : Result Panel SheetFault} (before : List ℕ) (fault : SheetFault) (h : GridHeld) (first : AnswerLine)
    → record { answer = answered_sheet read; tables = after } ≡ r → read ≡ Err fault → first ≡ Refused (refused_with fault).refusal → Printed r before (text_from h first)
refused_printed {r} {after} {read} before fault h first e k f =
    subst (λ (x : SheetRead). Printed x before (text_from h first)) (read_as (Err fault) e k)
    (refused (refused-number fault) (ap (text_from h) f ∙ text-refused h (refused_with fault).refusal))

pub placed_printed : {r : SheetRead} {after : Tables} {read : Result Panel SheetFault} (before : List ℕ) (panel : Panel) (lands : List ℕ) (c : Result ℕ LineFault) (first : AnswerLine)
    → record { answer = answered_sheet read; tables = after } ≡ r → read ≡ Ok panel → CellsAnswered panel.grid (lent_of after) Sparse before lands c → first ≡ first_line c
    → Printed r before (text_from (record { grid = panel.grid; tables = after; lands = lands }) first)
placed_printed {r} {after} {read} before panel lands c first e k a f =
    let h : GridHeld = record { grid = panel.grid; tables = after; lands = lands } in
    let read_panel : SheetRead = record { answer = answered_sheet (Ok panel); tables = after } in
    subst (λ (x : SheetRead). Printed x before (text_from h first)) (read_as (Ok panel) e k)
    (subst (λ (x : AnswerLine). Printed read_panel before (text_from h x)) (sym f) (accepted_printed read_panel before lands c refl a))
