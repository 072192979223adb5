-- What the panel program prints for a sheet (document 01, panel sheet; document 02, Req 10).
use Rattle.std.specs.Prelude.{ℕ, ◌≡◌, List, Ok, Err}
use Rattle.sheet_rules.specs.declared.LineFault.{LineFault}
use Rattle.sheet_rules.specs.declared.SheetFault.TheVariants.{Line}
use Rattle.sheet_rules.specs.Answers.{refused_with}
use Rattle.sheet_rules.specs.Panels.{Tables}
use Rattle.sheet_rules.specs.Read.{SheetRead, read_sheet}
use Rattle.panel_rules.specs.Runs.{names_of, areas_of, placements_of}
use Rattle.panel_hits.specs.Settled.{Lent}
use Rattle.cell_placing.specs.declared.Packing.TheVariants.{Sparse}
use Rattle.panel_placing.specs.Cells.{CellsAnswered}
use Rattle.panel_text.specs.Lines.{refused_line}
use Rattle.panel_answer.specs.Answer.{GridHeld, answer_lines, text_of}

-- what is lent to a placing, of the tables of a panel
abbrev pub lent_of : Tables → Lent
lent_of t = record { names = names_of t; areas = areas_of t; placements = placements_of t }

-- what answers once a sheet is read and its cells land there
abbrev pub held_of : SheetRead → List ℕ → GridHeld
held_of r lands = record { grid = r.answer.panel.grid; tables = r.tables; lands = lands }

-- all that is printed for what a sheet was read as; `before` is what the words for the cells held
pub data Printed (r : SheetRead) (before text : List ℕ) : Type 0 where
  -- "a refused sheet prints only `refused`, number, line (0 if too long)"
  refused : (r.answer.refusal.number ≡ 0 → ⊥) → text ≡ refused_line r.answer.refusal → Printed r before text
  -- of an accepted sheet the cells are placed, "the panel program: sparse"; "the panel stays accepted, but the program prints only this refusal"
  unplaced : r.answer.refusal.number ≡ 0 → (lands : List ℕ) (fault : LineFault) → CellsAnswered r.answer.panel.grid (lent_of r.tables) Sparse before lands (Err fault)
      → text ≡ refused_line (refused_with (Line fault)).refusal → Printed r before text
  -- every line, and each cell where it landed
  placed : r.answer.refusal.number ≡ 0 → (lands : List ℕ) (count : ℕ) → CellsAnswered r.answer.panel.grid (lent_of r.tables) Sparse before lands (Ok count)
      → text ≡ text_of (answer_lines (held_of r lands)) → Printed r before text

-- the same for a sheet, with those tables lent
abbrev pub PrintedFor : List ℕ → Tables → List ℕ → List ℕ → Type 0
PrintedFor sheet t before text = Printed (read_sheet sheet t) before text
