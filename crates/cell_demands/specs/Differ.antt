-- Where a cell lands is no column answer (document 02, Req 10): two worked runs that differ in nothing but row names and row template, whose one
-- cell lands in different rows. proofs/ proves it.
use Rattle.std.specs.Prelude.{ℕ, ◌≡◌, false, List, length, Result, Ok}
use Rattle.sheet_rules.specs.declared.LineFault.{LineFault}
use Rattle.sheet_rules.specs.Panels.{Tables}
use Rattle.sheet_rules.specs.Read.{short_stores}
use Rattle.panel_rules.specs.Alone.{Run, held_by, DifferInRows}
use Rattle.panel_rules.specs.Worked.{run_from, row_run, other_run}
use Rattle.free_cells.specs.Words.{rectangle_in}
use Rattle.cell_placing.specs.declared.Packing.{Packing}
use Rattle.panel_placing.specs.Cells.{CellsAnswered}
use Rattle.cell_demands.specs.Lines.{lent_by}

-- in either packing one cell is placed after a run, and from this row line on
abbrev pub LandsFrom : Run → ℕ → Type 0
LandsFrom p line =
    (packing : Packing) (old new : List ℕ) (r : Result ℕ LineFault) → length old ≡ 256
    → CellsAnswered (held_by p).panel.grid (lent_by (held_by p)) packing old new r → (r ≡ Ok 1) × ((rectangle_in new 0).rows.start ≡ line)

pub record LandsDiffer (t u : Tables) : Type 0 where
  pub runs : DifferInRows (run_from row_run t) (run_from other_run u)
  pub first : LandsFrom (run_from row_run t) 3
  pub second : LandsFrom (run_from other_run u) 5

-- from any tables whose stores are long enough
abbrev pub CellsDiffer : Type 0
CellsDiffer = (t u : Tables) → short_stores t ≡ false → short_stores u ≡ false → LandsDiffer t u
