-- What is printed for a sheet is one text, and of an accepted one with its cells placed it has a line for each. Assumes nothing.
use Prim.Native.Nat.{ℕ, ◌≤◌, ◌<◌}
use mathlib.Core.Path.{◌≡◌, sym, ap, ◌∙◌, fun_ext}
use mathlib.Core.Bool.{Bool, true, false, true≢false}
use mathlib.Core.List.{List, [], ◌++◌}
use mathlib.Core.Logic.{inl, inr, ◌⊎◌}
use native.Mathlib.Omega.{arith}
use lib.ListN.{length}
use Rattle.std.specs.Prelude.{Result, Ok, Err}
use Rattle.coordinates.proofs.Lines.{lt_or_ge}
use Rattle.coordinates.specs.declared.axis.Axis.TheVariants.{Column, Row}
use Rattle.track_rules.specs.Records.{listed}
use Rattle.free_cells.specs.declared.Rectangle.{Rectangle}
use Rattle.free_cells.specs.Words.{rectangle_of, rectangle_in}
use Rattle.cell_placing.specs.declared.Packing.{Packing}
use Rattle.cell_placing.specs.declared.Packing.TheVariants.{Sparse}
use Rattle.panel_tables.specs.declared.Grid.{Grid}
use Rattle.sheet_rules.specs.declared.LineFault.{LineFault}
use Rattle.sheet_rules.specs.declared.SheetFault.TheVariants.{Line}
use Rattle.sheet_rules.specs.Answers.{refused_with}
use Rattle.sheet_rules.specs.Panels.{Tables}
use Rattle.sheet_rules.specs.Read.{SheetRead, read_sheet}
use Rattle.panel_rules.specs.Runs.{Accepted}
use Rattle.panel_hits.specs.Settled.{Lent}
use Rattle.panel_placing.specs.Cells.{cells_in, CellsAnswered, answered}
use Rattle.panel_placing.specs.Cells as Cells
use Rattle.panel_placing.specs.Theorem.{placed_cells, CellsTheorem}
use Rattle.panel_placing.proofs.Theorem.{cells-theorem}
use Rattle.panel_text.specs.Lines.{cell_line, refused_line}
use Rattle.panel_answer.specs.Answer.{answer_lines, place_line_of, axis_lines, text_of}
use Rattle.panel_answer.specs.Printed.{lent_of, held_of, Printed, refused, unplaced, placed}
use Rattle.panel_answer.proofs.Counted.{every_cell}

-- an answer is a count or a fault
abbrev counts : Result ℕ LineFault → Bool
counts (Ok n) = true
counts (Err f) = false

not_both : (n : ℕ) (f : LineFault) → ◌≡◌ {A = Result ℕ LineFault} (Ok n) (Err f) → ⊥
not_both n f e = true≢false (ap counts e)

-- the text of a placing that is refused
abbrev told : Result ℕ LineFault → List ℕ
told (Ok n) = []
told (Err f) = refused_line (refused_with (Line f)).refusal

module _ (g : Grid) (l : Lent) (packing : Packing) (before : List ℕ) (long : length before ≡ 256) where
  -- two placings beside the same words answer the same, and leave the same rectangles
  same_answer : (lands other : List ℕ) (c d : Result ℕ LineFault) → CellsAnswered g l packing before lands c → CellsAnswered g l packing before other d → d ≡ c
  same_answer lands other c d a b = ((cells-theorem g l packing before lands c long a).only before other d long b).0

  same_land : (lands other : List ℕ) (n m : ℕ) → CellsAnswered g l packing before lands (Ok n) → CellsAnswered g l packing before other (Ok m) → (k : ℕ) → rectangle_in other k ≡ rectangle_in lands k
  same_land lands other n m a b k = go (lt_or_ge k n)
    where
      t : CellsTheorem g l packing before lands (Ok n)
      t = cells-theorem g l packing before lands (Ok n) long a

      count : m ≡ n
      count = ap placed_cells (t.only before other (Ok m) long b).0

      go : (k < n) ⊎ (n ≤ k) → rectangle_in other k ≡ rectangle_in lands k
      go (inl h) = (t.only before other (Ok m) long b).1 k h
      go (inr h) = ap rectangle_of ((cells-theorem g l packing before other (Ok m) long b).past k (omega (arith, h, count)) ∙ sym (t.past k h))

-- so all lines of an answer are the same
same_lines : (r : SheetRead) (lands other : List ℕ) → ((k : ℕ) → rectangle_in other k ≡ rectangle_in lands k) → answer_lines (held_of r other) ≡ answer_lines (held_of r lands)
unfolding answer_lines
same_lines r lands other e =
    ap (λ (f : ℕ → Rectangle). axis_lines (held_of r lands) Column ++ (axis_lines (held_of r lands) Row ++ (listed (place_line_of (held_of r lands)) r.answer.panel.grid.placements ++ listed (λ k. cell_line (f k)) r.answer.panel.grid.cells)))
    (fun_ext e)

pub printed_once : (r : SheetRead) (before text other : List ℕ) → length before ≡ 256 → Printed r before text → Printed r before other → text ≡ other
printed_once r before text other long (refused n e) (refused m f) = e ∙ sym f
printed_once r before text other long (refused n e) (unplaced z lands fault a f) = absurd (n z)
printed_once r before text other long (refused n e) (placed z lands count a f) = absurd (n z)
printed_once r before text other long (unplaced z lands fault a e) (refused n f) = absurd (n z)
printed_once r before text other long (unplaced z lands fault a e) (unplaced y those other_fault b f) =
    e ∙ ap told (sym (same_answer r.answer.panel.grid (lent_of r.tables) Sparse before long lands those (Err fault) (Err other_fault) a b)) ∙ sym f
printed_once r before text other long (unplaced z lands fault a e) (placed y those count b f) =
    absurd (not_both count fault (same_answer r.answer.panel.grid (lent_of r.tables) Sparse before long lands those (Err fault) (Ok count) a b))
printed_once r before text other long (placed z lands count a e) (refused n f) = absurd (n z)
printed_once r before text other long (placed z lands count a e) (unplaced y those fault b f) =
    absurd (not_both count fault (same_answer r.answer.panel.grid (lent_of r.tables) Sparse before long those lands (Err fault) (Ok count) b a))
printed_once r before text other long (placed z lands count a e) (placed y those number b f) =
    e ∙ ap text_of (sym (same_lines r lands those (same_land r.answer.panel.grid (lent_of r.tables) Sparse before long lands those count number a b))) ∙ sym f

-- ---- as many cells are placed as the panel has

answered_count : (g : Grid) (l : Lent) (packing : Packing) (before after : List ℕ) (n : ℕ) → CellsAnswered g l packing before after (Ok n) → n ≡ length (cells_in g l)
answered_count g l packing before after n (Cells.refused fault e same q) = absurd (not_both n _ q)
answered_count g l packing before after n (answered none items a (Ok all) w q) = ap placed_cells q
answered_count g l packing before after n (answered none items a (Err k) w q) = absurd (not_both n _ q)

pub all_placed : (s : List ℕ) (t : Tables) (before after : List ℕ) (n : ℕ) → Accepted s t
    → CellsAnswered (read_sheet s t).answer.panel.grid (lent_of (read_sheet s t).tables) Sparse before after (Ok n) → n ≡ (read_sheet s t).answer.panel.grid.cells
all_placed s t before after n ok a = answered_count _ _ Sparse before after n a ∙ every_cell s t ok
