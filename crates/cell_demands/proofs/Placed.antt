-- What a placing answers after a run, over the `cell` lines of its sheet. Assumes nothing.
use Prim.Native.Nat.{ℕ, ◌+◌, ◌≤◌, min}
use mathlib.Core.Path.{◌≡◌, refl, sym, ap, ◌∙◌, subst}
use mathlib.Core.List.{List}
use mathlib.Core.Bool.{Bool, true, false, ◌||◌, true≢false}
use native.Mathlib.Omega.{arith}
use borrow.Author.Tests.{ltb-false, le-ltb}
use lib.Dec.{ltb}
use lib.ListN.{length}
use Rattle.std.specs.Prelude.{Result, Ok, Err}
use Rattle.coordinates.specs.declared.axis.Axis.{Axis}
use Rattle.coordinates.specs.declared.axis.Axis.TheVariants.{Column, Row}
use Rattle.coordinates.specs.declared.refusal.Fault.TheVariants.{Unplaced}
use Rattle.name_resolver.specs.Placements.{resolved_ends}
use Rattle.sheet_rules.specs.declared.LineFault.{LineFault}
use Rattle.sheet_rules.specs.Sheet.{sheet_of}
use Rattle.sheet_rules.specs.Contents.{Line}
use Rattle.sheet_rules.specs.Panels.{Tables}
use Rattle.panel_rules.specs.Calls.{explicit_size, short_names}
use Rattle.panel_rules.specs.Placing.{PlacementAnswer}
use Rattle.panel_rules.specs.Runs.{Held, names_of, Call, Accepted, run_of, size_of, placement_of}
use Rattle.panel_rules.specs.Views.{size_after, store_after, held_after}
use Rattle.panel_rules.specs.Added.{sheet_axis, added}
use Rattle.panel_rules.proofs.AxisEntry.{length_store}
use Rattle.panel_rules.proofs.Sheets.{accepted_sheet}
use Rattle.panel_rules.proofs.Held.{added_fit, run-held}
use Rattle.panel_rules.proofs.Runs.{few-tracks, run-sizes}
use Rattle.panel_demands.specs.Cells.{CellLine}
use Rattle.cell_sides.specs.Css.{CssSide}
use Rattle.free_cells.specs.Free.{last_row_line}
use Rattle.cell_placing.specs.declared.Item.{Item}
use Rattle.cell_placing.specs.declared.Packing.{Packing}
use Rattle.cell_placing.specs.Css.{Answers, placed, refused}
use Rattle.panel_placing.specs.Cells.{AllSides, cells_check, answer_of, CellsAnswered, answered}
use Rattle.panel_placing.specs.Cells as Cells
use Rattle.panel_placing.proofs.Answer.{passed_not}
use Rattle.cell_demands.specs.Lines.{lent_by, cells_by, cell_lines, cell_after, LineSides, answer_on, LinesPlaced, CellsPlaced}
use Rattle.cell_demands.proofs.Lines.{counted, line-held, cell-of-line}

-- ---- nothing refuses the call itself

long_both : (a b : ℕ) → (ltb a 32768 || ltb b 32768) ≡ false → (32768 ≤ a) × (32768 ≤ b)
long_both a b = go (ltb a 32768) (ltb b 32768) refl refl
  where
    go : (p q : Bool) → ltb a 32768 ≡ p → ltb b 32768 ≡ q → (p || q) ≡ false → (32768 ≤ a) × (32768 ≤ b)
    go true q x y e = absurd (true≢false e)
    go false true x y e = absurd (true≢false e)
    go false false x y e = (ltb-false a 32768 x, ltb-false b 32768 y)

module _ (s : List ℕ) (t : Tables) (calls : List Call) (ok : Accepted s t) where
  abbrev h : Held
  h = run_of s t calls

  no-fault : (sheet_of s).fault ≡ 0
  no-fault = (accepted_sheet s t ok).0

  few-explicit : (a : Axis) → (size_of h a).explicit ≤ 10000
  unfolding size_after
  few-explicit a = rw (run-sizes s t calls ok a) (few-tracks s no-fault a)

  long-names : short_names (names_of h.tables) ≡ false
  unfolding held_after
  long-names =
      let columns = added s Column calls in
      let rows = added s Row calls in
      let l = long_both (length t.column_store) (length t.row_store) (accepted_sheet s t ok).1 in
      let c = added_fit s no-fault Column calls in
      let r = added_fit s no-fault Row calls in
      let p = length_store (sheet_axis s Column) columns t.column_store (omega (arith, c.bytes, l.0)) in
      let q = length_store (sheet_axis s Row) rows t.row_store (omega (arith, r.bytes, l.1)) in
      ap (λ (x : Held). short_names (names_of x.tables)) (run-held s t calls ok)
      ∙ le-ltb (min (length (store_after (sheet_axis s Column) columns t.column_store)) (length (store_after (sheet_axis s Row) rows t.row_store))) 32768 (omega (arith, l.0, l.1, p, q))

  unrefused : cells_check h.panel.grid (lent_by h) ≡ Ok tt
  unfolding cells_check explicit_size
  unrefused = rw (le-ltb 10000 (size_of h Column).explicit (few-explicit Column), le-ltb 10000 (size_of h Row).explicit (few-explicit Row), long-names) refl

  -- ---- the answer

  sides-of-lines : (items : ℕ → Item) → AllSides h.panel.grid (lent_by h) items → (before after : List Line) (l : Line) → CellLine s before l after
      → LineSides h before (items (cell_after before))
  unfolding explicit_size
  sides-of-lines items a before after l c =
      let cell = cell-of-line s t calls ok before after l c in
      let x = a (cell_after before) cell.placed in
      let item = items (cell_after before) in
      record {
        column = subst (λ (p : PlacementAnswer). CssSide (size_of h Column).explicit ((size_of h Column).explicit + 1) (resolved_ends p.line) item.column) (ap (placement_of h) cell.columns) x.column;
        row = subst (λ (p : PlacementAnswer). CssSide (size_of h Row).explicit last_row_line (resolved_ends p.line) item.row) (cell.halves Row) x.row;
      }

  told-on : (packing : Packing) (last : ℕ) (items : ℕ → Item) (old new : List ℕ) (outcome : Result (Unit {0}) ℕ)
      → Answers packing last (length (cell_lines s)) items old new outcome → answer_of (lent_by h) (length (cells_by h)) outcome ≡ answer_on s outcome
  told-on packing last items old new outcome (placed words len every written e) = rw (e, counted s t calls ok) refl
  told-on packing last items old new outcome (refused k f same e) =
      ap (answer_of (lent_by h) (length (cells_by h))) e
      ∙ ap (λ (n : ℕ). Err (record { fault = Unplaced; line = n })) (line-held s t calls ok k f.held)
      ∙ sym (ap (answer_on s) e)

  pub lines-placed : (packing : Packing) (old new : List ℕ) (r : Result ℕ LineFault) → CellsAnswered h.panel.grid (lent_by h) packing old new r → LinesPlaced s h packing old new r
  unfolding explicit_size
  lines-placed packing old new r (Cells.refused fault e same q) = absurd (passed_not (sym unrefused ∙ e))
  lines-placed packing old new r (answered none items a outcome w q) =
      let lands = subst (λ (n : ℕ). Answers packing (h.panel.grid.columns.size.explicit + 1) n items old new outcome) (counted s t calls ok) w in
      record {
        items = items;
        sides = sides-of-lines items a;
        outcome = outcome;
        lands = lands;
        answers = q ∙ told-on packing (h.panel.grid.columns.size.explicit + 1) items old new outcome lands;
      }

-- of every answer
pub cells_placed : CellsPlaced
cells_placed s t calls ok packing old new r a = lines-placed s t calls ok packing old new r a
