-- From a run of numbers to the cells of a panel, and to the answer. Assumes nothing.
use mathlib.Core.Path.{◌≡◌, refl, sym, ap, ◌∙◌}
use mathlib.Core.Bool.{Bool, true, false, cond}
use mathlib.Core.List.{List}
use Prim.Native.Nat.{ℕ, ◌+◌, ◌-◌, ◌≤◌, ◌<◌, min}
use native.Mathlib.Omega.{arith}
use borrow.Author.Tests.{ltb-false}
use lib.Dec.{ltb}
use lib.IntN.{ℤ}
use lib.ListN.{length, get_or, take, length-take}
use lib.Seq.{get_or-take}
use Rattle.std.specs.Prelude.{Result, Ok, Err}
use Rattle.coordinates.specs.declared.refusal.Fault.{Fault}
use Rattle.coordinates.specs.declared.refusal.Fault.TheVariants.{Count, Short}
use Rattle.coordinates.specs.Refusals.{refused_by}
use Rattle.coordinates.proofs.Faults.{fault_some}
use Rattle.name_resolver.specs.Placements.{resolved_ends}
use Rattle.panel_tables.specs.declared.Grid.{Grid}
use Rattle.panel_tables.specs.View.{most_items}
use Rattle.sheet_rules.specs.declared.LineFault.{LineFault}
use Rattle.panel_rules.specs.Calls.{shorter_store}
use Rattle.panel_resolving.specs.Placements.{WrittenNumbers, placements_written}
use Rattle.placement_hits.specs.Steps.{passing}
use Rattle.panel_hits.specs.Settled.{Lent, settled}
use Rattle.panel_hits.proofs.Numbers.{Stands, ends-settled, run-stands, run-left}
use Rattle.cell_sides.specs.declared.cell.CellLines.{CellLines}
use Rattle.free_cells.specs.Free.{last_row_line}
use Rattle.cell_placing.specs.declared.Item.{Item}
use Rattle.cell_placing.specs.declared.Packing.{Packing}
use Rattle.cell_placing.specs.Items.{item_of, item_word, item_in}
use Rattle.cell_placing.specs.Css.{Answers}
use Rattle.cell_placing.proofs.Items.{item_back}
use Rattle.cell_placing.proofs.Cut.{answers-cut}
use Rattle.panel_placing.specs.declared.gather.Settled.{Settled}
use Rattle.panel_placing.specs.Cells.{is_cell, pairs, cells_in, SidesOf, cells_check, answer_of, CellsAnswered, answered}
use Rattle.panel_placing.specs.Steps.{LinesOf, cells_before, ItemAt, WordAt, Collected, Gathered}
use Rattle.panel_placing.proofs.Spans.{settled_narrow, side_sayable}

-- what is passed isn't refused
pub passed_not : {A : Type 0} {x : A} {f : Fault} → ◌≡◌ {A = Result A Fault} (Ok x) (Err f) → ⊥
passed_not {f = f} e = fault_some f (sym (ap refused_by e))

-- ---- the cells

module _ (g : Grid) (l : Lent) where
  item_sides : (numbers : List ℤ) (columns rows : CellLines) (i : ℕ) (item : Item) → LinesOf g columns rows → Stands numbers i (settled g l i) → Stands numbers (i + 1) (settled g l (i + 1))
      → ItemAt numbers columns rows i item → SidesOf g l i item
  item_sides numbers columns rows i item lines here next a =
      record {
        column = rw (lines.across, ends-settled numbers i (settled g l i) here) at a.column;
        row = rw (lines.down, ends-settled numbers (i + 1) (settled g l (i + 1)) next) at a.row;
      }

  -- what the word of a cell says
  word_back : (i : ℕ) (item : Item) → g.columns.size.explicit ≤ 10000 → SidesOf g l i item → item_of (item_word item) ≡ item
  word_back i item few s =
      let n = settled_narrow g l i in
      let m = settled_narrow g l (i + 1) in
      item_back item
      (side_sayable g.columns.size.explicit (g.columns.size.explicit + 1) (resolved_ends (settled g l i).line) item.column (omega arith) n.0 n.1 s.column)
      (side_sayable g.rows.size.explicit last_row_line (resolved_ends (settled g l (i + 1)).line) item.row (omega arith) m.0 m.1 s.row)

  pub few_cells : length (cells_in g l) ≤ 256
  unfolding cells_in
  few_cells = omega (arith, length-take (min g.cells most_items) (passing (is_cell l.placements.words) 0 (pairs g.placements)))

  -- a panel that counts no cells has none
  pub gathered-none : (items : List ℕ) → g.cells ≡ 0 → Gathered g l items 0
  unfolding cells_in
  gathered-none items e =
      record {
        counted = omega (arith, e, length-take (min g.cells most_items) (passing (is_cell l.placements.words) 0 (pairs g.placements)));
        sides = λ k h. absurd (omega arith);
      }

  module _ (s : Settled) (lent : List ℤ) (w : WrittenNumbers) (written : w ≡ placements_written g l.names l.areas l.placements 0 lent) (stores : 32768 ≤ shorter_store l.names)
      (long : length lent ≡ 4096) (words : s.words.now ≡ l.placements.words) (numbers : s.numbers.now ≡ w.numbers) where
    stands : (i : ℕ) → i < g.placements → i < 512 → Stands s.numbers.now i (settled g l i)
    stands i h k =
        rw (numbers, run-left g l lent w written stores (omega arith)) (run-stands g l lent (min 512 (g.placements - 0)) (omega arith) long i (omega arith))

    cell_at : (k : ℕ) → k < min g.cells most_items → get_or (cells_in g l) k 0 ≡ get_or (cells_before s.words.now (pairs g.placements)) k 0
    unfolding cells_in cells_before
    cell_at k h =
        rw words (get_or-take (min g.cells most_items) (passing (is_cell l.placements.words) 0 (pairs g.placements)) k 0 h)

    cells_counted : length (cells_in g l) ≡ min (min g.cells most_items) (length (cells_before s.words.now (pairs g.placements)))
    unfolding cells_in cells_before
    cells_counted = rw words (length-take (min g.cells most_items) (passing (is_cell l.placements.words) 0 (pairs g.placements)))

    word_sides : (i word : ℕ) → g.columns.size.explicit ≤ 10000 → LinesOf g s.columns s.rows → i < pairs g.placements → WordAt s i word → SidesOf g l i (item_of word)
    word_sides i word few lines h a =
        let sides = item_sides s.numbers.now s.columns s.rows i a.item lines (stands i (omega arith) (omega arith)) (stands (i + 1) (omega arith) (omega arith)) a.sides in
        rw (a.word, word_back i a.item few sides) sides

    pub gathered : (items : List ℕ) (count : ℕ) → g.columns.size.explicit ≤ 10000 → LinesOf g s.columns s.rows → Collected s (min g.cells most_items) (pairs g.placements) items count → Gathered g l items count
    gathered items count few lines c =
        record {
          counted = c.counted ∙ sym cells_counted;
          sides = λ k h.
              let d = c.each k h in
              rw (cell_at k (omega (arith, c.counted))) (word_sides (get_or (cells_before s.words.now (pairs g.placements)) k 0) (get_or items k 0) few lines d.0 d.1);
        }

  -- ---- the answer

  -- where nothing is refused, the counts and the stores are as a sheet gives them
  pub unrefused : Ok tt ≡ cells_check g l → (g.columns.size.explicit ≤ 10000) × (g.rows.size.explicit ≤ 10000) × (32768 ≤ shorter_store l.names)
  unfolding cells_check
  unrefused = go (ltb 10000 g.columns.size.explicit) (ltb 10000 g.rows.size.explicit) (ltb (shorter_store l.names) 32768) refl refl refl
    where
      go : (a b d : Bool) → ltb 10000 g.columns.size.explicit ≡ a → ltb 10000 g.rows.size.explicit ≡ b → ltb (shorter_store l.names) 32768 ≡ d
          → ◌≡◌ {A = Result (Unit {0}) Fault} (Ok tt) (cond a (Err Count) (cond b (Err Count) (cond d (Err Short) (Ok tt))))
          → (g.columns.size.explicit ≤ 10000) × (g.rows.size.explicit ≤ 10000) × (32768 ≤ shorter_store l.names)
      go true b d p q r e = absurd (passed_not e)
      go false true d p q r e = absurd (passed_not e)
      go false false true p q r e = absurd (passed_not e)
      go false false false p q r e = (ltb-false 10000 g.columns.size.explicit p, ltb-false 10000 g.rows.size.explicit q, ltb-false (shorter_store l.names) 32768 r)

  pub answer-placed : (packing : Packing) (before after items : List ℕ) (count last : ℕ) (outcome : Result (Unit {0}) ℕ) (r : Result ℕ LineFault) → Ok tt ≡ cells_check g l → Gathered g l items count
      → last ≡ g.columns.size.explicit + 1 → length items ≡ 256 → Answers packing last (min (length (take count items)) 256) (item_in (take count items)) before after outcome
      → r ≡ answer_of l count outcome → CellsAnswered g l packing before after r
  answer-placed packing before after items count last outcome r none have lines whole a e =
      let few = few_cells in
      let n : min (length (take count items)) 256 ≡ count = omega (arith, have.counted, length-take count items) in
      let cut : Answers packing last count (item_in items) before after outcome = answers-cut packing last count items before after outcome (rw n at a) in
      answered (sym none) (item_in items) (λ k h. have.sides k (rw have.counted h)) outcome (rw (lines, have.counted) at cut) (rw have.counted at e)
