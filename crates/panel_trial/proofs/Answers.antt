-- A panel answers from the bytes that an entry reaches of its stores what it answers from all of them. Assumes nothing.
use Prim.Native.Nat.{ℕ, zero, suc, ◌+◌}
use mathlib.Core.Path.{◌≡◌, refl, sym, ◌∙◌}
use mathlib.Core.List.{List}
use lib.IntN.{ℤ}
use lib.ListN.{get_or}
use Rattle.std.specs.Prelude.{Result, Ok, Err}
use Rattle.panel_tables.specs.declared.Grid.{Grid}
use Rattle.sheet_rules.specs.declared.LineFault.{LineFault}
use Rattle.panel_rules.specs.Calls.{NameTables, NamedWords}
use Rattle.panel_resolving.specs.Placements.{run_numbers, numbers_refusal, numbers_count, placements_written}
use Rattle.panel_hits.specs.Settled.{Lent, settled}
use Rattle.cell_placing.specs.declared.Item.{Item}
use Rattle.cell_placing.specs.declared.Packing.{Packing}
use Rattle.panel_placing.specs.Cells.{cells_in, SidesOf, AllSides, cells_check, CellsAnswered, refused, answered}
use Rattle.panel_trial.specs.declared.TrialCounts.{TrialCounts}
use Rattle.panel_trial.specs.Trial.{AnswerRuns, PanelAnswered, unplaced}
use Rattle.panel_trial.specs.Trial as Trial
use Rattle.panel_trial.specs.Stores.{reached_tables, reached_lent}
use Rattle.panel_trial.proofs.Reach.{short-reached, placement_reached}

-- ---- the placements

run-reached : (g : Grid) (t : NameTables) (areas placements : NamedWords) (first n : ℕ) → run_numbers g (reached_tables t) areas placements first n ≡ run_numbers g t areas placements first n
unfolding run_numbers
run-reached g t areas placements first zero = refl
run-reached g t areas placements first (suc n) = rw (placement_reached g t areas placements first, run-reached g t areas placements (first + 1) n)

written-reached : (g : Grid) (t : NameTables) (areas placements : NamedWords) (first : ℕ) (lent : List ℤ)
    → placements_written g (reached_tables t) areas placements first lent ≡ placements_written g t areas placements first lent
unfolding placements_written numbers_refusal
written-reached g t areas placements first lent = rw (short-reached t, run-reached g t areas placements first (numbers_count g.placements first))

-- ---- the cells

module _ (g : Grid) (l : Lent) where
  settled-reached : (i : ℕ) → settled g (reached_lent l) i ≡ settled g l i
  settled-reached i = placement_reached g l.names l.areas l.placements i

  -- which placements are cells is no matter of names
  cells-reached : cells_in g (reached_lent l) ≡ cells_in g l
  unfolding cells_in
  cells-reached = refl

  side-reached : (i : ℕ) (item : Item) → SidesOf g (reached_lent l) i item → SidesOf g l i item
  side-reached i item s = record { column = rw (← settled-reached i) s.column; row = rw (← settled-reached (i + 1)) s.row }

  sides-reached : (items : ℕ → Item) → AllSides g (reached_lent l) items → AllSides g l items
  sides-reached items all k h = rw (← cells-reached) (side-reached (get_or (cells_in g (reached_lent l)) k 0) (items k) (all k (rw cells-reached h)))

  check_reached : cells_check g (reached_lent l) ≡ cells_check g l
  unfolding cells_check
  check_reached = rw (short-reached l.names)

  module _ (packing : Packing) where
    cells-answered : (before after : List ℕ) (r : Result ℕ LineFault) → CellsAnswered g (reached_lent l) packing before after r → CellsAnswered g l packing before after r
    cells-answered before after r (refused fault e same f) = refused fault (sym check_reached ∙ e) same f
    cells-answered before after r (answered none items all outcome lands f) =
        answered (sym check_reached ∙ none) items (sides-reached items all) outcome (rw (← cells-reached) lands) (rw (← cells-reached) f)

    pub panel-answered : (before after : AnswerRuns) (r : Result TrialCounts LineFault) → PanelAnswered g (reached_lent l) packing before after r → PanelAnswered g l packing before after r
    panel-answered before after r (unplaced told placed same e) = unplaced told (cells-answered before.lands after.lands (Err told) placed) same e
    panel-answered before after r (Trial.settled cells placed written e) =
        let w = written-reached g l.names l.areas l.placements 0 before.numbers in
        Trial.settled cells (cells-answered before.lands after.lands (Ok cells) placed) (rw (← w) written) (rw (← w) e)
