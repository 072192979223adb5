-- Every cell of an accepted sheet is placed: there are as many as its panel counts. Assumes nothing.
use Prim.Native.Nat.{ℕ, ◌+◌}
use mathlib.Core.Path.{◌≡◌, refl, sym, ap, subst, ◌∙◌}
use mathlib.Core.Bool.{Bool, true, false, cond, true≢false}
use mathlib.Core.List.{List, [], ◌∷◌, ◌++◌}
use lib.ListN.{length, get_or}
use Rattle.text.specs.Split.{same}
use Rattle.text.proofs.Which.{same_equal}
use Rattle.sheet_forms.specs.Forms.{place, cell, kind_number}
use Rattle.sheet_forms.specs.Words.{at, kind_words}
use Rattle.panel_tables.specs.View.{PanelView}
use Rattle.sheet_rules.specs.Contents.{Line, is_of, placement_in, halves_in, placements_of, cells_from, lines_of, PanelSays}
use Rattle.sheet_rules.specs.Panels.{Tables, sized_panel, tables_of}
use Rattle.sheet_rules.specs.Read.{read_sheet}
use Rattle.sheet_rules.specs.Sheet.{sheet_of}
use Rattle.sheet_rules.proofs.Contents.{view_says}
use Rattle.sheet_rules.proofs.Fits.{sheet_fits}
use Rattle.panel_rules.specs.Runs.{Held, Accepted}
use Rattle.panel_rules.specs.Views.{held_after}
use Rattle.panel_rules.proofs.Sheets.{accepted_sheet, sheet_held_lem}
use Rattle.panel_placing.specs.Cells.{cells_in}
use Rattle.panel_placing.specs.Held.{Holds, HeldCells, Lined}
use Rattle.panel_placing.specs.Held as Lines
use Rattle.panel_placing.proofs.Held.{cells-held, cells-all}
use Rattle.panel_answer.specs.Printed.{lent_of}

-- ---- a sheet's lines give two halves for each cell

place_no_cell : (l : Line) → is_of place l ≡ true → is_of cell l ≡ false
unfolding same
place_no_cell l e = rw (same_equal (at l 0) (get_or kind_words (kind_number place) []) e) refl

sheet_lined : (n : ℕ) (ls : List Line) → Lined (placements_of ls) (length (cells_from n ls))
unfolding placements_of cells_from
sheet_lined n [] = Lines.none
sheet_lined n (l ∷ ls) = go (is_of place l) (is_of cell l) refl refl (sheet_lined (n + 1) ls)
  where
    go : (a b : Bool) → is_of place l ≡ a → is_of cell l ≡ b → Lined (placements_of ls) (length (cells_from (n + 1) ls))
        → Lined (cond a (placement_in l ∷ []) (cond b (halves_in l) []) ++ placements_of ls) (length (cond b (n ∷ []) [] ++ cells_from (n + 1) ls))
    go true true e f k = absurd (true≢false (sym f ∙ place_no_cell l e))
    go true false e f k = Lines.place refl k
    go false true e f k = Lines.cell refl refl k
    go false false e f k = k

-- ---- the cells of an accepted sheet

module _ (s : List ℕ) (t : Tables) (ok : Accepted s t) where
  abbrev view : PanelView
  view = (sheet_of s).view

  says : PanelSays (lines_of s) view
  says = view_says s (accepted_sheet s t ok).0

  begins : Holds view (held_after view t [] []).panel.grid (lent_of (held_after view t [] []).tables)
  unfolding held_after sized_panel tables_of
  begins = record { placements = refl; cells = refl; words = refl }

  holds : Holds view (read_sheet s t).answer.panel.grid (lent_of (read_sheet s t).tables)
  holds = subst (λ (h : Held). Holds view h.panel.grid (lent_of h.tables)) (sym (sheet_held_lem s t ok)) begins

  -- each by its placements and its line
  pub sheet_cells : HeldCells view (read_sheet s t).answer.panel.grid (lent_of (read_sheet s t).tables)
  sheet_cells = cells-held view (sheet_fits s) (read_sheet s t).answer.panel.grid (lent_of (read_sheet s t).tables) holds

  -- so each has its line
  pub every_cell : length (cells_in (read_sheet s t).answer.panel.grid (lent_of (read_sheet s t).tables)) ≡ (read_sheet s t).answer.panel.grid.cells
  every_cell =
      let lined : Lined view.placements (length view.cells) = rw (says.placements, says.cells) (sheet_lined 1 (lines_of s)) in
      ap length sheet_cells.cells ∙ cells-all view lined ∙ sym holds.cells
