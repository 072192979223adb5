-- Implicit tracks by argument after an accepted sheet and any entry calls. Assumes nothing.
use Prim.Native.Nat.{ℕ, ◌≤◌}
use mathlib.Core.Path.{◌≡◌, refl, ap, ◌∙◌}
use mathlib.Core.List.{List}
use borrow.Author.Tests.{le-ltb}
use Rattle.std.specs.Prelude.{Ok}
use Rattle.coordinates.specs.declared.axis.Axis.{Axis}
use Rattle.coordinates.specs.declared.axis.Axis.TheVariants.{Column, Row}
use Rattle.axis_tables.specs.Written.{words_with, regions_of}
use Rattle.panel_tables.specs.Axes.{grid_in, with_grid}
use Rattle.panel_tables.specs.View.{PanelView}
use Rattle.sheet_rules.specs.Sheet.{size_of}
use Rattle.sheet_rules.specs.Panels.{Tables, entry_words, sized_panel, sized_state, tables_of}
use Rattle.name_rules.specs.Css.{Entry}
use Rattle.panel_rules.specs.Runs.{Held, Call, Accepted, run_of}
use Rattle.panel_rules.specs.Views.{held_after, state_after, words_after, store_after}
use Rattle.panel_rules.proofs.Held.{run-held}
use Rattle.implicit_counts.specs.Counts.{with_counts, with_implicit}
use Rattle.implicit_counts.specs.Theorem.{extended_panel, held_extended, ImplicitTheorem}

-- ---- on a view

counts-held : (v : PanelView) (t : Tables) (columns rows : List Entry) (a : Axis) (n p : ℕ)
    → with_grid (held_after v t columns rows).panel.grid a (with_counts (grid_in (held_after v t columns rows).panel.grid a) n p)
    ≡ (held_after (extended_panel v a n p) t columns rows).panel.grid
unfolding held_after state_after sized_panel sized_state size_of entry_words
counts-held v t columns rows Column n p = refl
counts-held v t columns rows Row n p = refl

tables-held : (v : PanelView) (t : Tables) (columns rows : List Entry) (a : Axis) (n p : ℕ)
    → (held_after v t columns rows).tables ≡ (held_after (extended_panel v a n p) t columns rows).tables
unfolding held_after words_after store_after tables_of entry_words size_of words_with regions_of
tables-held v t columns rows Column n p = refl
tables-held v t columns rows Row n p = refl

-- ---- after a run
module _ (s : List ℕ) (t : Tables) (calls : List Call) (ok : Accepted s t) (a : Axis) (n p : ℕ) where
  implicit-grid : n ≤ 10000 → p ≤ 10000 → with_implicit (run_of s t calls).panel.grid a n p ≡ Ok (held_extended s t calls a n p).panel.grid
  unfolding with_implicit
  implicit-grid few many = rw (le-ltb 10000 n few, le-ltb 10000 p many, run-held s t calls ok) (ap Ok (counts-held _ t _ _ a n p))

  implicit-tables : (run_of s t calls).tables ≡ (held_extended s t calls a n p).tables
  implicit-tables = ap (λ (h : Held). h.tables) (run-held s t calls ok) ∙ tables-held _ t _ _ a n p

  pub implicit-theorem : ImplicitTheorem s t calls a n p
  implicit-theorem = record { grid = implicit-grid; tables = implicit-tables }
