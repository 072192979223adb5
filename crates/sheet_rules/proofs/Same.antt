-- What a panel holds follows its view, record by record. Assumes nothing.
use Prim.Native.Nat.{ℕ}
use mathlib.Core.Path.{◌≡◌, refl, ap, ◌∙◌}
use mathlib.Core.List.{List}
use mathlib.Core.Bool.{Bool, true, false, cond}
use lib.ListN.{drop}
use Rattle.coordinates.specs.declared.axis.Axis.{Axis}
use Rattle.coordinates.specs.declared.axis.Axis.TheVariants.{Column, Row}
use Rattle.sheet_forms.specs.Said.{Record}
use Rattle.sheet_forms.specs.Said.{Fault, Axis as AxisLine, Area, Name, Track, Repeat, End, Spare, Extra, Item, Place, PictureRow, Cell}
use Rattle.sheet_forms.specs.Words.{at}
use Rattle.axis_tables.specs.View.{AxisOutcome, accepted as accepted_axis, track_step, repeat_step, end_step, name_step, spare_step, item_step, extra_step, axis_step}
use Rattle.axis_tables.specs.Written.{Held, held_of}
use Rattle.axis_tables.proofs.Same.{track-same, repeat-same, end_same, name-same, spare-same, item-same, extra-same, axis-same}
use Rattle.panel_tables.specs.View.{PanelView, PanelOutcome, accepted}
use Rattle.panel_tables.specs.Written.{PanelStepped, held_panel, stepped}
use Rattle.panel_tables.specs.Axes.{view_in, step_in, held_in}
use Rattle.panel_tables.proofs.Fits.{FitsPanel}
use Rattle.panel_tables.proofs.Axes.{axis_step_lem, axis_in_fits}
use Rattle.panel_tables.proofs.Same.{area_same, place_same, cell_same}
use Rattle.sheet_forms.proofs.Bounds.{Bounded}
use Rattle.sheet_rules.specs.Pictures.{picture_step}
use Rattle.sheet_rules.specs.Lines.{bit, edges_of, placed_end, late_at, record_step}
use Rattle.sheet_rules.proofs.Fits.{FitsSheet}
use Rattle.sheet_rules.proofs.RowSame.{Follows, row_follows_lem}
use Rattle.sheet_rules.specs.Steps.{axis_held, axis_record, on_held, stayed, held_row, held_step}

follows_same : {x : PanelStepped} {o : PanelOutcome} → x ≡ stepped o → Follows x o
follows_same e = record { fault = ap (λ (s : PanelStepped). s.fault) e; held = λ h. ap (λ (s : PanelStepped). s.held) e }

module _ (v : PanelView) (sheet : FitsSheet v) where
  abbrev f : FitsPanel v
  f = sheet.panel

  held-axis : (a : Axis) → axis_held (held_panel v) a ≡ held_of (accepted_axis (view_in v a))
  unfolding held_panel held_of
  held-axis Column = refl
  held-axis Row = refl

  on_same : (a : Axis) (fs : List (List ℕ)) (r : Record) (o : AxisOutcome) → axis_record (held_of (accepted_axis (view_in v a))) fs r ≡ held_of o
      → on_held (held_panel v) a fs r ≡ stepped (step_in v a o)
  on_same a fs r o e = ap (λ (h : Held). held_in (held_panel v) a (axis_record h fs r)) (held-axis a) ∙ ap (held_in (held_panel v) a) e ∙ axis_step_lem v a o

  pub record_same : (fs : List (List ℕ)) (r : Record) → Bounded fs r → Follows (held_step (held_panel v) fs r) (record_step v fs r)
  unfolding held_step record_step held_panel held_of
  record_same fs (Fault n) b = follows_same refl
  record_same fs (AxisLine a) b =
      follows_same
      (on_same a.axis fs (AxisLine a) (axis_step (view_in v a.axis) (bit a.definite) a.inner a.rule a.gap)
      (axis-same (view_in v a.axis) (bit a.definite) a.inner a.rule a.gap))
  record_same fs (Area a) b = follows_same (area_same v f (at fs 1) (edges_of a))
  record_same fs (Name a) b = follows_same (on_same a fs (Name a) (name_step (view_in v a) (at fs 2)) (name-same (view_in v a) (axis_in_fits v a f) (at fs 2)))
  record_same fs (Track a min max) b = follows_same (on_same a fs (Track a min max) (track_step (view_in v a) min max) (track-same (view_in v a) (axis_in_fits v a f) min max))
  record_same fs (Repeat a n) b =
      follows_same (on_same a fs (Repeat a n) (repeat_step (view_in v a) n.kind n.number) (repeat-same (view_in v a) (axis_in_fits v a f) n.kind n.number))
  record_same fs (End a) b = follows_same (on_same a fs (End a) (end_step (view_in v a)) (end_same (view_in v a) (axis_in_fits v a f)))
  record_same fs (Spare a min max) b = follows_same (on_same a fs (Spare a min max) (spare_step (view_in v a) min max) (spare-same (view_in v a) min max))
  record_same fs (Extra a n p) b = follows_same (on_same a fs (Extra a n p) (extra_step (view_in v a) n p) (extra-same (view_in v a) n p))
  record_same fs (Item a i) b = follows_same (on_same a fs (Item a i) (item_step (view_in v a) i) (item-same (view_in v a) i))
  record_same fs (Place a s e) b = follows_same (place_same v f a (placed_end (at fs 3) s) (placed_end (at fs 6) e))
  record_same fs (Cell cs ce rs re) b = follows_same (cell_same v f (placed_end (at fs 2) cs) (placed_end (at fs 5) ce) (placed_end (at fs 8) rs) (placed_end (at fs 11) re))
  record_same fs (PictureRow n) b = go (late_at 2 v.stage) refl
    where
      go : (t : Bool) → late_at 2 v.stage ≡ t → Follows (cond t (stayed (held_panel v)) (held_row (held_panel v) (drop 1 fs) n)) (cond t (accepted v) (picture_step v (drop 1 fs)))
      go true e = follows_same refl
      go false e = row_follows_lem v f (sheet.pictured e) (drop 1 fs) n b
