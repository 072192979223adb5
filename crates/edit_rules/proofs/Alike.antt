-- Two panels that are the same apart from where their lines stood and from the kind order go on alike. Assumes nothing.
use Prim.Native.Nat.{ℕ, ◌+◌}
use mathlib.Core.Path.{◌≡◌, refl, sym, ap, ◌∙◌}
use mathlib.Core.List.{List, [], ◌∷◌, ◌++◌}
use mathlib.Core.Bool.{Bool, true, false, cond, false≢true}
use lib.Dec.{eqb, leb, ltb}
use lib.ListN.{length, length-append}
use Rattle.coordinates.specs.declared.axis.Axis.{Axis}
use Rattle.coordinates.specs.declared.axis.Axis.TheVariants.{Column, Row}
use Rattle.sheet_forms.specs.Said.{Record}
use Rattle.sheet_forms.specs.Said.{Fault, Axis as AxisLine, Area as AreaLine, Name, Track, Repeat, End, Spare, Extra, Item, Place, PictureRow, Cell}
use Rattle.sheet_forms.specs.Words.{at}
use Rattle.sheet_forms.specs.Records.{record_of}
use Rattle.axis_tables.specs.View.{AxisView, AxisOutcome, track_step, repeat_step, end_step, name_step, spare_step, item_step, extra_step}
use Rattle.panel_tables.specs.declared.AreaEdges.{AreaEdges}
use Rattle.panel_tables.specs.View.{Area, Placement, has_area, PanelView, PanelOutcome, refused, accepted, raised, edges_outside, area_step, ends_fault, lower, most_items, items, limited_step, with_placement, place_step, next_line, half, with_cell, cell_step}
use Rattle.panel_tables.specs.Axes.{view_in, step_in}
use Rattle.panel_cells.specs.Steps.{first_sharing}
use Rattle.sheet_rules.specs.Contents.{Line}
use Rattle.sheet_rules.specs.Lines.{edges_of, placed_end, record_step, twice_fault, stage_of, late_fault, shared_with, record_fault, at_stage, record_outcome, strict_fault, line_fault, line_step}
use Rattle.edit_rules.specs.Theorem.{contents}
use Rattle.edit_rules.proofs.Areas.{with_area}

pub record Alike (v w : PanelView) : Type 0 where
  pub columns : v.columns ≡ w.columns
  pub rows : v.rows ≡ w.rows
  pub areas : v.areas ≡ w.areas
  pub picture : v.picture ≡ w.picture
  pub placements : v.placements ≡ w.placements
  pub count : length v.cells ≡ length w.cells

-- with the same fault
pub record BothAlike (o p : PanelOutcome) : Type 0 where
  pub fault : o.fault ≡ p.fault
  pub panel : Alike o.panel p.panel

pub alike_self : (v : PanelView) → Alike v v
alike_self v = record { columns = refl; rows = refl; areas = refl; picture = refl; placements = refl; count = refl }

pub alike_back : {v w : PanelView} → Alike v w → Alike w v
alike_back h = record { columns = sym h.columns; rows = sym h.rows; areas = sym h.areas; picture = sym h.picture; placements = sym h.placements; count = sym h.count }

pub alike_then : {v w x : PanelView} → Alike v w → Alike w x → Alike v x
alike_then h k =
    record {
      columns = h.columns ∙ k.columns;
      rows = h.rows ∙ k.rows;
      areas = h.areas ∙ k.areas;
      picture = h.picture ∙ k.picture;
      placements = h.placements ∙ k.placements;
      count = h.count ∙ k.count;
    }

pub contents_alike : (v w : PanelView) → Alike v w → contents v ≡ contents w
contents_alike v w h = rw (h.columns, h.rows, h.areas, h.picture, h.placements)

-- the records of all lines but `axis` and `row`
abbrev pub Common : Record → Type 0
Common (Fault n) = Unit {0}
Common (AxisLine a) = ⊥
Common (AreaLine a) = Unit {0}
Common (Name a) = Unit {0}
Common (Track a min max) = Unit {0}
Common (Repeat a n) = Unit {0}
Common (End a) = Unit {0}
Common (Spare a min max) = Unit {0}
Common (Extra a n p) = Unit {0}
Common (Item a i) = Unit {0}
Common (Place a s e) = Unit {0}
Common (PictureRow n) = ⊥
Common (Cell cs ce rs re) = Unit {0}

module _ (v w : PanelView) (h : Alike v w) where
  -- a step of an axis
  on_axis : (a : Axis) (f : AxisView → AxisOutcome) → BothAlike (step_in v a (f (view_in v a))) (step_in w a (f (view_in w a)))
  on_axis Column f =
      record {
        fault = ap (λ (x : AxisView). (f x).fault) h.columns;
        panel = record { columns = ap (λ (x : AxisView). (f x).axis) h.columns; rows = h.rows; areas = h.areas; picture = h.picture; placements = h.placements; count = h.count };
      }
  on_axis Row f =
      record {
        fault = ap (λ (x : AxisView). (f x).fault) h.rows;
        panel = record { columns = h.columns; rows = ap (λ (x : AxisView). (f x).axis) h.rows; areas = h.areas; picture = h.picture; placements = h.placements; count = h.count };
      }

  -- one more item
  limited_alike : (fault : ℕ) (x y : PanelView) → Alike x y → BothAlike (limited_step v fault x) (limited_step w fault y)
  unfolding limited_step
  limited_alike fault x y k = go (eqb fault 0) (leb most_items (items v)) (leb most_items (items w)) same_items
    where
      same_items : leb most_items (items v) ≡ leb most_items (items w)
      same_items = rw (h.placements, h.count)

      go : (s t u : Bool) → t ≡ u
          → BothAlike (cond s (cond t (refused 8 v) (accepted x)) (refused fault v)) (cond s (cond u (refused 8 w) (accepted y)) (refused fault w))
      go true true true e = record { fault = refl; panel = h }
      go true true false e = absurd (false≢true (sym e))
      go true false true e = absurd (false≢true e)
      go true false false e = record { fault = refl; panel = k }
      go false t u e = record { fault = refl; panel = h }

  placed_alike : (p : Placement) → Alike (with_placement v p) (with_placement w p)
  placed_alike p =
      record {
        columns = h.columns;
        rows = h.rows;
        areas = h.areas;
        picture = h.picture;
        placements = ap (λ (l : List Placement). l ++ (p ∷ [])) h.placements;
        count = h.count;
      }

  cell_alike : (c r : Placement) → Alike (with_cell v c r) (with_cell w c r)
  cell_alike c r =
      record {
        columns = h.columns;
        rows = h.rows;
        areas = h.areas;
        picture = h.picture;
        placements = ap (λ (l : List Placement). (l ++ (c ∷ [])) ++ (r ∷ [])) h.placements;
        count = length-append v.cells (next_line v.lines ∷ []) ∙ ap (λ (n : ℕ). n + 1) h.count ∙ sym (length-append w.cells (next_line w.lines ∷ []));
      }

  -- one more area
  pub added_alike : (n : List ℕ) (e : AreaEdges) → Alike (with_area n e v) (with_area n e w)
  added_alike n e =
      record {
        columns = ap (λ (x : AxisView). raised x e.columnend) h.columns;
        rows = ap (λ (x : AxisView). raised x e.rowend) h.rows;
        areas = ap (λ (l : List Area). l ++ (record { name = n; edges = e } ∷ [])) h.areas;
        picture = h.picture;
        placements = h.placements;
        count = h.count;
      }

  area_alike : (n : List ℕ) (e : AreaEdges) → BothAlike (area_step v n e) (area_step w n e)
  unfolding area_step
  area_alike n e =
      go (edges_outside e) (ltb 32 (length n)) (ltb 32 (length n)) (leb 64 (length v.areas)) (leb 64 (length w.areas)) (ap (λ (l : List Area). leb 64 (length l)) h.areas)
    where
      go : (s k t u x : Bool) → u ≡ x
          → BothAlike (cond s (refused (cond k 2 4) v) (cond t (refused 2 v) (cond u (refused 8 v) (accepted (with_area n e v)))))
          (cond s (refused (cond k 2 4) w) (cond t (refused 2 w) (cond x (refused 8 w) (accepted (with_area n e w)))))
      go true k t u x q = record { fault = refl; panel = h }
      go false k true u x q = record { fault = refl; panel = h }
      go false k false true true q = record { fault = refl; panel = h }
      go false k false true false q = absurd (false≢true (sym q))
      go false k false false true q = absurd (false≢true q)
      go false k false false false q = record { fault = refl; panel = added_alike n e }

  -- what a line finds and does
  record AlikeRecord (fs : Line) (r : Record) : Type 0 where
    twice : twice_fault v fs r ≡ twice_fault w fs r
    shared : shared_with v r ≡ shared_with w r
    step : BothAlike (record_step v fs r) (record_step w fs r)

  alike_record : (fs : Line) (r : Record) → Common r → AlikeRecord fs r
  unfolding record_step place_step cell_step
  alike_record fs (Fault n) c = record { twice = refl; shared = refl; step = record { fault = refl; panel = h } }
  alike_record fs (AxisLine a) c = absurd c
  alike_record fs (AreaLine a) c =
      record {
        twice = ap (λ (l : List Area). cond (has_area (at fs 1) l) 6 0) h.areas;
        shared = ap (first_sharing (edges_of a)) h.areas;
        step = area_alike (at fs 1) (edges_of a);
      }
  alike_record fs (Name a) c = record { twice = refl; shared = refl; step = on_axis a (λ x. name_step x (at fs 2)) }
  alike_record fs (Track a min max) c = record { twice = refl; shared = refl; step = on_axis a (λ x. track_step x min max) }
  alike_record fs (Repeat a n) c = record { twice = refl; shared = refl; step = on_axis a (λ x. repeat_step x n.kind n.number) }
  alike_record fs (End a) c = record { twice = refl; shared = refl; step = on_axis a end_step }
  alike_record fs (Spare a min max) c = record { twice = refl; shared = refl; step = on_axis a (λ x. spare_step x min max) }
  alike_record fs (Extra a n p) c = record { twice = refl; shared = refl; step = on_axis a (λ x. extra_step x n p) }
  alike_record fs (Item a i) c = record { twice = refl; shared = refl; step = on_axis a (λ x. item_step x i) }
  alike_record fs (Place a s e) c =
      record {
        twice = refl;
        shared = refl;
        step =
            let p : Placement = record { axis = a; cell = false; start = placed_end (at fs 3) s; end = placed_end (at fs 6) e } in
            limited_alike (ends_fault p.start p.end) (with_placement v p) (with_placement w p) (placed_alike p);
      }
  alike_record fs (PictureRow n) c = absurd c
  alike_record fs (Cell cs ce rs re) c =
      record {
        twice = refl;
        shared = refl;
        step =
            let p : Placement = half Column (placed_end (at fs 2) cs) (placed_end (at fs 5) ce) in
            let q : Placement = half Row (placed_end (at fs 8) rs) (placed_end (at fs 11) re) in
            limited_alike (lower (ends_fault p.start p.end) (ends_fault q.start q.end)) (with_cell v p q) (with_cell w p q) (cell_alike p q);
      }

  module _ (fs : Line) (r : Record) (c : Common r) (late : late_fault v r ≡ late_fault w r) where
    strict_alike : strict_fault v fs r ≡ strict_fault w fs r
    unfolding strict_fault
    strict_alike = let a = alike_record fs r c in rw (a.twice, late, a.shared, a.step.fault)

    former_alike : record_fault v fs r ≡ record_fault w fs r
    unfolding record_fault
    former_alike = let a = alike_record fs r c in rw (a.twice, late, a.step.fault)

    outcome_alike : BothAlike (record_outcome v fs r) (record_outcome w fs r)
    outcome_alike = go (eqb (record_fault v fs r) 0) (eqb (record_fault w fs r) 0) (ap (λ (n : ℕ). eqb n 0) former_alike)
      where
        x : PanelView
        x = (record_step v fs r).panel

        y : PanelView
        y = (record_step w fs r).panel

        staged : Alike x y → Alike (at_stage (stage_of v r) x) (at_stage (stage_of w r) y)
        staged k = record { columns = k.columns; rows = k.rows; areas = k.areas; picture = k.picture; placements = k.placements; count = k.count }

        go : (t u : Bool) → t ≡ u
            → BothAlike (cond t (accepted (at_stage (stage_of v r) x)) (refused (record_fault v fs r) v)) (cond u (accepted (at_stage (stage_of w r) y)) (refused (record_fault w fs r) w))
        go true true e = record { fault = refl; panel = staged (alike_record fs r c).step.panel }
        go true false e = absurd (false≢true (sym e))
        go false true e = absurd (false≢true e)
        go false false e = record { fault = former_alike; panel = h }

-- a line
pub record AlikeLine (v w : PanelView) (fs : Line) : Type 0 where
  pub fault : line_fault v fs ≡ line_fault w fs
  pub step : BothAlike (line_step v fs) (line_step w fs)

pub line_alike : (v w : PanelView) → Alike v w → (fs : Line) → Common (record_of fs) → late_fault v (record_of fs) ≡ late_fault w (record_of fs) → AlikeLine v w fs
unfolding line_fault line_step
line_alike v w h fs c late = record { fault = strict_alike v w h fs (record_of fs) c late; step = outcome_alike v w h fs (record_of fs) c late }
