-- An area changes places with every later line: whether the sheet has it among its areas or an edit brings it last, the panel is the same.
-- Assumes nothing.
use Prim.Native.Nat.{ℕ}
use mathlib.Core.Path.{◌≡◌, refl}
use mathlib.Core.List.{List, [], ◌∷◌, ◌++◌}
use mathlib.Core.Bool.{Bool, true, false, cond, ◌&&◌}
use native.Mathlib.Omega.{arith}
use lib.Dec.{eqb, leb, ltb}
use lib.ListN.{length}
use Rattle.coordinates.specs.declared.axis.Axis.{Axis}
use Rattle.coordinates.specs.declared.axis.Axis.TheVariants.{Column, Row}
use Rattle.sheet_forms.specs.Said.{Record}
use Rattle.sheet_forms.specs.Said.{Fault, Axis as AxisLine, Area, Name, Track, Repeat, End, Spare, Extra, Item, Place, PictureRow, Cell}
use Rattle.sheet_forms.specs.Words.{at}
use Rattle.sheet_forms.specs.Forms.{area}
use Rattle.sheet_forms.specs.Records.{record_of}
use Rattle.axis_tables.specs.View.{AxisView, AxisOutcome, track_step, repeat_step, end_step, name_step, spare_step, item_step, extra_step}
use Rattle.panel_tables.specs.declared.AreaEdges.{AreaEdges}
use Rattle.panel_tables.specs.View.{PanelView, PanelOutcome, refused, accepted, raised, edges_outside, area_step, ends_fault, lower, most_items, items, limited_step, with_placement, place_step, half, with_cell, cell_step}
use Rattle.panel_tables.specs.Axes.{view_in, step_in}
use Rattle.sheet_rules.specs.Contents.{Line, is_of}
use Rattle.sheet_rules.specs.Lines.{placed_end, record_step, twice_fault, stage_of, shared_with, record_fault, record_outcome, strict_fault, line_fault, line_step, at_stage}
use Rattle.edit_rules.specs.Replay.{reopened}
use Rattle.edit_rules.specs.Theorem.{after_rows, taken_by}
use Rattle.edit_rules.proofs.Raised.{raised_by, track-raised, repeat-raised, end-raised, name-raised, spare-raised, item-raised, extra-raised}

-- the lines that may stand after all areas: those of neither an axis, an area nor a row
abbrev pub Later : Record → Type 0
Later (Fault n) = Unit {0}
Later (AxisLine a) = ⊥
Later (Area a) = ⊥
Later (Name a) = Unit {0}
Later (Track a min max) = Unit {0}
Later (Repeat a n) = Unit {0}
Later (End a) = Unit {0}
Later (Spare a min max) = Unit {0}
Later (Extra a n p) = Unit {0}
Later (Item a i) = Unit {0}
Later (Place a s e) = Unit {0}
Later (PictureRow n) = ⊥
Later (Cell cs ce rs re) = Unit {0}

module _ (n : List ℕ) (e : AreaEdges) where
  -- a panel with one area more, the last
  abbrev pub with_area : PanelView → PanelView
  with_area v =
      record {
        columns = raised v.columns e.columnend;
        rows = raised v.rows e.rowend;
        areas = v.areas ++ (record { name = n; edges = e } ∷ []);
        picture = v.picture;
        placements = v.placements;
        cells = v.cells;
        stage = v.stage;
        lines = v.lines;
      }

  abbrev pub area_after : PanelOutcome → PanelOutcome
  area_after o = record { fault = o.fault; panel = with_area o.panel }

  -- what an accepted area does
  pub area-taken : (v : PanelView) → (area_step v n e).fault ≡ 0 → (area_step v n e).panel ≡ with_area v
  unfolding area_step
  area-taken v = go (edges_outside e) (ltb 32 (length n)) (ltb 32 (length n)) (leb 64 (length v.areas))
    where
      go : (s k t u : Bool)
          → (cond s (refused (cond k 2 4) v) (cond t (refused 2 v) (cond u (refused 8 v) (accepted (with_area v))))).fault ≡ 0
          → (cond s (refused (cond k 2 4) v) (cond t (refused 2 v) (cond u (refused 8 v) (accepted (with_area v))))).panel ≡ with_area v
      go true true t u z = absurd (omega arith)
      go true false t u z = absurd (omega arith)
      go false k true u z = absurd (omega arith)
      go false k false true z = absurd (omega arith)
      go false k false false z = refl

  -- a step of an axis
  on-column : (v : PanelView) (x y : AxisOutcome) → y ≡ raised_by e.columnend x → step_in (with_area v) Column y ≡ area_after (step_in v Column x)
  on-column v x y p = rw p

  on_row : (v : PanelView) (x y : AxisOutcome) → y ≡ raised_by e.rowend x → step_in (with_area v) Row y ≡ area_after (step_in v Row x)
  on_row v x y p = rw p

  limited-later : (v : PanelView) (fault : ℕ) (after : PanelView) → limited_step (with_area v) fault (with_area after) ≡ area_after (limited_step v fault after)
  unfolding limited_step
  limited-later v fault after = go (eqb fault 0) (leb most_items (items v))
    where
      go : (s t : Bool) → cond s (cond t (refused 8 (with_area v)) (accepted (with_area after))) (refused fault (with_area v))
          ≡ area_after (cond s (cond t (refused 8 v) (accepted after)) (refused fault v))
      go true true = refl
      go true false = refl
      go false t = refl

  -- one law over records
  pub later-record : (v : PanelView) (fs : Line) (r : Record) → Later r → record_step (with_area v) fs r ≡ area_after (record_step v fs r)
  unfolding record_step place_step cell_step
  later-record v fs (Fault k) l = refl
  later-record v fs (AxisLine a) l = absurd l
  later-record v fs (Area a) l = absurd l
  later-record v fs (Name Column) l = on-column v (name_step v.columns (at fs 2)) _ (name-raised v.columns e.columnend (at fs 2))
  later-record v fs (Name Row) l = on_row v (name_step v.rows (at fs 2)) _ (name-raised v.rows e.rowend (at fs 2))
  later-record v fs (Track Column min max) l = on-column v (track_step v.columns min max) _ (track-raised v.columns e.columnend min max)
  later-record v fs (Track Row min max) l = on_row v (track_step v.rows min max) _ (track-raised v.rows e.rowend min max)
  later-record v fs (Repeat Column k) l = on-column v (repeat_step v.columns k.kind k.number) _ (repeat-raised v.columns e.columnend k.kind k.number)
  later-record v fs (Repeat Row k) l = on_row v (repeat_step v.rows k.kind k.number) _ (repeat-raised v.rows e.rowend k.kind k.number)
  later-record v fs (End Column) l = on-column v (end_step v.columns) _ (end-raised v.columns e.columnend)
  later-record v fs (End Row) l = on_row v (end_step v.rows) _ (end-raised v.rows e.rowend)
  later-record v fs (Spare Column min max) l = on-column v (spare_step v.columns min max) _ (spare-raised v.columns e.columnend min max)
  later-record v fs (Spare Row min max) l = on_row v (spare_step v.rows min max) _ (spare-raised v.rows e.rowend min max)
  later-record v fs (Extra Column k p) l = on-column v (extra_step v.columns k p) _ (extra-raised v.columns e.columnend k p)
  later-record v fs (Extra Row k p) l = on_row v (extra_step v.rows k p) _ (extra-raised v.rows e.rowend k p)
  later-record v fs (Item Column i) l = on-column v (item_step v.columns i) _ (item-raised v.columns e.columnend i)
  later-record v fs (Item Row i) l = on_row v (item_step v.rows i) _ (item-raised v.rows e.rowend i)
  later-record v fs (Place a s f) l =
      limited-later v (ends_fault (placed_end (at fs 3) s) (placed_end (at fs 6) f))
      (with_placement v (record { axis = a; cell = false; start = placed_end (at fs 3) s; end = placed_end (at fs 6) f }))
  later-record v fs (PictureRow k) l = absurd l
  later-record v fs (Cell cs ce rs re) l =
      limited-later v (lower (ends_fault (placed_end (at fs 2) cs) (placed_end (at fs 5) ce)) (ends_fault (placed_end (at fs 8) rs) (placed_end (at fs 11) re)))
      (with_cell v (half Column (placed_end (at fs 2) cs) (placed_end (at fs 5) ce)) (half Row (placed_end (at fs 8) rs) (placed_end (at fs 11) re)))

  -- no fault of a later line looks at the areas
  record Unasked (v : PanelView) (fs : Line) (r : Record) : Type 0 where
    twice : twice_fault (with_area v) fs r ≡ twice_fault v fs r
    stage : stage_of (with_area v) r ≡ stage_of v r
    shared : shared_with (with_area v) r ≡ shared_with v r

  unasked : (v : PanelView) (fs : Line) (r : Record) → Later r → Unasked v fs r
  unasked v fs (Fault k) l = record { twice = refl; stage = refl; shared = refl }
  unasked v fs (AxisLine a) l = absurd l
  unasked v fs (Area a) l = absurd l
  unasked v fs (Name a) l = record { twice = refl; stage = refl; shared = refl }
  unasked v fs (Track a min max) l = record { twice = refl; stage = refl; shared = refl }
  unasked v fs (Repeat a k) l = record { twice = refl; stage = refl; shared = refl }
  unasked v fs (End a) l = record { twice = refl; stage = refl; shared = refl }
  unasked v fs (Spare a min max) l = record { twice = refl; stage = refl; shared = refl }
  unasked v fs (Extra a k p) l = record { twice = refl; stage = refl; shared = refl }
  unasked v fs (Item a i) l = record { twice = refl; stage = refl; shared = refl }
  unasked v fs (Place a s f) l = record { twice = refl; stage = refl; shared = refl }
  unasked v fs (PictureRow k) l = absurd l
  unasked v fs (Cell cs ce rs re) l = record { twice = refl; stage = refl; shared = refl }

  later-fault : (v : PanelView) (fs : Line) (r : Record) → Later r → record_fault (with_area v) fs r ≡ record_fault v fs r
  unfolding record_fault
  later-fault v fs r l = let u = unasked v fs r l in rw (u.twice, u.stage, later-record v fs r l)

  later-strict : (v : PanelView) (fs : Line) (r : Record) → Later r → strict_fault (with_area v) fs r ≡ strict_fault v fs r
  unfolding strict_fault
  later-strict v fs r l = let u = unasked v fs r l in rw (u.twice, u.stage, u.shared, later-record v fs r l)

  later-outcome : (v : PanelView) (fs : Line) (r : Record) → Later r → record_outcome (with_area v) fs r ≡ area_after (record_outcome v fs r)
  later-outcome v fs r l = rw (later-fault v fs r l, (unasked v fs r l).stage, later-record v fs r l) (go (eqb (record_fault v fs r) 0))
    where
      go : (t : Bool) → cond t (accepted (at_stage (stage_of v r) (with_area (record_step v fs r).panel))) (refused (record_fault v fs r) (with_area v))
          ≡ area_after (cond t (accepted (at_stage (stage_of v r) (record_step v fs r).panel)) (refused (record_fault v fs r) v))
      go true = refl
      go false = refl

  -- a line after the areas: its fault is the same, and the area may come after it
  pub later-line : (v : PanelView) (fs : Line) → Later (record_of fs) → line_step (with_area v) fs ≡ area_after (line_step v fs)
  unfolding line_step
  later-line v fs l = later-outcome v fs (record_of fs) l

  pub later-line-fault : (v : PanelView) (fs : Line) → Later (record_of fs) → line_fault (with_area v) fs ≡ line_fault v fs
  unfolding line_fault
  later-line-fault v fs l = later-strict v fs (record_of fs) l

-- ---- such a line changes no area

module _ (v : PanelView) where
  axis_areas : (a : Axis) (f : AxisView → AxisOutcome) → (step_in v a (f (view_in v a))).panel.areas ≡ v.areas
  axis_areas Column f = refl
  axis_areas Row f = refl

  limited_areas : (fault : ℕ) (after : PanelView) → after.areas ≡ v.areas → (limited_step v fault after).panel.areas ≡ v.areas
  unfolding limited_step
  limited_areas fault after h = go (eqb fault 0) (leb most_items (items v))
    where
      go : (s t : Bool) → (cond s (cond t (refused 8 v) (accepted after)) (refused fault v)).panel.areas ≡ v.areas
      go true true = refl
      go true false = h
      go false t = refl

  record_areas : (fs : Line) (r : Record) → Later r → (record_step v fs r).panel.areas ≡ v.areas
  unfolding record_step place_step cell_step
  record_areas fs (Fault k) l = refl
  record_areas fs (AxisLine a) l = absurd l
  record_areas fs (Area a) l = absurd l
  record_areas fs (Name a) l = axis_areas a (λ x. name_step x (at fs 2))
  record_areas fs (Track a min max) l = axis_areas a (λ x. track_step x min max)
  record_areas fs (Repeat a k) l = axis_areas a (λ x. repeat_step x k.kind k.number)
  record_areas fs (End a) l = axis_areas a end_step
  record_areas fs (Spare a min max) l = axis_areas a (λ x. spare_step x min max)
  record_areas fs (Extra a k p) l = axis_areas a (λ x. extra_step x k p)
  record_areas fs (Item a i) l = axis_areas a (λ x. item_step x i)
  record_areas fs (Place a s f) l = limited_areas (ends_fault (placed_end (at fs 3) s) (placed_end (at fs 6) f)) _ refl
  record_areas fs (PictureRow k) l = absurd l
  record_areas fs (Cell cs ce rs re) l = limited_areas (lower (ends_fault (placed_end (at fs 2) cs) (placed_end (at fs 5) ce)) (ends_fault (placed_end (at fs 8) rs) (placed_end (at fs 11) re))) _ refl

  pub line_areas : (fs : Line) → Later (record_of fs) → (line_step v fs).panel.areas ≡ v.areas
  unfolding line_step
  line_areas fs l = go (eqb (record_fault v fs (record_of fs)) 0) (record_areas fs (record_of fs) l)
    where
      go : (t : Bool) → (record_step v fs (record_of fs)).panel.areas ≡ v.areas
          → (cond t (accepted (at_stage (stage_of v (record_of fs)) (record_step v fs (record_of fs)).panel)) (refused (record_fault v fs (record_of fs)) v)).panel.areas ≡ v.areas
      go true i = i
      go false i = refl

-- ---- and after any number of them
abbrev pub AllLater : List Line → Type 0
AllLater [] = Unit {0}
AllLater (fs ∷ rest) = Later (record_of fs) × AllLater rest

-- after a line that is refused nothing more is taken
pub area_last : (n : List ℕ) (e : AreaEdges) (v : PanelView) (ls : List Line) → AllLater ls → taken_by (with_area n e v) ls ≡ area_after n e (taken_by v ls)
unfolding taken_by
area_last n e v [] l = refl
area_last n e v (fs ∷ rest) l =
    rw (reopens (is_of area fs && eqb v.stage 2), later-line-fault n e w fs l.0, later-line n e w fs l.0) (go (eqb (line_fault w fs) 0) (area_last n e (line_step w fs).panel rest l.1))
  where
    w : PanelView
    w = after_rows v fs

    reopens : (t : Bool) → cond t (reopened (with_area n e v)) (with_area n e v) ≡ with_area n e (cond t (reopened v) v)
    reopens true = refl
    reopens false = refl

    go : (t : Bool) → taken_by (with_area n e (line_step w fs).panel) rest ≡ area_after n e (taken_by (line_step w fs).panel rest)
        → cond t (taken_by (with_area n e (line_step w fs).panel) rest) (refused (line_fault w fs) (with_area n e v))
        ≡ area_after n e (cond t (taken_by (line_step w fs).panel rest) (refused (line_fault w fs) v))
    go true i = i
    go false i = refl
