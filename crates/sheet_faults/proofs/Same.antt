-- A line on what is held for a view: it has the view's fault, and where that is none it leaves what is held for the view after it. Assumes nothing.
use Prim.Native.Nat.{ℕ}
use mathlib.Core.Path.{◌≡◌, refl, sym, ap, ◌∙◌}
use mathlib.Core.List.{List}
use mathlib.Core.Bool.{Bool, true, false, cond}
use lib.Dec.{eqb}
use borrow.Author.Tests.{eq-eqb}
use Rattle.coordinates.specs.declared.axis.Axis.{Axis}
use Rattle.coordinates.specs.declared.axis.Axis.TheVariants.{Column, Row}
use Rattle.sheet_forms.specs.Said.{Record}
use Rattle.sheet_forms.specs.Said.{Fault, Axis as AxisLine, Area, Name, Track, Repeat, End, Spare, Extra, Item, Place, PictureRow, Cell}
use Rattle.sheet_forms.specs.Words.{at}
use Rattle.sheet_forms.specs.Faults.{first_of}
use Rattle.sheet_forms.specs.Records.{record_of, fault_of}
use Rattle.sheet_forms.proofs.Firsts.{first_zero, first_joined}
use Rattle.sheet_forms.proofs.Bounds.{Bounded}
use Rattle.sheet_forms.proofs.Theorem.{record_bounded}
use Rattle.axis_tables.specs.View.{Unended, none, inside, AxisView}
use Rattle.axis_tables.specs.Written.{was_seen, repeat_of, reading_of}
use Rattle.panel_tables.specs.View.{PanelView, refused, accepted}
use Rattle.panel_tables.specs.Axes.{reading_in, view_in}
use Rattle.panel_tables.specs.Written.{panel_reading_of, held_panel}
use Rattle.panel_tables.proofs.Fits.{FitsPanel}
use Rattle.panel_tables.proofs.Back.{has_back}
use Rattle.panel_cells.proofs.Search.{sharing-back}
use Rattle.sheet_rules.specs.Lines.{edges_of, late_at, record_step, twice_fault, stage_of, late_fault, shared_with, record_fault, strict_fault, line_fault, shared_at, at_stage as view_at_stage, record_outcome, line_step}
use Rattle.sheet_rules.specs.Steps.{held_step}
use Rattle.sheet_rules.proofs.Fits.{FitsSheet}
use Rattle.sheet_rules.proofs.LineTheorem.{outcome-fault}
use Rattle.sheet_rules.proofs.Same.{record_same}
use Rattle.sheet_faults.specs.Lines.{twice_in, stage_in, late_in, fault_before, shared_in, noted_by, at_stage, record_in, line_in, line_shared}

-- ---- the faults that a record has before it is written

-- whether the `axis` record was seen is in the reading
seen_of : (x : AxisView) → (reading_of x).seen ≡ was_seen x.line.seen
seen_of x = go x.unended
  where
    go : (u : Unended) → (repeat_of x.line.seen x.template u).seen ≡ was_seen x.line.seen
    go none = refl
    go (inside r) = refl

-- of either axis
seen_in : (v : PanelView) (a : Axis) → (reading_in (panel_reading_of v) a).seen ≡ was_seen (view_in v a).line.seen
seen_in v Column = seen_of v.columns
seen_in v Row = seen_of v.rows

-- an `axis` record again
again : (t : Bool) → ◌≡◌ {A = ℕ} (cond (cond t false true) 6 0) (cond t 0 6)
again true = refl
again false = refl

-- a record has its place in the kind order
stage_same : (v : PanelView) (r : Record) → stage_in v.stage r ≡ stage_of v r
stage_same v (Fault n) = refl
stage_same v (AxisLine a) = refl
stage_same v (Area a) = refl
stage_same v (Name a) = refl
stage_same v (Track a min max) = refl
stage_same v (Repeat a n) = refl
stage_same v (End a) = refl
stage_same v (Spare a min max) = refl
stage_same v (Extra a n p) = refl
stage_same v (Item a i) = refl
stage_same v (Place a s e) = refl
stage_same v (PictureRow n) = refl
stage_same v (Cell cs ce rs re) = refl

-- late
late-same : (v : PanelView) (r : Record) → late_in v.stage r ≡ late_fault v r
late-same v r = ap (λ (n : ℕ). cond (late_at n v.stage) 7 0) (stage_same v r)

module _ (v : PanelView) (sheet : FitsSheet v) (fs : List (List ℕ)) where
  abbrev f : FitsPanel v
  f = sheet.panel

  -- twice, by the areas read back
  twice_same : (r : Record) → twice_in (held_panel v) fs r ≡ twice_fault v fs r
  unfolding held_panel
  twice_same (Fault n) = refl
  twice_same (AxisLine a) = ap (λ (t : Bool). cond t 6 0) (seen_in v a.axis) ∙ again (eqb (view_in v a.axis).line.seen 0)
  twice_same (Area a) = ap (λ (t : Bool). cond t 6 0) (has_back v.areas f.drawn f.areas (at fs 1))
  twice_same (Name a) = refl
  twice_same (Track a min max) = refl
  twice_same (Repeat a n) = refl
  twice_same (End a) = refl
  twice_same (Spare a min max) = refl
  twice_same (Extra a n p) = refl
  twice_same (Item a i) = refl
  twice_same (Place a s e) = refl
  twice_same (PictureRow n) = refl
  twice_same (Cell cs ce rs re) = refl

  -- the faults before
  before_same : (r : Record) → fault_before (held_panel v) fs r ≡ first_of (fault_of r) (first_of (twice_fault v fs r) (late_fault v r))
  unfolding fault_before held_panel
  before_same r = ap (λ (n : ℕ). first_of (fault_of r) (first_of n (late_in v.stage r))) (twice_same r) ∙ ap (λ (n : ℕ). first_of (fault_of r) (first_of (twice_fault v fs r) n)) (late-same v r)

  -- ---- the line

  -- the record's fault
  record-fault : (r : Record) → Bounded fs r → (record_in (held_panel v) fs r).fault ≡ record_fault v fs r
  unfolding record_in record_fault
  record-fault r w =
      let a : ℕ = fault_of r in
      let b : ℕ = twice_fault v fs r in
      let c : ℕ = late_fault v r in
      let d : ℕ = (record_step v fs r).fault in
      ap (λ (n : ℕ). first_of n (held_step (held_panel v) fs r).fault) (before_same r)
      ∙ ap (first_of (first_of a (first_of b c))) (record_same v sheet fs r w).fault
      ∙ first_joined a (first_of b c) d
      ∙ ap (first_of a) (first_joined b c d)

  -- the kind order is in the reading alone
  stage-held : (n : ℕ) (w : PanelView) → at_stage n (held_panel w) ≡ held_panel (view_at_stage n w)
  unfolding held_panel
  stage-held n w = refl

  -- a record without a fault
  record-held : (r : Record) → Bounded fs r → record_fault v fs r ≡ 0 → (record_in (held_panel v) fs r).held ≡ held_panel (record_outcome v fs r).panel
  unfolding record_in
  record-held r w e =
      ap (λ (n : ℕ). at_stage n (held_step (held_panel v) fs r).held) (reading-stage ∙ stage_same v r)
      ∙ ap (at_stage (stage_of v r)) ((record_same v sheet fs r w).held step)
      ∙ stage-held (stage_of v r) (record_step v fs r).panel
      ∙ ap (λ (t : Bool). held_panel (cond t (accepted (view_at_stage (stage_of v r) (record_step v fs r).panel)) (refused (record_fault v fs r) v)).panel) (sym (eq-eqb (record_fault v fs r) 0 e))
    where
      step : (record_step v fs r).fault ≡ 0
      step = unfold record_fault in last (first_zero (fault_of r) (first_of (twice_fault v fs r) (first_of (late_fault v r) (record_step v fs r).fault)) e).1
        where
          last : first_of (twice_fault v fs r) (first_of (late_fault v r) (record_step v fs r).fault) ≡ 0 → (record_step v fs r).fault ≡ 0
          last z = (first_zero (late_fault v r) (record_step v fs r).fault (first_zero (twice_fault v fs r) (first_of (late_fault v r) (record_step v fs r).fault) z).1).1

      reading-stage : stage_in (held_panel v).reading.stage r ≡ stage_in v.stage r
      reading-stage = unfold held_panel in refl

-- a line has the fault that it has on the view
pub line_fault_lem : (v : PanelView) → FitsSheet v → (fs : List (List ℕ)) → (line_in (held_panel v) fs).fault ≡ (line_step v fs).fault
unfolding line_in line_step
line_fault_lem v f fs = record-fault v f fs (record_of fs) (record_bounded fs) ∙ sym (outcome-fault v fs (record_of fs))

-- and where that is none, what is held then is what is held for the view after it
pub line-held : (v : PanelView) → FitsSheet v → (fs : List (List ℕ)) → (line_step v fs).fault ≡ 0 → (line_in (held_panel v) fs).held ≡ held_panel (line_step v fs).panel
unfolding line_in line_step
line-held v f fs e = record-held v f fs (record_of fs) (record_bounded fs) (sym (outcome-fault v fs (record_of fs)) ∙ e)

-- ---- the overlap

-- the areas are read back from their table
shared_with_lem : (v : PanelView) → FitsPanel v → (r : Record) → shared_in (held_panel v) r ≡ shared_with v r
unfolding held_panel
shared_with_lem v f (Fault n) = refl
shared_with_lem v f (AxisLine a) = refl
shared_with_lem v f (Area a) = sharing-back v.areas f.drawn f.areas (edges_of a)
shared_with_lem v f (Name a) = refl
shared_with_lem v f (Track a min max) = refl
shared_with_lem v f (Repeat a n) = refl
shared_with_lem v f (End a) = refl
shared_with_lem v f (Spare a min max) = refl
shared_with_lem v f (Extra a n p) = refl
shared_with_lem v f (Item a i) = refl
shared_with_lem v f (Place a s e) = refl
shared_with_lem v f (PictureRow n) = refl
shared_with_lem v f (Cell cs ce rs re) = refl

-- a line notes what it notes on the view
pub line_shared_lem : (v : PanelView) → FitsSheet v → (fs : List (List ℕ)) → line_shared (held_panel v) fs ≡ shared_at v fs
unfolding line_shared shared_at line_fault strict_fault
line_shared_lem v f fs =
    let r : Record = record_of fs in
    ap (λ (n : ℕ). noted_by n (shared_in (held_panel v) r) (held_step (held_panel v) fs r).fault) (before_same v f fs r)
    ∙ ap (λ (n : ℕ). noted_by (first_of (fault_of r) (first_of (twice_fault v fs r) (late_fault v r))) n (held_step (held_panel v) fs r).fault) (shared_with_lem v f.panel r)
    ∙ ap (noted_by (first_of (fault_of r) (first_of (twice_fault v fs r) (late_fault v r))) (shared_with v r)) (record_same v f fs r (record_bounded fs)).fault
