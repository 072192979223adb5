-- A record is written where its part says, and the faults before look at no more than they take. Assumes nothing.
use Prim.Native.Nat.{ℕ}
use mathlib.Core.Path.{◌≡◌, refl, sym, ap, ◌∙◌}
use mathlib.Core.List.{List, []}
use lib.ListN.{drop}
use Rattle.picture_rules.specs.Picture.{Word}
use Rattle.coordinates.specs.declared.axis.Axis.{Axis}
use Rattle.coordinates.specs.declared.axis.Axis.TheVariants.{Column, Row}
use Rattle.sheet_forms.specs.Said.{Record}
use Rattle.sheet_forms.specs.Said.{Fault, Axis as AxisLine, Area, Name, Track, Repeat, End, Spare, Extra, Item, Place, PictureRow, Cell}
use Rattle.sheet_forms.specs.Words.{at}
use Rattle.sheet_forms.specs.Faults.{first_of}
use Rattle.sheet_forms.specs.Names.{first_name, second_name, third_name, fourth_name}
use Rattle.sheet_forms.specs.Records.{record_of, fault_of}
use Rattle.panel_tables.specs.Written.{PanelHeld, PanelStepped}
use Rattle.panel_tables.specs.Axes.{held_in}
use Rattle.sheet_rules.specs.Steps.{axis_held, axis_record, on_held, held_step}
use Rattle.sheet_faults.specs.Lines.{twice_in, stage_in, late_in, fault_before, shared_in, noted_by, at_stage, record_in, line_in, line_shared}
use Rattle.sheet_faults.specs.Parts.{Part, axis_part, part_of, named, Names, part_step, named_step, twice_of, before_of, shared_of}

-- the names of a record, in its line
abbrev pub names_of : List (List ℕ) → Record → Names
names_of fs r = record { first = first_name r fs; second = second_name r fs; third = third_name r fs; fourth = fourth_name r fs }

module _ (h : PanelHeld) where
  -- a record of an axis is written to that axis's tables
  axis_step_lem : (fs : List (List ℕ)) (n : Names) (ws : List Word) (a : Axis) (r : Record) → axis_record (axis_held h a) fs r ≡ axis_record (axis_held h a) (named n.first) r
      → on_held h a fs r ≡ part_step h n ws r (axis_part a)
  axis_step_lem fs n ws Column r e = ap (held_in h Column) e
  axis_step_lem fs n ws Row r e = ap (held_in h Row) e

  -- what is written there is what the record does
  pub by_part : (n : Names) (ws : List Word) (r : Record) (q : Part) {x : PanelStepped} → part_of r ≡ q → x ≡ part_step h n ws r q → x ≡ named_step h n ws r
  by_part n ws r q e k = k ∙ ap (part_step h n ws r) (sym e)

module _ (h : PanelHeld) (fs : List (List ℕ)) where
  -- any record is written to its part, with its names
  part_step_lem : (r : Record) → held_step h fs r ≡ named_step h (names_of fs r) (drop 1 fs) r
  unfolding held_step
  part_step_lem (Fault n) = refl
  part_step_lem (AxisLine a) = axis_step_lem h fs (names_of fs (AxisLine a)) (drop 1 fs) a.axis (AxisLine a) refl
  part_step_lem (Area a) = refl
  part_step_lem (Name a) = axis_step_lem h fs (names_of fs (Name a)) (drop 1 fs) a (Name a) refl
  part_step_lem (Track a min max) = axis_step_lem h fs (names_of fs (Track a min max)) (drop 1 fs) a (Track a min max) refl
  part_step_lem (Repeat a n) = axis_step_lem h fs (names_of fs (Repeat a n)) (drop 1 fs) a (Repeat a n) refl
  part_step_lem (End a) = axis_step_lem h fs (names_of fs (End a)) (drop 1 fs) a (End a) refl
  part_step_lem (Spare a min max) = axis_step_lem h fs (names_of fs (Spare a min max)) (drop 1 fs) a (Spare a min max) refl
  part_step_lem (Extra a n p) = axis_step_lem h fs (names_of fs (Extra a n p)) (drop 1 fs) a (Extra a n p) refl
  part_step_lem (Item a i) = axis_step_lem h fs (names_of fs (Item a i)) (drop 1 fs) a (Item a i) refl
  part_step_lem (Place a s e) = refl
  part_step_lem (PictureRow n) = refl
  part_step_lem (Cell cs ce rs re) = refl

  -- twice looks at the reading, the areas and the name alone
  twice-of : (r : Record) → twice_in h fs r ≡ twice_of h.panel.grid.areas h.reading h.areas h.area_bytes (first_name r fs) r
  twice-of (Fault n) = refl
  twice-of (AxisLine a) = refl
  twice-of (Area a) = refl
  twice-of (Name a) = refl
  twice-of (Track a min max) = refl
  twice-of (Repeat a n) = refl
  twice-of (End a) = refl
  twice-of (Spare a min max) = refl
  twice-of (Extra a n p) = refl
  twice-of (Item a i) = refl
  twice-of (Place a s e) = refl
  twice-of (PictureRow n) = refl
  twice-of (Cell cs ce rs re) = refl

  -- and so do the faults before
  before_of_lem : (r : Record) → fault_before h fs r ≡ before_of h.panel.grid.areas h.reading h.areas h.area_bytes (first_name r fs) r
  unfolding fault_before
  before_of_lem r = ap (λ (n : ℕ). first_of (fault_of r) (first_of n (late_in h.reading.stage r))) (twice-of r)

  -- the fault and what is held, by the fault before, the place in the kind order and what was written
  abbrev made : ℕ → ℕ → PanelStepped → PanelStepped
  made before stage x = record { fault = first_of before x.fault; held = at_stage stage x.held }

  -- a line from its record and its names, its fault before, what it wrote and its place in the kind order
  pub line-by : {r : Record} {n : Names} {x : PanelStepped} {before stage fault : ℕ} → r ≡ record_of fs → n ≡ names_of fs r
      → before ≡ before_of h.panel.grid.areas h.reading h.areas h.area_bytes n.first r → x ≡ named_step h n (drop 1 fs) r
      → stage ≡ stage_in h.reading.stage r → fault ≡ first_of before x.fault → record { fault = fault; held = at_stage stage x.held } ≡ line_in h fs
  unfolding line_in record_in
  line-by {r} {n} {x} {before} {stage} {fault} said names earlier wrote reached top =
      ap (λ (n : ℕ). record { fault = n; held = at_stage stage x.held }) top
      ∙ ap (λ (n : ℕ). made n stage x) (earlier ∙ ap (λ (m : Names). before_of h.panel.grid.areas h.reading h.areas h.area_bytes m.first r) names ∙ sym (before_of_lem r))
      ∙ ap (λ (n : ℕ). made (fault_before h fs r) n x) reached
      ∙ ap (made (fault_before h fs r) (stage_in h.reading.stage r)) (wrote ∙ ap (λ (m : Names). named_step h m (drop 1 fs) r) names ∙ sym (part_step_lem r))
      ∙ ap (record_in h fs) said

  -- the area that it shares a cell with looks at the areas' edges alone
  shared_of_lem : (r : Record) → shared_in h r ≡ shared_of h.panel.grid.areas h.areas r
  shared_of_lem (Fault n) = refl
  shared_of_lem (AxisLine a) = refl
  shared_of_lem (Area a) = refl
  shared_of_lem (Name a) = refl
  shared_of_lem (Track a min max) = refl
  shared_of_lem (Repeat a n) = refl
  shared_of_lem (End a) = refl
  shared_of_lem (Spare a min max) = refl
  shared_of_lem (Extra a n p) = refl
  shared_of_lem (Item a i) = refl
  shared_of_lem (Place a s e) = refl
  shared_of_lem (PictureRow n) = refl
  shared_of_lem (Cell cs ce rs re) = refl

  -- the overlap of a line, by its fault before, the area found and what it wrote
  pub line-noted : {r : Record} {n : Names} {x : PanelStepped} {before shared noted : ℕ} → r ≡ record_of fs → n ≡ names_of fs r
      → before ≡ before_of h.panel.grid.areas h.reading h.areas h.area_bytes n.first r → x ≡ named_step h n (drop 1 fs) r
      → shared ≡ shared_of h.panel.grid.areas h.areas r → noted ≡ noted_by before shared x.fault → noted ≡ line_shared h fs
  unfolding line_shared
  line-noted {r} {n} {x} {before} {shared} {noted} said names earlier wrote found top =
      top
      ∙ ap (λ (n : ℕ). noted_by n shared x.fault) (earlier ∙ ap (λ (m : Names). before_of h.panel.grid.areas h.reading h.areas h.area_bytes m.first r) names ∙ sym (before_of_lem r))
      ∙ ap (λ (n : ℕ). noted_by (fault_before h fs r) n x.fault) (found ∙ sym (shared_of_lem r))
      ∙ ap (λ (s : PanelStepped). noted_by (fault_before h fs r) (shared_in h r) s.fault) (wrote ∙ ap (λ (m : Names). named_step h m (drop 1 fs) r) names ∙ sym (part_step_lem r))
      ∙ ap (λ (s : Record). noted_by (fault_before h fs s) (shared_in h s) (held_step h fs s).fault) said
