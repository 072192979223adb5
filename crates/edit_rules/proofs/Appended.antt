-- An edit that is no area is the line appended to the sheet: same faults, same panel. Assumes nothing.
use Prim.Native.Nat.{ℕ, ◌≤◌}
use mathlib.Core.Path.{◌≡◌, refl, sym, ap, ◌∙◌}
use mathlib.Core.List.{[], ◌∷◌}
use mathlib.Core.Bool.{Bool, true, false, cond}
use lib.Dec.{eqb, leb}
use borrow.Author.Tests.{eqb-true, le-ltb}
use Rattle.coordinates.specs.declared.axis.Axis.{Axis}
use Rattle.coordinates.specs.declared.axis.Axis.TheVariants.{Column, Row}
use Rattle.sheet_forms.specs.Said.{PlaceEnd, Record}
use Rattle.sheet_forms.specs.Said.{Fault, Track, Place}
use Rattle.sheet_forms.specs.Words.{at}
use Rattle.sheet_forms.specs.Forms.{area}
use Rattle.sheet_forms.specs.Records.{record_of}
use Rattle.sheet_forms.specs.Faults.{first_of}
use Rattle.sheet_forms.proofs.Firsts.{first_zero}
use Rattle.panel_tables.specs.View.{PanelView, PanelOutcome, refused, accepted, ends_fault, most_items, items, limited_step, with_placement, place_step}
use Rattle.sheet_rules.specs.Contents.{Line, is_of}
use Rattle.sheet_rules.specs.Lines.{placed_end, late_at, record_step, twice_fault, stage_of, late_fault, overlap_fault, record_fault, record_outcome, at_stage, strict_fault, line_fault, line_step}
use Rattle.sheet_rules.proofs.Says.{record_says}
use Rattle.sheet_rules.proofs.LineFields.{Reads, record_reads}
use Rattle.edit_rules.specs.Edits.{is_edit}
use Rattle.edit_rules.specs.Replay.{reopened, edit_fault, edit_step}
use Rattle.edit_rules.specs.Theorem.{taken_by}
use Rattle.edit_rules.proofs.Areas.{Later}
use Rattle.edit_rules.proofs.EditRecords.{EditRecord, fault as a_fault, area as an_area, track as a_track, place as a_place, edit_record}
use Rattle.edit_rules.proofs.Sorts.{edit_later, never_late}
use Rattle.edit_rules.proofs.Taken.{line_clean}

-- the kind order does not show in a step
abbrev reopened_in : PanelOutcome → PanelOutcome
reopened_in o = record { fault = o.fault; panel = reopened o.panel }

track-reopened : (v : PanelView) (fs : Line) (a : Axis) (min max : ℕ) → record_step (reopened v) fs (Track a min max) ≡ reopened_in (record_step v fs (Track a min max))
unfolding record_step
track-reopened v fs Column min max = refl
track-reopened v fs Row min max = refl

limited_reopened : (v : PanelView) (fault : ℕ) (after : PanelView) → limited_step (reopened v) fault (reopened after) ≡ reopened_in (limited_step v fault after)
unfolding limited_step
limited_reopened v fault after = go (eqb fault 0) (leb most_items (items v))
  where
    go : (s t : Bool) → cond s (cond t (refused 8 (reopened v)) (accepted (reopened after))) (refused fault (reopened v))
        ≡ reopened_in (cond s (cond t (refused 8 v) (accepted after)) (refused fault v))
    go true true = refl
    go true false = refl
    go false t = refl

place-reopened : (v : PanelView) (fs : Line) (a : Axis) (s e : PlaceEnd) → record_step (reopened v) fs (Place a s e) ≡ reopened_in (record_step v fs (Place a s e))
unfolding record_step place_step
place-reopened v fs a s e =
    limited_reopened v (ends_fault (placed_end (at fs 3) s) (placed_end (at fs 6) e))
    (with_placement v (record { axis = a; cell = false; start = placed_end (at fs 3) s; end = placed_end (at fs 6) e }))

-- what a line's faults and its step have of the kind order: nothing but that it may be late
record Unmoved (v : PanelView) (fs : Line) (r : Record) : Type 0 where
  twice : twice_fault (reopened v) fs r ≡ twice_fault v fs r
  late : late_fault (reopened v) r ≡ late_fault v r
  overlap : overlap_fault (reopened v) r ≡ overlap_fault v r
  stage : strict_fault v fs r ≡ 0 → stage_of (reopened v) r ≡ stage_of v r
  step : record_step (reopened v) fs r ≡ reopened_in (record_step v fs r)

last : (n : ℕ) → n ≤ 3 → ◌≡◌ {A = ℕ} 0 (cond (late_at 3 n) 7 0)
last n h = rw (le-ltb 3 n h)

unmoved : (v : PanelView) (fs : Line) → v.stage ≤ 3 → (r : Record) → EditRecord r → Reads fs r → Later r → Unmoved v fs r
unfolding strict_fault record_step
unmoved v fs h r (a_fault n) k l =
    record {
      twice = refl;
      late = sym (never_late v (Fault n) tt h);
      overlap = refl;
      stage = λ z. absurd (k (own z));
      step = refl;
    }
  where
    own : strict_fault v fs (Fault n) ≡ 0 → n ≡ 0
    own z =
        let a = first_zero (first_of n (first_of 0 (late_fault v (Fault n)))) (first_of 0 (record_step v fs (Fault n)).fault) z in
        (first_zero n (first_of 0 (late_fault v (Fault n))) a.0).0
unmoved v fs h r (an_area a) k l = absurd l
unmoved v fs h r (a_track a min max) k l = record { twice = refl; late = last v.stage h; overlap = refl; stage = λ z. refl; step = track-reopened v fs a min max }
unmoved v fs h r (a_place a s e) k l = record { twice = refl; late = last v.stage h; overlap = refl; stage = λ z. refl; step = place-reopened v fs a s e }

module _ (v : PanelView) (fs : Line) (r : Record) (u : Unmoved v fs r) where
  former_same : record_fault (reopened v) fs r ≡ record_fault v fs r
  unfolding record_fault
  former_same = rw (u.twice, u.late, u.step)

  strict_same : strict_fault (reopened v) fs r ≡ strict_fault v fs r
  unfolding strict_fault
  strict_same = rw (u.twice, u.late, u.overlap, u.step)

  outcome_same : strict_fault v fs r ≡ 0 → record_fault v fs r ≡ 0 → (record_outcome (reopened v) fs r).panel ≡ (record_outcome v fs r).panel
  outcome_same z y = rw (former_same, y, u.stage z, u.step)

outcome_fault : (v : PanelView) (fs : Line) (r : Record) → (record_outcome v fs r).fault ≡ record_fault v fs r
outcome_fault v fs r = go (eqb (record_fault v fs r) 0) refl
  where
    go : (t : Bool) → eqb (record_fault v fs r) 0 ≡ t
        → (cond t (accepted (at_stage (stage_of v r) (record_step v fs r).panel)) (refused (record_fault v fs r) v)).fault ≡ record_fault v fs r
    go true e = sym (eqb-true (record_fault v fs r) 0 e)
    go false e = refl

-- a line that comes last: as an edit it has the same fault, and where there is none it does the same
record Appended (v : PanelView) (fs : Line) : Type 0 where
  fault : edit_fault v fs ≡ line_fault v fs
  panel : line_fault v fs ≡ 0 → (line_step (reopened v) fs).panel ≡ (line_step v fs).panel

appended : (v : PanelView) (fs : Line) → Unmoved v fs (record_of fs) → Appended v fs
unfolding line_fault line_step
appended v fs u =
    record {
      fault = strict_same v fs (record_of fs) u;
      panel = λ z. outcome_same v fs (record_of fs) u z (sym (outcome_fault v fs (record_of fs)) ∙ line_clean v fs z);
    }

-- so it does as an edit what it does as the last line
pub taken_last : (v : PanelView) (fs : Line) → v.stage ≤ 3 → is_edit fs ≡ true → is_of area fs ≡ false → taken_by v (fs ∷ []) ≡ edit_step v fs
unfolding taken_by edit_step
taken_last v fs h e other =
    let r = edit_record fs e in
    let a = appended v fs (unmoved v fs h (record_of fs) r (record_reads fs) (edit_later fs (record_of fs) r (record_says fs) other)) in
    rw (other, a.fault) (go a (eqb (line_fault v fs) 0) refl)
  where
    go : Appended v fs → (t : Bool) → eqb (line_fault v fs) 0 ≡ t
        → cond t (accepted (line_step v fs).panel) (refused (line_fault v fs) v) ≡ cond t (accepted (line_step (reopened v) fs).panel) (refused (line_fault v fs) v)
    go a true q = ap accepted (sym (a.panel (eqb-true (line_fault v fs) 0 q)))
    go a false q = refl
