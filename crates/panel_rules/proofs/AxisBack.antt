-- The template, the spare sizes and the counts that an axis holds read back. Assumes nothing.
use Prim.Native.Nat.{ℕ, ◌≤◌, min}
use mathlib.Core.Path.{◌≡◌, refl, sym}
use mathlib.Core.List.{List, [], map, append-nil}
use mathlib.Core.Bool.{Bool, true, false, cond}
use native.Mathlib.Omega.{arith}
use native.Mathlib.Nat.{min-eq_left}
use lib.Dec.{eqb, ltb}
use lib.ListN.{length-map}
use borrow.Author.Tests.{ltb-false}
use Rattle.name_rules.specs.Css.{Entry}
use Rattle.track_rules.specs.Written.{spares_of}
use Rattle.sizing.proofs.Words.{sizing_in_range_lem}
use Rattle.track_rules.specs.Records.{axis_refusal}
use Rattle.track_rules.proofs.Answers.{axis_unrefused}
use Rattle.axis_tables.specs.declared.AxisGrid.{AxisGrid}
use Rattle.sheet_forms.specs.Faults.{first_of}
use Rattle.sheet_forms.proofs.Firsts.{first_zero}
use Rattle.axis_tables.specs.View.{AxisView, sizes_of, components_of}
use Rattle.template_rules.specs.Template.{Component, template_of}
use Rattle.axis_tables.specs.declared.TemplateCounts.{TemplateCounts}
use Rattle.axis_tables.specs.Runs.{part_of}
use Rattle.axis_tables.specs.Store.{zero_template}
use Rattle.axis_tables.specs.Written.{min_of, room_of}
use Rattle.axis_tables.proofs.Fits.{Fits}
use Rattle.axis_tables.proofs.Back.{template-back, spare-minimums-back, spare-maximums-back, tracks-back}
use Rattle.sheet_rules.specs.Sheet.{size_of, counted, explicit_of, open_fault, count_fault, entries_fault, axis_fault}
use Rattle.sheet_rules.specs.Panels.{sized_state}
use Rattle.panel_rules.specs.Calls.{template_in, spares_in, axis_tracks}
use Rattle.panel_rules.specs.Views.{words_after, state_after, tracks_after}
use Rattle.panel_rules.specs.Ranges.{AxisRange}

-- ---- a view without fault

-- "an explicit count above 10,000 is refused by 4"
pub explicit_few : (x : AxisView) → axis_fault x ≡ 0 → explicit_of x ≤ 10000
explicit_few x e =
    go (ltb 10000 (explicit_of x)) refl
    (first_zero (count_fault x) (entries_fault x) (first_zero (open_fault x.unended) (first_of (count_fault x) (entries_fault x)) e).1).0
  where
    go : (t : Bool) → ltb 10000 (explicit_of x) ≡ t → ◌≡◌ {A = ℕ} (cond t 4 0) 0 → explicit_of x ≤ 10000
    go true q z = absurd (omega arith)
    go false q z = ltb-false 10000 (explicit_of x) q

-- ---- the words
module _ (x : AxisView) (f : Fits x) (es : List Entry) where
  -- layer 3's components, of what counts as the template
  pub template-held : template_in (state_after x es).grid (words_after x es) ≡ components_of (counted x)
  unfolding state_after sized_state words_after counted template_of
  template-held = go (eqb (size_of x).tracks 0)
    where
      w : List ℕ
      w = words_after x es

      held : TemplateCounts → List Component
      held c = template_of (part_of w 0 c.components) (part_of w 64 c.tracks) (part_of w 2112 c.tracks)

      go : (t : Bool) → held (cond t zero_template (room_of x).template) ≡ components_of (cond t [] x.template)
      go true = refl
      go false = template-back x f _

  -- layer 5's spare sizes
  pub spares_held : spares_in (state_after x es).grid (words_after x es) ≡ map sizes_of x.spares
  unfolding state_after sized_state words_after spares_of
  spares_held =
      rw (spare-minimums-back x f _, spare-maximums-back x f _, length-map x.spares min_of)
      (tracks-back x.spares x.spares [] 0 (sym (append-nil x.spares)))

-- ---- the state

-- counts in range are not held
pub tracks-held : (x : AxisView) (span : ℕ) → AxisRange span x → explicit_of x ≤ 10000 → (es : List Entry) → axis_tracks (state_after x es).grid ≡ tracks_after x
unfolding state_after sized_state
tracks-held x span r h es = rw (min-eq_left r.negative, min-eq_left h, min-eq_left r.positive)

-- whatever a state holds, its gap and its counts are read in their ranges, so that layer 5 does not refuse its axis
pub state-unrefused : (g : AxisGrid) → axis_refusal (axis_tracks g) ≡ 0
state-unrefused g =
    axis_unrefused (axis_tracks g) (sizing_in_range_lem g.space.gap) (held g.implicit.negative) (held g.size.explicit) (held g.implicit.positive)
  where
    held : (n : ℕ) → min n 10000 ≤ 10000
    held n = omega arith
