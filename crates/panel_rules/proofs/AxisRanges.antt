-- Every record of an axis keeps its ranges. Assumes nothing.
use Prim.Native.Nat.{ℕ, ◌≤◌}
use mathlib.Core.List.{List, [], ◌∷◌, ◌++◌}
use mathlib.Core.Bool.{Bool, true, false, cond}
use lib.Dec.{ltb}
use mathlib.Core.Path.{◌∙◌}
use lib.ListN.{length, set, length-set}
use Rattle.axis_tables.specs.View.{Item, single, repeat, track, Unended, none, inside, Sizes, AxisView, AxisOutcome, refused, accepted, tracks_in, components_of, axis_names, axis_bytes, no_room, named_fault, with_template, with_item, with_piece, with_name, more_pieces, repeat_kind, track_by, repeat_by, end_by, track_step, repeat_step, end_step, name_step, spare_step, item_step, extra_step, axis_step}
use Rattle.panel_rules.specs.Ranges.{AxisRange}

module _ (n : ℕ) where
  either : (t : Bool) (a b : AxisOutcome) → AxisRange n a.axis → AxisRange n b.axis → AxisRange n (cond t a b).axis
  either true a b f g = f
  either false a b f g = g

  template-range : (v : AxisView) (is : List Item) (u : Unended) → AxisRange n v → AxisRange n (with_template v is u)
  template-range v is u r = record { areas = r.areas; negative = r.negative; positive = r.positive; marks = r.marks }

  pub track_range : (v : AxisView) (min max : ℕ) → AxisRange n v → AxisRange n (track_step v min max).axis
  unfolding track_step
  track_range v min max r = go v.unended
    where
      t : Sizes
      t = record { min = min; max = max }

      go : (u : Unended) → AxisRange n (track_by v u t).axis
      go none =
          either (ltb 63 (length (components_of v.template))) (refused 8 v) (accepted (with_item v (single (track t)))) r
          (template-range v (v.template ++ (single (track t) ∷ [])) none r)
      go (inside x) =
          either (ltb 31 (length (tracks_in x.pieces))) (refused 8 v) (accepted (with_piece v x (track t))) r
          (template-range v v.template (inside (more_pieces x (track t))) r)

  pub repeat-range : (v : AxisView) (kind number : ℕ) → AxisRange n v → AxisRange n (repeat_step v kind number).axis
  unfolding repeat_step
  repeat-range v kind number r = go v.unended
    where
      go : (u : Unended) → AxisRange n (repeat_by v u kind number).axis
      go (inside x) = r
      go none =
          let u : Unended = inside (record { kind = repeat_kind kind; number = number; pieces = [] }) in
          let o : AxisOutcome = accepted (with_template v v.template u) in
          let c : Bool = ltb 63 (length (components_of v.template)) in
          either (ltb 65535 number) (refused 4 v) (cond c (refused 8 v) o) r (either c (refused 8 v) o r (template-range v v.template u r))

  pub end-range : (v : AxisView) → AxisRange n v → AxisRange n (end_step v).axis
  unfolding end_step
  end-range v r = go v.unended
    where
      go : (u : Unended) → AxisRange n (end_by v u).axis
      go none = r
      go (inside x) = template-range v (v.template ++ (repeat x ∷ [])) none r

  pub name_range : (v : AxisView) (f : List ℕ) → AxisRange n v → AxisRange n (name_step v f).axis
  unfolding name_step
  name_range v f r =
      either (no_room 4096 32768 (length (axis_names v)) (length (axis_bytes v)) (length f)) (refused (named_fault (length f) 8) v) (accepted (with_name v v.unended f)) r (go v.unended)
    where
      go : (u : Unended) → AxisRange n (with_name v u f)
      go none = record { areas = r.areas; negative = r.negative; positive = r.positive; marks = r.marks }
      go (inside x) = record { areas = r.areas; negative = r.negative; positive = r.positive; marks = r.marks }

  pub spare-range : (v : AxisView) (min max : ℕ) → AxisRange n v → AxisRange n (spare_step v min max).axis
  unfolding spare_step
  spare-range v min max r = go (ltb 63 (length v.spares))
    where
      go : (t : Bool) → AxisRange n (cond t (refused 8 v) (accepted (record { line = v.line; template = v.template; unended = v.unended; spares = v.spares ++ (record { min = min; max = max } ∷ []); negative = v.negative; positive = v.positive; marks = v.marks; areas = v.areas }))).axis
      go true = r
      go false = record { areas = r.areas; negative = r.negative; positive = r.positive; marks = r.marks }

  pub item-range : (v : AxisView) (i : ℕ) → AxisRange n v → AxisRange n (item_step v i).axis
  unfolding item_step
  item-range v i r = go (ltb 29999 i)
    where
      go : (t : Bool) → AxisRange n (cond t (refused 4 v) (accepted (record { line = v.line; template = v.template; unended = v.unended; spares = v.spares; negative = v.negative; positive = v.positive; marks = set v.marks i 1; areas = v.areas }))).axis
      go true = r
      go false = record { areas = r.areas; negative = r.negative; positive = r.positive; marks = length-set v.marks i 1 ∙ r.marks }

  pub extra-range : (v : AxisView) (m p : ℕ) → m ≤ 10000 → p ≤ 10000 → AxisRange n v → AxisRange n (extra_step v m p).axis
  unfolding extra_step
  extra-range v m p h k r = record { areas = r.areas; negative = h; positive = k; marks = r.marks }

  pub axis-range : (v : AxisView) (definite inner rule gap : ℕ) → AxisRange n v → AxisRange n (axis_step v definite inner rule gap).axis
  unfolding axis_step
  axis-range v definite inner rule gap r = record { areas = r.areas; negative = r.negative; positive = r.positive; marks = r.marks }
