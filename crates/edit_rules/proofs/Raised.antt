-- No line of an axis looks at the tracks that areas need there: its step and the raising of that count change places. Assumes nothing.
use Prim.Native.Nat.{ℕ}
use mathlib.Core.Path.{◌≡◌, refl}
use mathlib.Core.List.{List, [], ◌∷◌, ◌++◌}
use mathlib.Core.Bool.{Bool, true, false, cond}
use lib.Dec.{ltb}
use lib.ListN.{length, set}
use Rattle.axis_tables.specs.View.{track, single, Sizes, Repeat, with_template, with_item, with_piece, Unended, none, inside, AxisView, AxisOutcome, refused, accepted, components_of, tracks_in, axis_names, axis_bytes, no_room, named_fault, with_name, repeat_kind, track_by, track_step, repeat_by, repeat_step, end_by, end_step, name_step, spare_step, item_step, extra_step}
use Rattle.panel_tables.specs.View.{raised}

abbrev pub raised_by : ℕ → AxisOutcome → AxisOutcome
raised_by end o = record { fault = o.fault; axis = raised o.axis end }

module _ (v : AxisView) (end : ℕ) where
  pub track-raised : (min max : ℕ) → track_step (raised v end) min max ≡ raised_by end (track_step v min max)
  unfolding track_step
  track-raised min max = go v.unended
    where
      t : Sizes
      t = record { min = min; max = max }

      alone : (b : Bool) → cond b (refused 8 (raised v end)) (accepted (with_item (raised v end) (single (track t))))
          ≡ raised_by end (cond b (refused 8 v) (accepted (with_item v (single (track t)))))
      alone true = refl
      alone false = refl

      among : (r : Repeat) (b : Bool) → cond b (refused 8 (raised v end)) (accepted (with_piece (raised v end) r (track t)))
          ≡ raised_by end (cond b (refused 8 v) (accepted (with_piece v r (track t))))
      among r true = refl
      among r false = refl

      go : (u : Unended) → track_by (raised v end) u t ≡ raised_by end (track_by v u t)
      go none = alone (ltb 63 (length (components_of v.template)))
      go (inside r) = among r (ltb 31 (length (tracks_in r.pieces)))

  pub repeat-raised : (kind number : ℕ) → repeat_step (raised v end) kind number ≡ raised_by end (repeat_step v kind number)
  unfolding repeat_step
  repeat-raised kind number = go v.unended
    where
      after : AxisView → AxisView
      after w = with_template w w.template (inside (record { kind = repeat_kind kind; number = number; pieces = [] }))

      alone : (b c : Bool) → cond b (refused 4 (raised v end)) (cond c (refused 8 (raised v end)) (accepted (after (raised v end))))
          ≡ raised_by end (cond b (refused 4 v) (cond c (refused 8 v) (accepted (after v))))
      alone true c = refl
      alone false true = refl
      alone false false = refl

      go : (u : Unended) → repeat_by (raised v end) u kind number ≡ raised_by end (repeat_by v u kind number)
      go none = alone (ltb 65535 number) (ltb 63 (length (components_of v.template)))
      go (inside r) = refl

  pub end-raised : end_step (raised v end) ≡ raised_by end (end_step v)
  unfolding end_step
  end-raised = go v.unended
    where
      go : (u : Unended) → end_by (raised v end) u ≡ raised_by end (end_by v u)
      go none = refl
      go (inside r) = refl

  pub name-raised : (n : List ℕ) → name_step (raised v end) n ≡ raised_by end (name_step v n)
  unfolding name_step
  name-raised n = go (no_room 4096 32768 (length (axis_names v)) (length (axis_bytes v)) (length n)) v.unended
    where
      go : (b : Bool) (u : Unended) → cond b (refused (named_fault (length n) 8) (raised v end)) (accepted (with_name (raised v end) u n))
          ≡ raised_by end (cond b (refused (named_fault (length n) 8) v) (accepted (with_name v u n)))
      go true u = refl
      go false none = refl
      go false (inside r) = refl

  pub spare-raised : (min max : ℕ) → spare_step (raised v end) min max ≡ raised_by end (spare_step v min max)
  unfolding spare_step
  spare-raised min max = go (ltb 63 (length v.spares))
    where
      after : AxisView → AxisView
      after w = record { line = w.line; template = w.template; unended = w.unended; spares = w.spares ++ (record { min = min; max = max } ∷ []); negative = w.negative; positive = w.positive; marks = w.marks; areas = w.areas }

      go : (b : Bool) → cond b (refused 8 (raised v end)) (accepted (after (raised v end))) ≡ raised_by end (cond b (refused 8 v) (accepted (after v)))
      go true = refl
      go false = refl

  pub item-raised : (i : ℕ) → item_step (raised v end) i ≡ raised_by end (item_step v i)
  unfolding item_step
  item-raised i = go (ltb 29999 i)
    where
      after : AxisView → AxisView
      after w = record { line = w.line; template = w.template; unended = w.unended; spares = w.spares; negative = w.negative; positive = w.positive; marks = set w.marks i 1; areas = w.areas }

      go : (b : Bool) → cond b (refused 4 (raised v end)) (accepted (after (raised v end))) ≡ raised_by end (cond b (refused 4 v) (accepted (after v)))
      go true = refl
      go false = refl

  pub extra-raised : (negative positive : ℕ) → extra_step (raised v end) negative positive ≡ raised_by end (extra_step v negative positive)
  unfolding extra_step
  extra-raised negative positive = refl
