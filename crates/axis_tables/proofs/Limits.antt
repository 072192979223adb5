-- The limits of an axis: with one place free a record is accepted, with none it is refused by 8. Assumes nothing.
use Prim.Native.Nat.{ℕ, ◌+◌, ◌≤◌, ◌<◌}
use mathlib.Core.Path.{◌≡◌}
use mathlib.Core.List.{List}
use native.Mathlib.Omega.{arith}
use lib.ListN.{length}
use borrow.Author.Tests.{lt-ltb, le-ltb, lt-leb, le-leb}
use Rattle.axis_tables.specs.View.{Repeat, none, inside, AxisView, tracks_in, components_of, axis_names, axis_bytes, track_step, repeat_step, name_step, spare_step, item_step}

module _ (v : AxisView) where
  -- 64 components an axis
  module _ (e : v.unended ≡ none) where
    pub track-free : (min max : ℕ) → length (components_of v.template) ≤ 63 → (track_step v min max).fault ≡ 0
    unfolding track_step
    track-free min max h = rw (e, le-ltb 63 (length (components_of v.template)) h)

    pub track-full : (min max : ℕ) → 64 ≤ length (components_of v.template) → (track_step v min max).fault ≡ 8
    unfolding track_step
    track-full min max h = rw (e, lt-ltb 63 (length (components_of v.template)) (omega arith))

    pub repeat-free : (kind number : ℕ) → number ≤ 65535 → length (components_of v.template) ≤ 63 → (repeat_step v kind number).fault ≡ 0
    unfolding repeat_step
    repeat-free kind number n h = rw (e, le-ltb 65535 number n, le-ltb 63 (length (components_of v.template)) h)

    pub repeat-full : (kind number : ℕ) → number ≤ 65535 → 64 ≤ length (components_of v.template) → (repeat_step v kind number).fault ≡ 8
    unfolding repeat_step
    repeat-full kind number n h = rw (e, le-ltb 65535 number n, lt-ltb 63 (length (components_of v.template)) (omega arith))

  -- 32 tracks in a repeat
  module _ (r : Repeat) (e : v.unended ≡ inside r) where
    pub inner-track-free : (min max : ℕ) → length (tracks_in r.pieces) ≤ 31 → (track_step v min max).fault ≡ 0
    unfolding track_step
    inner-track-free min max h = rw (e, le-ltb 31 (length (tracks_in r.pieces)) h)

    pub inner-track-full : (min max : ℕ) → 32 ≤ length (tracks_in r.pieces) → (track_step v min max).fault ≡ 8
    unfolding track_step
    inner-track-full min max h = rw (e, lt-ltb 31 (length (tracks_in r.pieces)) (omega arith))

  -- 64 spare sizes
  pub spare-free : (min max : ℕ) → length v.spares ≤ 63 → (spare_step v min max).fault ≡ 0
  unfolding spare_step
  spare-free min max h = rw (le-ltb 63 (length v.spares) h)

  pub spare-full : (min max : ℕ) → 64 ≤ length v.spares → (spare_step v min max).fault ≡ 8
  unfolding spare_step
  spare-full min max h = rw (lt-ltb 63 (length v.spares) (omega arith))

  -- 4,096 names and 32,768 bytes: a name that fits is accepted
  module _ (n : List ℕ) (short : length n ≤ 32) where
    pub name_free : length (axis_names v) ≤ 4095 → length (axis_bytes v) + length n ≤ 32768 → (name_step v n).fault ≡ 0
    unfolding name_step
    name_free h k = rw (le-ltb 32 (length n) short, lt-leb 4096 (length (axis_names v)) (omega arith), le-ltb 32768 (length (axis_bytes v) + length n) k)

    pub name-full : 4096 ≤ length (axis_names v) → (name_step v n).fault ≡ 8
    unfolding name_step
    name-full h = rw (le-ltb 32 (length n) short, le-leb 4096 (length (axis_names v)) h)

    pub store-full : length (axis_names v) ≤ 4095 → 32768 < length (axis_bytes v) + length n → (name_step v n).fault ≡ 8
    unfolding name_step
    store-full h k = rw (le-ltb 32 (length n) short, lt-leb 4096 (length (axis_names v)) (omega arith), lt-ltb 32768 (length (axis_bytes v) + length n) k)

  -- item index 0 to 29,999
  pub item-free : (i : ℕ) → i ≤ 29999 → (item_step v i).fault ≡ 0
  unfolding item_step
  item-free i h = rw (le-ltb 29999 i h)

  pub item-outside : (i : ℕ) → 30000 ≤ i → (item_step v i).fault ≡ 4
  unfolding item_step
  item-outside i h = rw (lt-ltb 29999 i (omega arith))
