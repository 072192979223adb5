-- CSS Grid's rules for collapse (Level 2, 7.2) and for implicit tracks (7.5, 7.6), over the tracks of an axis in order
-- (SHEET.md, Items and collapse; SHEET.md, Implicit tracks).
use Rattle.std.specs.Prelude.{ℕ, suc, ◌-◌, ◌%◌, ◌≤◌, ◌<◌, ◌≡◌, Bool, true, false, List, length, get_or}
use Rattle.sizing.specs.declared.MinMax.{MinMax}
use Rattle.track_rules.specs.declared.WrittenTrack.{WrittenTrack}
use Rattle.track_rules.specs.Tracks.{auto_size}
use Rattle.track_rules.specs.Records.{no_track}

-- "each repeated track that holds no item collapses": `auto-fit` wrote it, and it holds none
abbrev pub Collapses : List WrittenTrack → (ℕ → Bool) → ℕ → Type 0
Collapses tracks item t = ((get_or tracks t no_track).fit ≡ true) × (item t ≡ false)

-- a track of the axis that doesn't
abbrev pub Open : List WrittenTrack → (ℕ → Bool) → ℕ → Type 0
Open tracks item t = (t < length tracks) × (Collapses tracks item t → ⊥)

-- "the gutters on both of its sides fall into one (at an edge of the grid, into none)". Gutter g stands before track g. Of the gutters between
-- two open tracks the first stays: the track before it is open, and some track after it is.
pub record Stays (tracks : List WrittenTrack) (item : ℕ → Bool) (g : ℕ) : Type 0 where
  pub before : ℕ
  pub beside : g ≡ suc before
  pub before_open : Open tracks item before
  pub after : ℕ
  pub later : g ≤ after
  pub after_open : Open tracks item after

-- "after the explicit grid the first implicit track takes the first size, and so on forwards"
abbrev pub forwards : List MinMax → ℕ → MinMax
forwards sizes i = get_or sizes (i % length sizes) auto_size

-- "before it, the last implicit track takes the last size, and so on backwards": of m tracks, track t
abbrev pub backwards : List MinMax → ℕ → ℕ → MinMax
backwards sizes m t = get_or sizes (length sizes - 1 - (m - 1 - t) % length sizes) auto_size
