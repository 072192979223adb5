-- The records of an axis (document 01, layer 5).
use Rattle.std.specs.Prelude.{ℕ, zero, suc, ◌+◌, ◌*◌, ◌-◌, ◌/◌, ◌%◌, Bool, true, false, cond, not, ◌&&◌, ◌||◌, List, [], ◌∷◌, ◌++◌, ltb, leb, eqb, length, get_or, take}
use Rattle.coordinates.specs.Refusals.{no_refusal, value, count, short}
use Rattle.sizing.specs.Ranges.{up_to, sizing_in_range}
use Rattle.sizing.specs.declared.MinMax.{MinMax}
use Rattle.sizing.specs.declared.Sizing.{Sizing}
use Rattle.template_rules.specs.Template.{Component}
use Rattle.track_rules.specs.declared.GridTrack.{GridTrack}
use Rattle.track_rules.specs.declared.WrittenTrack.{WrittenTrack}
use Rattle.track_rules.specs.declared.TrackSource.{TrackSource}
use Rattle.track_rules.specs.declared.TrackSource.TheVariants.{Negative, Area, Positive}
use Rattle.track_rules.specs.declared.AxisTracks.{AxisTracks}
use Rattle.track_rules.specs.Tracks.{RecordAnswer}
use Rattle.track_rules.specs.Tracks.{auto_size, zero_grid_track, gutter_of, track_of, refused_record}
use Rattle.track_rules.specs.Written.{written_out}

-- f 0 to f (n - 1)
abbrev pub listed : {A : Type 0} → (ℕ → A) → ℕ → List A
listed f zero = []
listed f (suc n) = listed f n ++ (f n ∷ [])

abbrev pub negative_of : AxisTracks → ℕ
negative_of a = a.counts.negative_implicit

abbrev pub explicit_of : AxisTracks → ℕ
explicit_of a = a.counts.explicit

abbrev pub positive_of : AxisTracks → ℕ
positive_of a = a.counts.positive_implicit

-- N, the tracks of the axis
abbrev pub tracks_in : AxisTracks → ℕ
tracks_in a = negative_of a + explicit_of a + positive_of a

-- "N tracks leave 2N + 1 records"
abbrev pub records_in : AxisTracks → ℕ
records_in a = 2 * tracks_in a + 1

-- a track whose size is a spare one
abbrev pub implicit : TrackSource → MinMax → WrittenTrack
implicit source size = record { size = size; source = source; fit = false }

-- "implicit tracks repeat the spare sizes (auto where there are none)"
abbrev pub spare_at : List MinMax → ℕ → MinMax
spare_at spares i = get_or spares (i % length spares) auto_size

-- "aligned to end at the grid on the negative side": of m tracks before the grid, track t
abbrev pub negative_at : List MinMax → ℕ → ℕ → WrittenTrack
negative_at spares m t = implicit Negative (spare_at spares (length spares - m % length spares + t))

module _ (a : AxisTracks) (template : List Component) (spares : List MinMax) where
  -- explicit tracks as written out, the first in template order kept
  abbrev pub explicit_tracks : List WrittenTrack
  explicit_tracks = take (explicit_of a) (written_out template a.repetitions)

  -- how many tracks only an area makes
  abbrev pub area_count : ℕ
  area_count = explicit_of a - length explicit_tracks

  -- "tracks that only an area makes come first in the positive run"
  abbrev pub positive_run : List WrittenTrack
  positive_run =
      listed (λ i. implicit Area (spare_at spares i)) area_count
      ++ listed (λ i. implicit Positive (spare_at spares (area_count + i))) (positive_of a)

  -- all tracks of the axis in order
  unfoldable pub all_tracks : List WrittenTrack
  all_tracks = listed (negative_at spares (negative_of a)) (negative_of a) ++ (explicit_tracks ++ positive_run)

-- a track past the end
abbrev pub no_track : WrittenTrack
no_track = implicit Positive auto_size

-- "only the item bytes say which tracks hold an item": any non-zero byte
abbrev pub item_at : List ℕ → ℕ → Bool
item_at items t = not (eqb (get_or items t 0) 0)

-- "an automatic-fit track with no item collapses"
abbrev pub closed_by : (ℕ → Bool) → WrittenTrack → ℕ → Bool
closed_by item x t = x.fit && not (item t)

abbrev pub closed_in : List WrittenTrack → (ℕ → Bool) → ℕ → Bool
closed_in l item t = closed_by item (get_or l t no_track) t

-- of the first n tracks, one past the last open one
unfoldable pub open_to : (ℕ → Bool) → ℕ → ℕ
open_to closed zero = 0
open_to closed (suc n) = cond (closed n) (open_to closed n) (suc n)

-- whether `fit` wrote the last track
abbrev pub fit_ends_in : List WrittenTrack → Bool
fit_ends_in l = (get_or l (length l - 1) no_track).fit

-- gutter g of n + 1 collapses: both end gutters, the one that follows a collapsed track,
-- and where a fit repeat ends the grid every one after the last open track
abbrev pub shut_gutter : (ℕ → Bool) → Bool → ℕ → ℕ → Bool
shut_gutter closed fit_ends n zero = true
shut_gutter closed fit_ends n (suc g) = eqb (suc g) n || closed g || (fit_ends && leb (open_to closed n) (suc g))

-- record i of the tracks l: "gutters even"
abbrev pub record_in : List WrittenTrack → (ℕ → Bool) → Sizing → ℕ → GridTrack
record_in l item gap i =
    cond (eqb (i % 2) 0)
    (gutter_of gap (shut_gutter (closed_in l item) (fit_ends_in l) (length l) (i / 2)))
    (track_of (get_or l (i / 2) no_track) (closed_in l item (i / 2)))

-- the records of an axis
unfoldable pub records_of : AxisTracks → List Component → List MinMax → List ℕ → List GridTrack
unfolding all_tracks open_to
records_of a template spares items = listed (record_in (all_tracks a template spares) (item_at items) a.gap) (records_in a)

-- "explicit and each implicit count 0..10,000"
abbrev pub counts_in_range : AxisTracks → Bool
counts_in_range a = leb (negative_of a) 10000 && (leb (explicit_of a) 10000 && leb (positive_of a) 10000)

-- what an axis is refused by, whatever is asked of it: 3 for a gap, then 4 for a count outside its range; 0 where it is not
unfoldable pub axis_refusal : AxisTracks → ℕ
unfolding up_to
axis_refusal a = cond (sizing_in_range a.gap) (cond (counts_in_range a) 0 count) value

-- what the call for one record answers: the refusal of its axis, 4 for an index of 2N + 1 or more, then 10 for fewer than N item bytes
unfoldable pub record_answer_of : AxisTracks → List Component → List MinMax → List ℕ → ℕ → RecordAnswer
unfolding records_of axis_refusal
record_answer_of a template spares items index =
    cond (eqb (axis_refusal a) 0)
    (cond (leb (records_in a) index) (refused_record count)
    (cond (ltb (length items) (tracks_in a)) (refused_record short)
    (record { refusal = no_refusal; track = get_or (records_of a template spares items) index zero_grid_track })))
    (refused_record (axis_refusal a))
