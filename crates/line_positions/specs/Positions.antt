-- Where the lines of an axis lie, in pixels (document 02, Req 01), over the records of the axis in order (SHEET.md, The cursor).
use Rattle.std.specs.Prelude.{ℕ, zero, suc, ◌+◌, ◌*◌, ◌-◌, ◌/◌, ◌≤◌, ◌<◌, min, ◌≡◌, Bool, true, cond, ◌&&◌, List, [], ◌∷◌, map, T, length, get_or, take, Float, Option, Some, None}
use Rattle.std.specs.Float.{binary32}
use Rattle.std.specs.Float.Ieee.{add, sub, lt, le}
use Rattle.sizing.specs.declared.Sizing.{Sizing}
use Rattle.sizing.specs.Words.{zero32}
use Rattle.sizing.specs.Definite.{length_alone, definite_of, is_definite, raised_or, or_zero}
use Rattle.sizing.specs.Sums.{sum_from}
use Rattle.sizing.specs.Ranges.{up_to, largest_length, sizing_in_range}
use Rattle.track_rules.specs.declared.GridTrack.{GridTrack}

-- ---- what a record measures

-- "percentages taken of the inner size"; without one a length alone is definite
abbrev pub definite_in : Option Float → Sizing → Option Float
definite_in (Some x) size = definite_of size x
definite_in None size = length_alone size

-- "tracks measure as in 01's layer 3": the definite maximum raised to the definite minimum, else the minimum; a collapsed record is length 0
abbrev pub record_value_in : Option Float → GridTrack → Option Float
record_value_in inner r = raised_or (definite_in inner r.size.max) (definite_in inner r.size.min)

-- no track or gutter lacks a definite size
unfoldable pub all_definite : Option Float → List GridTrack → Bool
all_definite inner [] = true
all_definite inner (r ∷ rs) = is_definite (record_value_in inner r) && all_definite inner rs

-- ---- where a record starts, and where a line lies

-- what each record adds; nothing where it has no definite size, and then nothing is answered
unfoldable pub values_of : Option Float → List GridTrack → List Float
values_of inner records = map (λ r. or_zero (record_value_in inner r)) records

-- "positions are f32 running sums in record order": the sum of the first i
unfoldable pub start_of : Option Float → List GridTrack → ℕ → Float
unfolding values_of sum_from
start_of inner records i = sum_from zero32 (take i (values_of inner records))

-- N: "N tracks leave 2N + 1 records"
abbrev pub tracks_among : List GridTrack → ℕ
tracks_among records = length records / 2

-- line k of 0 to N, from the first of the grid: "a line lies at the start of the track after it", which is record 2k + 1, "the last line
-- at the end of the last track", which is the start of record 2N, "and a grid with no track has its one line at 0"
abbrev pub position_of : Option Float → List GridTrack → ℕ → Float
position_of inner records k = start_of inner records (min (2 * k + 1) (2 * tracks_among records))

-- the three sentences by themselves: track k is record 2k + 1, the last track record 2N - 1, which ends where it starts and what it measures more
pub record LinesLie (inner : Option Float) (records : List GridTrack) : Type 0 where
  pub track : (k : ℕ) → k < tracks_among records → position_of inner records k ≡ start_of inner records (2 * k + 1)
  pub last : (d : GridTrack) → 0 < tracks_among records
      → position_of inner records (tracks_among records) ≡ add binary32 (start_of inner records (2 * tracks_among records - 1)) (or_zero (record_value_in inner (get_or records (2 * tracks_among records - 1) d)))
  pub alone : (k : ℕ) → tracks_among records ≡ 0 → position_of inner records k ≡ zero32

-- "a track or gutter with no definite size": some record of the axis
pub record SomeIndefinite (inner : Option Float) (records : List GridTrack) (d : GridTrack) : Type 0 where
  pub index : ℕ
  pub inside : index < length records
  pub indefinite : record_value_in inner (get_or records index d) ≡ None

-- ---- the nearest line

-- "distances are f32 differences, rounded once": the larger less the smaller
abbrev pub distance_of : Float → Float → Float
distance_of a b = cond (lt a b) (sub binary32 b a) (sub binary32 a b)

-- of the places 0 to n, where each lies at its position, the one nearest to x; "lower on a tie"
unfoldable pub nearest_among : (ℕ → Float) → Float → ℕ → ℕ
nearest_among position x zero = 0
nearest_among position x (suc n) =
    cond (lt (distance_of (position (suc n)) x) (distance_of (position (nearest_among position x n)) x)) (suc n) (nearest_among position x n)

abbrev pub nearest_of : Option Float → List GridTrack → Float → ℕ
nearest_of inner records cursor = nearest_among (position_of inner records) cursor (tracks_among records)

-- a line nearest to a cursor: none is nearer, and none lower is as near
pub record Nearest (inner : Option Float) (records : List GridTrack) (cursor : Float) (k : ℕ) : Type 0 where
  pub least : (j : ℕ) → j ≤ tracks_among records → T (le (distance_of (position_of inner records k) cursor) (distance_of (position_of inner records j) cursor))
  pub lowest : (j : ℕ) → j < k → T (lt (distance_of (position_of inner records k) cursor) (distance_of (position_of inner records j) cursor))
  pub line : k ≤ tracks_among records

-- ---- the lines within a span

-- a line "within a pixel span, ends included"
abbrev pub Within : Option Float → List GridTrack → Float → Float → ℕ → Type 0
Within inner records low high k = T (le low (position_of inner records k)) × T (le (position_of inner records k) high)

-- how many of the places 0 to n - 1 pass a test
unfoldable pub count_of : (ℕ → Bool) → ℕ → ℕ
count_of test zero = 0
count_of test (suc n) = cond (test n) (suc (count_of test n)) (count_of test n)

-- how many lines lie before a position, and how many at it or before
abbrev pub lines_before : Option Float → List GridTrack → Float → ℕ
lines_before inner records low = count_of (λ k. lt (position_of inner records k) low) (suc (tracks_among records))

abbrev pub lines_up_to : Option Float → List GridTrack → Float → ℕ
lines_up_to inner records high = count_of (λ k. le (position_of inner records k) high) (suc (tracks_among records))

-- ---- the ranges that a panel's records are in, under which positions never fall

abbrev pub InnerInRange : Option Float → Type 0
InnerInRange (Some x) = T (up_to largest_length x)
InnerInRange None = Unit {0}

abbrev pub SizesInRange : List GridTrack → Type 0
SizesInRange [] = Unit {0}
SizesInRange (r ∷ rs) = T (sizing_in_range r.size.min) × T (sizing_in_range r.size.max) × SizesInRange rs

pub record InRange (inner : Option Float) (records : List GridTrack) : Type 0 where
  pub space : InnerInRange inner
  pub sizes : SizesInRange records
  pub few : length records < 16777216
