-- What one walk over the records of an axis gathers, record by record.
use Rattle.std.specs.Prelude.{ℕ, zero, suc, ◌+◌, ◌*◌, ◌/◌, ◌%◌, Bool, true, cond, ◌&&◌, ◌||◌, List, eqb, ltb, take, Float, Option}
use Rattle.std.specs.Float.{binary32}
use Rattle.std.specs.Float.Ieee.{add, lt, le}
use Rattle.sizing.specs.Words.{zero32}
use Rattle.sizing.specs.Definite.{is_definite, or_zero}
use Rattle.track_rules.specs.declared.GridTrack.{GridTrack}
use Rattle.line_positions.specs.declared.Span.{Span}
use Rattle.line_positions.specs.declared.LineWalk.{LineWalk}
use Rattle.line_positions.specs.Positions.{record_value_in, all_definite, start_of, tracks_among, position_of, distance_of, nearest_among, count_of}

-- ---- one step

-- a line nearer than the nearest before it, or the first
abbrev pub nearer_than : ℕ → Float → Float → Bool
nearer_than line distance least = eqb line 0 || lt distance least

-- 1 more where a test holds; the largest number stays
abbrev pub one_more : Bool → ℕ → ℕ
one_more test n = cond test (cond (ltb n 4294967295) (n + 1) n) n

-- a line is met where the walk stands
unfoldable pub line_met : Span Float → LineWalk → ℕ → LineWalk
line_met span at line =
    let d = distance_of at.start span.low in
    let better = nearer_than line d at.distance in
    record {
      start = at.start;
      definite = at.definite;
      nearest = cond better line at.nearest;
      distance = cond better d at.distance;
      below = one_more (lt at.start span.low) at.below;
      upto = one_more (le at.start span.high) at.upto;
    }

-- a line lies at the start of each track, and of the last record
abbrev pub line_at : ℕ → ℕ → Bool
line_at last index = eqb (index % 2) 1 || eqb index last

-- the record that starts there is passed
unfoldable pub record_passed : LineWalk → Option Float → LineWalk
record_passed at value =
    record { start = add binary32 at.start (or_zero value); definite = at.definite && is_definite value; nearest = at.nearest; distance = at.distance; below = at.below; upto = at.upto }

-- record `index`, the last being 2N: the line that lies at its start, and then what it measures
unfoldable pub position_step : Span Float → Option Float → LineWalk → ℕ → ℕ → GridTrack → LineWalk
unfolding line_met record_passed
position_step span inner at last index r = record_passed (cond (line_at last index) (line_met span at (index / 2)) at) (record_value_in inner r)

-- ---- what is gathered after i records

-- before the first record
abbrev pub walk_begun : LineWalk
walk_begun = record { start = zero32; definite = true; nearest = 0; distance = zero32; below = 0; upto = 0 }

-- how many lines lie at the start of one of them: all but the last after half of them
abbrev pub lines_met : ℕ → ℕ → ℕ
lines_met last i = cond (ltb last i) (suc (i / 2)) (i / 2)

-- the nearest of the first n lines; 0 of none
abbrev pub nearest_met : (ℕ → Float) → Float → ℕ → ℕ
nearest_met position x zero = 0
nearest_met position x (suc n) = nearest_among position x n

abbrev pub distance_met : (ℕ → Float) → Float → ℕ → Float
distance_met position x zero = zero32
distance_met position x (suc n) = distance_of (position (nearest_among position x n)) x

-- the walk where it stands, after so many lines at their positions
abbrev pub gathered : Span Float → (ℕ → Float) → Float → Bool → ℕ → LineWalk
gathered span position start definite met =
    record {
      start = start;
      definite = definite;
      nearest = nearest_met position span.low met;
      distance = distance_met position span.low met;
      below = count_of (λ k. lt (position k) span.low) met;
      upto = count_of (λ k. le (position k) span.high) met;
    }

unfoldable pub walked_to : Span Float → Option Float → List GridTrack → ℕ → LineWalk
unfolding all_definite start_of nearest_among count_of
walked_to span inner records i =
    gathered span (position_of inner records) (start_of inner records i) (all_definite inner (take i records)) (lines_met (2 * tracks_among records) i)
