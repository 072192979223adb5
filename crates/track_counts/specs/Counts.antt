-- What the calls on track counts answer (grid_track_counts.rs). A count above 10,000 is refused by 4, as is a line outside -10,000..10,000.
use Rattle.std.specs.Prelude.{ℕ, ◌+◌, ◌*◌, Bool, cond, ◌||◌, ltb, ℤ, pos, negsuc, ◌+ℤ◌, ◌-ℤ◌, Option, Some, None, Result, Ok, Err}
use Rattle.coordinates.specs.Refusals.{Refusal, no_refusal, refusal_of, number_of, count}
use Rattle.coordinates.specs.Lines.{outside}
use Rattle.coordinates.specs.declared.refusal.Fault.{Fault}
use Rattle.coordinates.specs.Answers.{OriginZeroAnswer, CountAnswer, line_answer, refused_line, count_answer, refused_count}
use Rattle.track_counts.specs.declared.counts.TrackCounts.{TrackCounts}

abbrev pub too_many : TrackCounts → Bool
too_many c = ltb 10000 c.negative_implicit || ltb 10000 c.explicit || ltb 10000 c.positive_implicit

-- all tracks of the axis
abbrev pub tracks_of : TrackCounts → ℕ
tracks_of c = c.negative_implicit + c.explicit + c.positive_implicit

unfoldable pub length_answer : TrackCounts → CountAnswer
length_answer c = cond (too_many c) (refused_count count) (count_answer (tracks_of c))

-- the implicit grid starts at minus the negative count, and ends at the explicit and the positive count
unfoldable pub start_answer : TrackCounts → OriginZeroAnswer
start_answer c = cond (too_many c) (refused_line count) (line_answer (pos 0 -ℤ pos c.negative_implicit))

unfoldable pub end_answer : TrackCounts → OriginZeroAnswer
end_answer c = cond (too_many c) (refused_line count) (line_answer (pos (c.explicit + c.positive_implicit)))

-- the number of a track, counted from the first of the grid and negative before it, or why there is none
pub record TrackAnswer : Type 0 where
  pub refusal : Refusal
  pub track : ℤ

abbrev pub track_answer : ℤ → TrackAnswer
track_answer t = record { refusal = no_refusal; track = t }

abbrev pub refused_track : ℕ → TrackAnswer
refused_track n = record { refusal = refusal_of n; track = pos 0 }

-- the numbers and values of what a call answers
abbrev pub answered_track : Result ℤ Fault → TrackAnswer
answered_track (Ok t) = track_answer t
answered_track (Err fault) = refused_track (number_of fault)

-- tracks are counted from the first negative one: the track after line l, and the line before track t
unfoldable pub next_track_answer : TrackCounts → ℤ → TrackAnswer
next_track_answer c l =
    cond (too_many c) (refused_track count) (cond (outside l) (refused_track count) (track_answer (l +ℤ pos c.negative_implicit)))

unfoldable pub previous_line_answer : TrackCounts → ℕ → OriginZeroAnswer
previous_line_answer c t =
    cond (too_many c) (refused_line count) (cond (ltb 30000 t) (refused_line count) (line_answer (pos t -ℤ pos c.negative_implicit)))

-- a line of the grid is the gutter at twice its distance from the first line; a line outside the grid has no place
abbrev pub place_at : ℕ → ℤ → Option ℕ
place_at last (pos d) = cond (ltb last d) None (Some (2 * d))
place_at last (negsuc d) = None

abbrev pub vec_index : TrackCounts → ℤ → Option ℕ
vec_index c l = place_at (tracks_of c) (l +ℤ pos c.negative_implicit)

-- the place of a line, or why it was not looked for
pub record IndexAnswer : Type 0 where
  pub refusal : Refusal
  pub index : Option ℕ

abbrev pub index_answer : Option ℕ → IndexAnswer
index_answer i = record { refusal = no_refusal; index = i }

abbrev pub refused_index : ℕ → IndexAnswer
refused_index n = record { refusal = refusal_of n; index = None }

abbrev pub answered_index : Result (Option ℕ) Fault → IndexAnswer
answered_index (Ok i) = index_answer i
answered_index (Err fault) = refused_index (number_of fault)

unfoldable pub vec_index_answer : TrackCounts → ℤ → IndexAnswer
vec_index_answer c l =
    cond (too_many c) (refused_index count) (cond (outside l) (refused_index count) (index_answer (vec_index c l)))
