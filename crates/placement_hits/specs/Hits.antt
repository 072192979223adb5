-- Document 02, Req 01: which settled placements are in a list. An axis has m negative, n explicit and p positive tracks, N in all, and
-- N + 1 lines; "off the grid" is outside of these. Lines are origin-zero, a line's place is counted from the first line of the grid.
use Rattle.std.specs.Prelude.{◌≡◌, ℕ, ◌<◌, ◌≤◌, ℤ, pos, ◌+ℤ◌, length, get_or, ◌<ℤ◌}
use mathlib.Core.List.{List, Memᴰ}
use Rattle.coordinates.specs.Lines.{uncut}
use Rattle.track_counts.specs.Counts.{tracks_of}
use Rattle.track_counts.specs.declared.counts.TrackCounts.{TrackCounts}
use Rattle.name_rules.specs.Css.{ResolvedEnds, at_line}
use Rattle.name_rules.specs.CssOrder.{OrderedLines}

-- the own lines of a settled placement: "with both ends lines", neither of them "line 0"; "settled lines are not held again, reversed
-- ones are swapped, equal ones span one track" (CSS, 8.3.1)
pub record OwnLines (n : ℕ) (r : ResolvedEnds) (low high : ℤ) : Type 0 where
  pub start : ℤ
  pub end : ℤ
  pub first : r.first ≡ at_line start
  pub last : r.last ≡ at_line end
  pub start_not_0 : start ≡ pos 0 → ⊥
  pub end_not_0 : end ≡ pos 0 → ⊥
  pub ordered : OrderedLines (uncut n start) (uncut n end) low high

-- line l lies at place k of the grid, 0 to N
pub record AtPlace (c : TrackCounts) (l : ℤ) (k : ℕ) : Type 0 where
  pub place : pos k ≡ l +ℤ pos c.negative_implicit
  pub on : k ≤ tracks_of c

-- a placement "with a line off the grid is in no list": both own lines are on it
pub record OnGrid (c : TrackCounts) (r : ResolvedEnds) : Type 0 where
  pub low : ℤ
  pub high : ℤ
  pub own : OwnLines c.explicit r low high
  pub first : ℕ
  pub last : ℕ
  pub at_low : AtPlace c low first
  pub at_high : AtPlace c high last

-- "the placements with both lines within a pixel span": `Inside k` says that the line at place k lies in the span
pub record LinesInside (c : TrackCounts) (Inside : ℕ → Type 0) (r : ResolvedEnds) : Type 0 where
  pub on : OnGrid c r
  pub low : Inside on.first
  pub high : Inside on.last

-- "those with a given grid line strictly between their own"; a given line is not held either
pub record LineBetween (c : TrackCounts) (line : ℤ) (r : ResolvedEnds) : Type 0 where
  pub on : OnGrid c r
  pub after : on.low <ℤ uncut c.explicit line
  pub before : uncut c.explicit line <ℤ on.high

-- "each list is in placement order and complete": of the first n placements it holds those that are to be in it, and nothing else, by
-- their indexes, ascending, each once
pub record InOrder (n : ℕ) (Member : ℕ → Type 0) (list : List ℕ) : Type 0 where
  pub complete : (i : ℕ) → i < n → Member i → Memᴰ i list
  pub only : (i : ℕ) → Memᴰ i list → (i < n) × Member i
  pub ascending : (j k : ℕ) → j < k → k < length list → get_or list j 0 < get_or list k 0
