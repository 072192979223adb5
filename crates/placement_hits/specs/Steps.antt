-- The steps of the code: the place of a line, the places of a placement, the test of one placement and the list of those that pass.
use Rattle.std.specs.Prelude.{Bool, false, cond, ◌&&◌, List, [], ◌∷◌, ℕ, zero, suc, ◌+◌, ◌*◌, ◌-◌, eqb, leb, ltb, ℤ, pos, negsuc, nat_abs, length, get_or, set, Option, Some, None}
use Rattle.std.proofs.lemmas.List.Edits.{sets}
use Rattle.coordinates.specs.Axes.{axis_number}
use Rattle.coordinates.specs.declared.axis.Axis.{Axis}
use Rattle.coordinates.specs.Lines.{uncut}
use Rattle.track_counts.specs.Counts.{tracks_of}
use Rattle.track_counts.specs.declared.counts.TrackCounts.{TrackCounts}
use Rattle.name_rules.specs.Css.{Resolved, free, at_line, spanning, ResolvedEnds}
use Rattle.coordinates.specs.Types.{LinePair}
use Rattle.coordinates.specs.declared.line.GenericGridPlacement.TheVariants.{Auto, Line, Span}
use Rattle.placement_hits.specs.Types.{SettledEnd, Ends}
use Rattle.placement_hits.specs.declared.Question.{Question}
use Rattle.placement_hits.specs.declared.Question.TheVariants.{Within, Around}
use Rattle.placement_hits.specs.declared.Asked.{Asked}

-- ---- the place of a line

-- the place of an origin-zero line, where it is on the grid
abbrev pub place_in : TrackCounts → ℤ → Option ℕ
place_in c (pos l) = cond (leb (c.negative_implicit + l) (tracks_of c)) (Some (c.negative_implicit + l)) None
place_in c (negsuc k) = cond (ltb k c.negative_implicit) (Some (c.negative_implicit - suc k)) None

-- the place of a grid line, not held; line 0 has none
unfoldable pub place_of : TrackCounts → ℤ → Option ℕ
place_of c (pos zero) = None
place_of c (pos (suc g)) = place_in c (uncut c.explicit (pos (suc g)))
place_of c (negsuc g) = place_in c (uncut c.explicit (negsuc g))

-- ---- the places of a placement

abbrev pub nowhere : Option LinePair
nowhere = None

abbrev pub places_at : ℕ → ℕ → Option LinePair
places_at first last = Some (record { start = first; end = last })

-- CSS 8.3.1 on places: reversed ends are swapped, equal ones span one track, which has to be on the grid
unfoldable pub ordered_places : ℕ → ℕ → ℕ → Option LinePair
ordered_places last s e =
    cond (ltb s e) (places_at s e)
    (cond (ltb e s) (places_at e s)
    (cond (ltb s last) (places_at s (s + 1)) nowhere))

abbrev pub both_places : ℕ → Option ℕ → Option ℕ → Option LinePair
both_places last None e = nowhere
both_places last (Some s) None = nowhere
both_places last (Some s) (Some e) = ordered_places last s e

-- an end that is no line has no place
abbrev pub end_place : TrackCounts → Resolved → Option ℕ
end_place c free = None
end_place c (at_line g) = place_of c g
end_place c (spanning n) = None

unfoldable pub occupied_of : TrackCounts → ResolvedEnds → Option LinePair
occupied_of c r = both_places (tracks_of c) (end_place c r.first) (end_place c r.last)

-- ---- the test of a placement

-- both places from `below` on and before `upto`
abbrev pub within_places : ℕ → ℕ → Option LinePair → Bool
within_places below upto None = false
within_places below upto (Some p) = leb below p.start && ltb p.end upto

-- the place strictly between
abbrev pub around_place : Option ℕ → Option LinePair → Bool
around_place None p = false
around_place (Some k) None = false
around_place (Some k) (Some p) = ltb p.start k && ltb k p.end

unfoldable pub answers : Question → Option LinePair → Bool
answers (Within below upto) p = within_places below upto p
answers (Around place) p = around_place place p

-- ---- one of a run of placements, eight numbers each: refusal, axis, for each end its kind and number, and for each its mark

-- kinds 0 `auto`, 1 `line`, 3 `span`, each with its number
abbrev pub end_by : ℤ → ℤ → Resolved
end_by (pos zero) n = free
end_by (pos (suc zero)) n = at_line n
end_by (pos (suc (suc zero))) n = free
end_by (pos (suc (suc (suc zero)))) n = spanning (nat_abs n)
end_by (pos (suc (suc (suc (suc k))))) n = free
end_by (negsuc k) n = free

-- what a settled end says, in the words of CSS; the number of a span is its absolute value
abbrev pub end_of : SettledEnd → Resolved
end_of Auto = free
end_of (Line g) = at_line g
end_of (Span n) = spanning (nat_abs n)

abbrev pub ends_by : Ends → ResolvedEnds
ends_by e = record { first = end_of e.start; last = end_of e.end }

abbrev pub number_at : List ℤ → ℕ → ℕ → ℤ
number_at numbers i j = get_or numbers (8 * i + j) (pos 0)

unfoldable pub ends_at : List ℤ → ℕ → ResolvedEnds
ends_at numbers i =
    record {
      first = end_by (number_at numbers i 2) (number_at numbers i 3);
      last = end_by (number_at numbers i 4) (number_at numbers i 5);
    }

abbrev pub same_number : ℤ → ℤ → Bool
same_number (pos a) (pos b) = eqb a b
same_number (pos a) (negsuc b) = false
same_number (negsuc a) (pos b) = false
same_number (negsuc a) (negsuc b) = eqb a b

-- what is asked of the placements of an axis, by its number
abbrev pub asked_of : Axis → TrackCounts → Question → Asked
asked_of axis counts question = record { axis = pos (axis_number axis); counts = counts; question = question }

-- placement i is one of the axis, and what is asked holds of it
unfoldable pub is_hit : Asked → List ℤ → ℕ → Bool
unfolding answers occupied_of ends_at
is_hit a numbers i = same_number (number_at numbers i 1) a.axis && answers a.question (occupied_of a.counts (ends_at numbers i))

-- ---- the list

-- of n numbers from i on those that pass a test
unfoldable pub passing : (ℕ → Bool) → ℕ → ℕ → List ℕ
passing test i zero = []
passing test i (suc n) = cond (test i) (i ∷ passing test (i + 1) n) (passing test (i + 1) n)

-- how many were written, and what the lent list holds
pub record Listed : Type 0 where
  pub count : ℕ
  pub hits : List ℕ

-- all of a list, from the first place on; "places past the count keep what they held"
abbrev pub listed_of : List ℕ → List ℕ → Listed
listed_of list hits = record { count = length list; hits = sets hits 0 list }

-- one more where it passes
abbrev pub one_listed : Bool → ℕ → Listed → Listed
one_listed passes i l = cond passes (record { count = l.count + 1; hits = set l.hits l.count i }) l

-- after those written so far
unfoldable pub listed_from : (ℕ → Bool) → ℕ → ℕ → Listed → Listed
listed_from test i zero l = l
listed_from test i (suc n) l = listed_from test (i + 1) n (one_listed (test i) i l)
