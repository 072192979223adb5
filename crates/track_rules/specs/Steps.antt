-- What the functions below the public call compute, step by step: one record without the list of all tracks.
use Rattle.std.specs.Prelude.{ℕ, zero, suc, ◌+◌, ◌*◌, ◌-◌, ◌/◌, ◌%◌, min, Bool, true, cond, ◌||◌, List, [], ◌∷◌, ltb, leb, eqb, length, get_or, drop}
use Rattle.sizing.specs.declared.MinMax.{MinMax}
use Rattle.sizing.specs.declared.Sizing.{Sizing}
use Rattle.template_rules.specs.Template.{Component, component_of}
use Rattle.template_rules.specs.declared.RepetitionCount.TheVariants.{Single}
use Rattle.track_rules.specs.declared.GridTrack.{GridTrack}
use Rattle.track_rules.specs.declared.WrittenTrack.{WrittenTrack}
use Rattle.track_rules.specs.declared.TrackSource.TheVariants.{Area, Positive}
use Rattle.track_rules.specs.declared.AxisTracks.{AxisTracks}
use Rattle.track_rules.specs.declared.Cursor.{Cursor}
use Rattle.track_rules.specs.declared.Plan.{Plan}
use Rattle.track_rules.specs.declared.TrackWalk.{TrackWalk}
use Rattle.track_rules.specs.Tracks.{gutter_of, track_of}
use Rattle.track_rules.specs.Written.{repeats_of, once_of}
use Rattle.track_rules.specs.Records.{negative_of, explicit_of, tracks_in, implicit, spare_at, negative_at, no_track, closed_by, open_to}

-- how many tracks a component writes, and each component of a template
abbrev pub total_of : ℕ → Component → ℕ
total_of r c = repeats_of r c.count * length c.tracks

unfoldable pub totals_of : ℕ → List Component → List ℕ
totals_of r [] = []
totals_of r (c ∷ cs) = total_of r c ∷ totals_of r cs

-- the same from words
unfoldable pub word_total : ℕ → ℕ → ℕ
unfolding component_of
word_total r w = repeats_of r (component_of w).count * (component_of w).length

unfoldable pub word_totals : ℕ → List ℕ → List ℕ
unfolding word_total
word_totals r [] = []
word_totals r (w ∷ ws) = word_total r w ∷ word_totals r ws

unfoldable pub sum_of : List ℕ → ℕ
sum_of [] = 0
sum_of (n ∷ ns) = n + sum_of ns

abbrev pub cursor : ℕ → ℕ → Cursor
cursor k o = record { component = k; offset = o }

-- go on from track o of the components that write ns tracks, the first of which is component k
unfoldable pub settle_of : List ℕ → ℕ → ℕ → Cursor
settle_of [] k o = cursor k o
settle_of (n ∷ ns) k o = cond (ltb o n) (cursor k o) (settle_of ns (suc k) (o - n))

-- where track t of the written-out template is found; past the end: how far past
unfoldable pub cursor_of : List ℕ → ℕ → Cursor
unfolding settle_of
cursor_of ns t = settle_of ns 0 t

-- one track further; a cursor at the largest number stays
unfoldable pub next_of : List ℕ → Cursor → Cursor
unfolding settle_of
next_of ns u = cond (eqb u.offset 18446744073709551615) u (settle_of (drop u.component ns) u.component (u.offset + 1))

abbrev pub no_component : Component
no_component = record { count = Single; tracks = [] }

-- track o of what a component writes
abbrev pub written_in : Component → ℕ → WrittenTrack
written_in c o = get_or (once_of c) (o % length c.tracks) no_track

-- the track at a cursor
abbrev pub written_at : List Component → Cursor → WrittenTrack
written_at cs u = written_in (get_or cs u.component no_component) u.offset

-- how many explicit tracks the template writes, of ns by its components
abbrev pub written_count : AxisTracks → List ℕ → ℕ
written_count a ns = min (explicit_of a) (sum_of ns)

-- track t, with the cursor at track t - m of the written-out template
abbrev pub track_with : AxisTracks → ℕ → List Component → List MinMax → Cursor → ℕ → WrittenTrack
track_with a count cs sp u t =
    cond (ltb t (negative_of a)) (negative_at sp (negative_of a) t)
    (cond (ltb t (negative_of a + count)) (written_at cs u)
    (implicit (cond (ltb t (negative_of a + explicit_of a)) Area Positive) (spare_at sp (t - (negative_of a + count)))))

-- the cursor that belongs to track t
abbrev pub cursor_at : AxisTracks → List ℕ → ℕ → Cursor
cursor_at a ns t = cursor_of ns (t - negative_of a)

unfoldable pub track_at : AxisTracks → List Component → List MinMax → ℕ → WrittenTrack
unfolding totals_of sum_of cursor_of
track_at a cs sp t = track_with a (written_count a (totals_of a.repetitions cs)) cs sp (cursor_at a (totals_of a.repetitions cs) t) t

abbrev pub closed_at : AxisTracks → List Component → List MinMax → (ℕ → Bool) → ℕ → Bool
closed_at a cs sp item t = closed_by item (track_at a cs sp t) t

-- one past the last open track; no track of a spare size collapses
abbrev pub open_end : AxisTracks → List Component → (ℕ → Bool) → ℕ
open_end a cs item = open_to (closed_at a cs [] item) (tracks_in a)

-- what is worked out once for all records of an axis
unfoldable pub plan_of : AxisTracks → List Component → (ℕ → Bool) → Plan
unfolding totals_of sum_of open_to track_at
plan_of a cs item = record { written = written_count a (totals_of a.repetitions cs); opened = open_end a cs item }

-- track t, or the gutter after it
abbrev pub pair_with : Sizing → Bool → WrittenTrack → Bool → Bool → GridTrack
pair_with gap even x closed late = cond even (gutter_of gap (closed || late)) (track_of x closed)

-- record i: from the first gutter on, record i is track (i - 1) / 2 or the gutter after it
abbrev pub record_with : AxisTracks → Plan → List Component → List MinMax → (ℕ → Bool) → Cursor → ℕ → GridTrack
record_with a p cs sp item u zero = gutter_of a.gap true
record_with a p cs sp item u (suc i) =
    pair_with a.gap (eqb (suc i % 2) 0)
    (track_with a p.written cs sp u (i / 2))
    (closed_by item (track_with a p.written cs sp u (i / 2)) (i / 2))
    (leb p.opened (suc i / 2))

-- record i of an axis
unfoldable pub record_of : AxisTracks → List Component → List MinMax → (ℕ → Bool) → ℕ → GridTrack
unfolding plan_of totals_of cursor_of
record_of a cs sp item i = record_with a (plan_of a cs item) cs sp item (cursor_at a (totals_of a.repetitions cs) ((i - 1) / 2)) i

-- what is carried to record i
unfoldable pub state_at : AxisTracks → List Component → (ℕ → Bool) → ℕ → TrackWalk
unfolding plan_of totals_of cursor_of
state_at a cs item i = record { axis = a; plan = plan_of a cs item; cursor = cursor_at a (totals_of a.repetitions cs) ((i - 1) / 2) }
