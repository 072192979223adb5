-- The steps of the walk over a template: a left fold over the components, and in each over its tracks. The laws in proofs/Walk.antt say what
-- it gathers in document 01's words (Summary.antt).
use Rattle.std.specs.Prelude.{ℕ, ◌+◌, ◌*◌, Bool, true, false, cond, ◌&&◌, ◌||◌, List, length, ◌==◌, nat_lt, Float}
use mathlib.Core.List.{foldl}
use Rattle.std.specs.Float.{binary32}
use Rattle.std.specs.Float.Ieee.{add}
use Rattle.sizing.specs.Words.{zero32}
use Rattle.sizing.specs.Definite.{fixed_track}
use Rattle.sizing.specs.declared.MinMax.{MinMax}
use Rattle.template_rules.specs.Template.{Component}
use Rattle.template_rules.specs.Counts.{all_fixed}
use Rattle.template_rules.specs.Space.{track_space, space_in, single_space, counted_space}
use Rattle.template_rules.specs.Summary.{no_components, steps_inside}
use Rattle.template_rules.specs.declared.RepetitionCount.{RepetitionCount}
use Rattle.template_rules.specs.declared.RepetitionCount.TheVariants.{Single, Count, AutoFill, AutoFit}
use Rattle.template_rules.specs.declared.GridTemplateComponent.{GridTemplateComponent}
use Rattle.template_rules.specs.declared.TrackTotals.{TrackTotals}
use Rattle.template_rules.specs.declared.TemplateSummary.{TemplateSummary}

-- before any track, one track, and one track more
abbrev pub no_tracks : TrackTotals
no_tracks = record { fixed = true; space = zero32 }

abbrev pub of_track : Float → MinMax → TrackTotals
of_track inner t = record { fixed = fixed_track t; space = track_space inner t }

abbrev pub add_totals : RepetitionCount → TrackTotals → TrackTotals → TrackTotals
add_totals count s t = record { fixed = s.fixed && t.fixed; space = add binary32 s.space (space_in count t.space) }

abbrev pub track_step : RepetitionCount → Float → TrackTotals → MinMax → TrackTotals
track_step count inner s t = add_totals count s (of_track inner t)

-- the tracks of a component: a single is its one track
abbrev pub totals_of : Float → RepetitionCount → List MinMax → TrackTotals
totals_of inner Single ts = record { fixed = all_fixed ts; space = single_space inner ts }
totals_of inner (Count n) ts = foldl (track_step (Count n) inner) no_tracks ts
totals_of inner AutoFill ts = foldl (track_step AutoFill inner) no_tracks ts
totals_of inner AutoFit ts = foldl (track_step AutoFit inner) no_tracks ts

-- one more component outside the automatic repeat: it has n tracks and uses a space
abbrev pub outside_step : TemplateSummary → Bool → Bool → ℕ → Float → TemplateSummary
outside_step s empty fixed n space =
    record {
      empty = s.empty || empty;
      fixed = s.fixed && fixed;
      automatic = s.automatic;
      outside = s.outside + n;
      before = s.before + cond (s.automatic == 0) n 0;
      repeated = s.repeated;
      used = add binary32 s.used space;
      once = s.once;
    }

-- one more automatic repeat of n tracks: the first one counts
abbrev pub automatic_step : TemplateSummary → ℕ → TrackTotals → TemplateSummary
automatic_step s n t =
    record {
      empty = s.empty || (n == 0);
      fixed = s.fixed && t.fixed;
      automatic = s.automatic + 1;
      outside = s.outside;
      before = s.before;
      repeated = cond (s.automatic == 0) n s.repeated;
      used = add binary32 s.used zero32;
      once = cond (s.automatic == 0) t.space s.once;
    }

-- one more component of n tracks
abbrev pub step_by : TemplateSummary → RepetitionCount → ℕ → TrackTotals → TemplateSummary
step_by s Single n t = outside_step s false t.fixed 1 t.space
step_by s (Count times) n t = outside_step s (n == 0 || times == 0) t.fixed (times * n) (counted_space t.space times)
step_by s AutoFill n t = automatic_step s n t
step_by s AutoFit n t = automatic_step s n t

unfoldable pub summary_step : Float → TemplateSummary → Component → TemplateSummary
unfolding all_fixed
summary_step inner s c = step_by s c.count (length c.tracks) (totals_of inner c.count c.tracks)

-- the walk
unfoldable pub summary_of : Float → List Component → TemplateSummary
unfolding summary_step
summary_of inner cs = foldl (summary_step inner) no_components cs

-- a component after k steps inside it, by its place in the tables
abbrev pub cut_after : ℕ → GridTemplateComponent → GridTemplateComponent
cut_after k c = cond (nat_lt k (steps_inside c.count c.length)) (record { count = c.count; first = c.first; length = k }) c
