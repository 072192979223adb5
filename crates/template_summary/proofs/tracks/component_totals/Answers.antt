use Rattle.std.proofs.Common.{◌≡◌, ℕ, List}
use mathlib.Core.Bool.{and-true}
use lib.Ieee.{Float}
use Rattle.sizing.specs.Definite.{fixed_track}
use Rattle.template_rules.specs.Template.{track_at, tracks_from}
use Rattle.template_rules.specs.Counts.{all_fixed}
use Rattle.template_rules.specs.Steps.{of_track, totals_of}
use Rattle.template_rules.specs.Bounds.{CountOfWord}
use Rattle.template_rules.specs.declared.RepetitionCount.{RepetitionCount}
use Rattle.template_rules.specs.declared.RepetitionCount.TheVariants.{Single}
use Rattle.template_rules.specs.declared.TrackTotals.{TrackTotals}
use Rattle.template_rules.proofs.Bounds.{single_one}
use Rattle.template_summary.proofs.tracks.component_totals.Goals as goal

-- a single has one track
single : (minimums maximums : List ℕ) (inner : Float) (k : RepetitionCount) (first n : ℕ) (t : TrackTotals) → k ≡ Single → CountOfWord k n
    → t ≡ of_track inner (track_at minimums maximums first) → t ≡ totals_of inner k (tracks_from minimums maximums first n)
unfolding tracks_from all_fixed
single minimums maximums inner k first n t e h r = rw (single_one k n e h, e, r, and-true (fixed_track (track_at minimums maximums first)))

pub returns : goal.returns
returns c =
    let k = c.args.component.parts in
    single c.args.template.sizes.minimums.now c.args.template.sizes.maximums.now c.args.inner k.count k.first k.length c.track_totals.result c.in-Single.is c.args.component.counted c.track_totals.ensures
