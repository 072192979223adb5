-- The explicit size with the crate's sum of one repetition, in which no track is raised to 1. No contract cites it: it says where the answer still is
-- the crate's (document 02, Req 05: "repeats whose tracks all measure 1 or more keep equality with the crate").
use Rattle.std.specs.Prelude.{◌≡◌, ℕ, true, List, map, length, Float, Option}
use mathlib.Core.List.{Memᴰ}
use Rattle.std.specs.Float.Ieee.{le}
use Rattle.sizing.specs.Words.{zero32}
use Rattle.sizing.specs.Sums.{sum_from}
use Rattle.sizing.specs.declared.Sizing.{Sizing}
use Rattle.sizing.specs.declared.MinMax.{MinMax}
use Rattle.template_rules.specs.Template.{Component}
use Rattle.template_rules.specs.Counts.{outside_count, automatic_count, before_count, automatic_tracks, any_empty, every_fixed}
use Rattle.template_rules.specs.Space.{one32, track_space, outside_space}
use Rattle.template_rules.specs.Explicit.{SizeAnswer, inner_value, size_from}
use Rattle.template_rules.specs.declared.AutoRepeatStrategy.{AutoRepeatStrategy}
use Rattle.template_rules.specs.declared.TemplateSummary.{TemplateSummary}

-- the crate's space of one repetition
unfoldable pub crate_repetition_space : Float → List Component → Float
unfolding sum_from automatic_tracks
crate_repetition_space inner cs = sum_from zero32 (map (track_space inner) (automatic_tracks cs))

-- what the crate gathers of a template, in the fields of `meaning_of`
abbrev pub crate_meaning_of : Float → List Component → TemplateSummary
crate_meaning_of inner cs =
    record {
      empty = any_empty cs;
      fixed = every_fixed cs;
      automatic = automatic_count cs;
      outside = outside_count cs;
      before = before_count cs;
      repeated = length (automatic_tracks cs);
      used = outside_space inner cs;
      once = crate_repetition_space inner cs;
    }

-- and the explicit size from it
unfoldable pub crate_size_of : Option Float → AutoRepeatStrategy → Sizing → ℕ → List Component → SizeAnswer
unfolding crate_repetition_space
crate_size_of inner strategy gap areas cs = size_from inner strategy gap areas (length cs) (crate_meaning_of (inner_value inner) cs)

-- all tracks of the automatic repeat measure 1 or more
abbrev pub Thick : Float → List Component → Type 0
Thick inner cs = (t : MinMax) → Memᴰ t (automatic_tracks cs) → le one32 (track_space inner t) ≡ true
