-- The steps of the search, by what of a repeat is found once. The laws in proofs/Counts.antt join them to the counts at each size (Search.antt).
use Rattle.std.specs.Prelude.{ℕ, Bool, cond, not, ◌&&◌, ◌||◌, List, eqb, leb, Float}
use Rattle.sizing.specs.Words.{zero32}
use Rattle.template_rules.specs.Template.{Component, template_of}
use Rattle.template_rules.specs.Space.{whole32}
use Rattle.template_rules.specs.declared.AutoRepeatStrategy.{AutoRepeatStrategy}
use Rattle.explicit_size.specs.Repeat.{gathered_of}
use Rattle.explicit_size.specs.Steps.{spaces_by, count_by}
use Rattle.least_resize.specs.declared.search.SizedRepeat.{SizedRepeat}
use Rattle.least_resize.specs.Resize.{largest_size}
use Rattle.least_resize.specs.Search.{repetitions_at}
use Rattle.least_resize.specs.Percentages.{has_percentage}

-- what is found once: where there are no percentages the spaces are the same at every size
abbrev pub repeat_of : List ℕ → List ℕ → List ℕ → AutoRepeatStrategy → Float → SizedRepeat
repeat_of components minimums maximums strategy gap =
    record {
      strategy = strategy;
      gap = gap;
      percentages = has_percentage minimums || has_percentage maximums;
      spaces = spaces_by (gathered_of zero32 (template_of components minimums maximums)) gap;
    }

-- the count at a size: from the template at that size, or from what was found once
unfoldable pub count_in : SizedRepeat → List Component → ℕ → ℕ
count_in r cs size = cond r.percentages (repetitions_at r.strategy r.gap cs size) (count_by r.strategy (whole32 size) r.spaces)

-- whether it is not n, at a size in the range
unfoldable pub differs_in : SizedRepeat → List Component → ℕ → ℕ → Bool
unfolding count_in
differs_in r cs n size = leb size largest_size && not (eqb (count_in r cs size) n)
