-- The cases of request 13's conditions hold, by computation. Assumes nothing.
use lib.Dec.{T}
use Rattle.name_rules.specs.Cases.{every}
use Rattle.name_rules.specs.OneMoreCases.{old_name_past, new_name_past, count_grown, two_entries, span_beside, moves}
use Rattle.name_rules.specs.Rule.{seek, named?}

pub each_condition_needed : T (every moves old_name_past) × T (every moves new_name_past) × T (every moves count_grown) × T (every moves two_entries) × T (every moves span_beside)
unfolding moves seek named?
each_condition_needed = (tt, tt, tt, tt, tt)
