-- The cases hold. Assumes nothing.
use lib.Dec.{T}
use Rattle.track_rules.specs.Written.{written_out}
use Rattle.track_rules.specs.Records.{open_to, all_tracks, records_of}
use Rattle.track_rules.specs.Cases.{cases, all_hold}

pub cases_hold : T (all_hold cases)
unfolding cases records_of all_tracks written_out open_to
cases_hold = tt
