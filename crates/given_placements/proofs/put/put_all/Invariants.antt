use Rattle.std.proofs.Common.{◌≡◌, drop}
use Rattle.panel_tables.specs.Written.{zero_panel}
use Rattle.given_placements.specs.Given.{put_from}
use Rattle.given_placements.proofs.put.put_all.Given as goal

abbrev pub invariant-loop-index : goal.invariant-loop-index
invariant-loop-index l =
    put_from l.panel l.words l.bytes l.rest l.index (drop l.index l.given) ≡ put_from zero_panel l.initial.words l.initial.bytes l.names 0 l.given
