use Rattle.std.proofs.Common.{◌≡◌, length, drop}
use Rattle.given_placements.specs.Given.{names_missing}
use Rattle.given_placements.proofs.put.has_names.Given as goal

abbrev pub invariant-loop-one : goal.invariant-loop-one
invariant-loop-one l = names_missing l.left (drop l.one-index l.given) ≡ names_missing (length l.names) l.given
