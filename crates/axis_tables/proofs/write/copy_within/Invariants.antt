use Prim.Native.Nat.{◌+◌, ◌≤◌}
use mathlib.Core.Path.{◌≡◌}
use lib.ListN.{length, drop}
use lib.Seq.{sets}
use Rattle.axis_tables.proofs.write.copy_within.Given as goal

abbrev pub invariant-loop-place : goal.invariant-loop-place
invariant-loop-place g l = (l.place ≤ length l.values) × (length l.items ≡ length l.initial.items) × (sets l.initial.items l.at l.values ≡ sets l.items (l.at + l.place) (drop l.place l.values))
