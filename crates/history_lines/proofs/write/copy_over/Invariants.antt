use Prim.Native.Nat.{◌≤◌}
use mathlib.Core.Path.{◌≡◌}
use lib.ListN.{length, drop}
use lib.Seq.{sets}
use Rattle.history_lines.proofs.write.copy_over.Given as goal

abbrev pub invariant-loop-place : goal.invariant-loop-place
invariant-loop-place l = (l.place ≤ length l.text) × (length l.bytes ≡ length l.initial.bytes) × (sets l.initial.bytes 0 l.text ≡ sets l.bytes l.place (drop l.place l.text))
