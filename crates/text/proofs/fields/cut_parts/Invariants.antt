use Rattle.std.proofs.Common.{◌≡◌, ◌+◌, ◌≤◌, length, drop}
use lib.Seq.{sets}
use Rattle.text.specs.Split.{split}
use Rattle.text.specs.Places.{starts_from}
use Rattle.text.proofs.Places.{reach}
use Rattle.text.proofs.fields.cut_parts.Given as goal

abbrev pub invariant-loop-part : goal.invariant-loop-part
invariant-loop-part l =
    (l.count ≡ length l.yielded) × (l.count ≤ l.at) × (l.at + reach (drop l.count (split l.fn.b l.s)) ≡ length l.s + 1)
    × (sets l.initial.starts 0 (starts_from 0 (split l.fn.b l.s)) ≡ sets l.starts l.count (starts_from l.at (drop l.count (split l.fn.b l.s))))
