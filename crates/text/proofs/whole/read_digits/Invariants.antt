use Rattle.std.proofs.Common.{◌≡◌, ◌≤◌, drop}
use Rattle.text.specs.Whole.{digits_of}
use Rattle.text.specs.Steps.{top, held}
use Rattle.text.proofs.whole.read_digits.Given as goal

abbrev pub invariant-loop-b : goal.invariant-loop-b
invariant-loop-b l = (l.v ≤ top) × (held (digits_of 0 l.s) ≡ held (digits_of l.v (drop l.b-index l.s)))
