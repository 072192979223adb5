use Rattle.std.proofs.Common.{◌≡◌, ◌<◌, ◌^◌, length, drop}
use Rattle.text.specs.Hexadecimal.{bits_of, bits_from}
use Rattle.text.proofs.hexadecimal.read_bits.Given as goal

abbrev pub invariant-loop-b : goal.invariant-loop-b
invariant-loop-b l = (length l.s ≡ 8) × (l.bits < 16 ^ l.b-index) × (bits_of l.s ≡ bits_from l.bits (drop l.b-index l.s))
