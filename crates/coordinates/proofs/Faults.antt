-- The faults of the table have numbers. Assumes nothing.
use native.Mathlib.Omega.{arith}
use mathlib.Core.Path.{◌≡◌}
use Rattle.coordinates.specs.Refusals.{number_of}
use Rattle.coordinates.specs.declared.refusal.Fault.{Fault}
use Rattle.coordinates.specs.declared.refusal.Fault.TheVariants.{Unread, Name, Value, Count, Area, Twice, Late, Crowded, ZeroLine, Short, Indefinite, Overlap, Unequal, Broken, Unplaced, HistoryFull, NoStep}

-- a fault has a number
pub fault_some : (fault : Fault) → number_of fault ≡ 0 → ⊥
fault_some Unread e = omega (arith, e)
fault_some Name e = omega (arith, e)
fault_some Value e = omega (arith, e)
fault_some Count e = omega (arith, e)
fault_some Area e = omega (arith, e)
fault_some Twice e = omega (arith, e)
fault_some Late e = omega (arith, e)
fault_some Crowded e = omega (arith, e)
fault_some ZeroLine e = omega (arith, e)
fault_some Short e = omega (arith, e)
fault_some Indefinite e = omega (arith, e)
fault_some Overlap e = omega (arith, e)
fault_some Unequal e = omega (arith, e)
fault_some Broken e = omega (arith, e)
fault_some Unplaced e = omega (arith, e)
fault_some HistoryFull e = omega (arith, e)
fault_some NoStep e = omega (arith, e)
