-- A fault that is not an overlap has another number. Assumes nothing.
use Rattle.std.specs.Prelude.{◌≡◌, false, eqb, Option, Some, None, refl}
use Rattle.coordinates.specs.declared.refusal.Fault.{Fault}
use Rattle.coordinates.specs.declared.refusal.Fault.TheVariants.{Unread, Name, Value, Count, Area, Twice, Late, Crowded, ZeroLine, Short, Indefinite, Overlap, Unequal, Broken, Unplaced, HistoryFull, NoStep}
use Rattle.coordinates.specs.Refusals.{fault_number}

pub other_fault : (f : Option Fault) → (f ≡ Some Overlap → ⊥) → eqb (fault_number f) 12 ≡ false
other_fault None h = refl
other_fault (Some Unread) h = refl
other_fault (Some Name) h = refl
other_fault (Some Value) h = refl
other_fault (Some Count) h = refl
other_fault (Some Area) h = refl
other_fault (Some Twice) h = refl
other_fault (Some Late) h = refl
other_fault (Some Crowded) h = refl
other_fault (Some ZeroLine) h = refl
other_fault (Some Short) h = refl
other_fault (Some Indefinite) h = refl
other_fault (Some Overlap) h = absurd (h refl)
other_fault (Some Unequal) h = refl
other_fault (Some Broken) h = refl
other_fault (Some Unplaced) h = refl
other_fault (Some HistoryFull) h = refl
other_fault (Some NoStep) h = refl
