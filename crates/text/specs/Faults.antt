-- What a line is refused for where a number in it is: 1 where it is not spelt as one, 4 where it lies outside its range.
use Rattle.coordinates.specs.declared.refusal.Fault.{Fault}
use Rattle.coordinates.specs.declared.refusal.Fault.TheVariants.{Unread, Count}
use Rattle.text.specs.declared.NumberFault.{NumberFault}
use Rattle.text.specs.declared.NumberFault.TheVariants.{Unread as NotRead, Outside}

abbrev pub fault_of_number : NumberFault → Fault
fault_of_number NotRead = Unread
fault_of_number Outside = Count
