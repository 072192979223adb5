-- Document 01, the table of refusals: a fault is answered by its number and place.
use Rattle.std.specs.Prelude.{ℕ, ◌<◌, ◌≡◌, ◌⊎◌, Option, Some, None, Result, Ok, Err, MatchResult}
use Rattle.coordinates.specs.declared.refusal.Fault.{Fault}
use Rattle.coordinates.specs.declared.refusal.UnknownFault.{UnknownFault}
use Rattle.coordinates.specs.declared.refusal.Fault.TheVariants.{Unread, Name, Value, Count, Area, Twice, Late, Crowded, ZeroLine, Short, Indefinite, Overlap, Unequal, Broken, Unplaced, HistoryFull, NoStep}

-- a refusal: its number, 0 where nothing is refused, and its place, the sheet's line
pub record Refusal : Type 0 where
  pub number : ℕ
  pub line : ℕ

-- nothing is refused: both numbers are zero
abbrev pub no_refusal : Refusal
no_refusal = record { number = 0; line = 0 }

-- "calls without a sheet give line 0"
abbrev pub refusal_of : ℕ → Refusal
refusal_of n = record { number = n; line = 0 }

-- the numbers of the table
abbrev pub unread : ℕ
unread = 1

abbrev pub name : ℕ
name = 2

-- a size outside its range; since document 02, Req 12, also an axis that lacks what a least resize is asked of
abbrev pub value : ℕ
value = 3

abbrev pub count : ℕ
count = 4

abbrev pub area : ℕ
area = 5

abbrev pub twice : ℕ
twice = 6

abbrev pub late : ℕ
late = 7

abbrev pub crowded : ℕ
crowded = 8

abbrev pub zero_line : ℕ
zero_line = 9

abbrev pub short : ℕ
short = 10

-- document 02, Req 01: "refuses a track or gutter with no definite size by 11, after all older checks"
abbrev pub indefinite : ℕ
indefinite = 11

-- document 02, Req 03: two areas with a common cell
abbrev pub overlap : ℕ
overlap = 12

-- document 02, Req 07: "rows of unequal width"
abbrev pub unequal : ℕ
unequal = 13

-- "a name whose cells are no rectangle"
abbrev pub broken : ℕ
broken = 14

-- document 02, Req 10: an item that can't be placed
abbrev pub unplaced : ℕ
unplaced = 15

-- document 02, Req 14: "refuses an edit by 16, after all other refusals, when its line does not fit in the bytes then free"
abbrev pub history_full : ℕ
history_full = 16

-- "and a step above the last by 17"
abbrev pub no_step : ℕ
no_step = 17

-- the number of a fault in the table
abbrev pub number_of : Fault → ℕ
number_of Unread = unread
number_of Name = name
number_of Value = value
number_of Count = count
number_of Area = area
number_of Twice = twice
number_of Late = late
number_of Crowded = crowded
number_of ZeroLine = zero_line
number_of Short = short
number_of Indefinite = indefinite
number_of Overlap = overlap
number_of Unequal = unequal
number_of Broken = broken
number_of Unplaced = unplaced
number_of HistoryFull = history_full
number_of NoStep = no_step

-- the fault that has a number, or that number where none has it
abbrev pub Decodes : ℕ → Result Fault UnknownFault → Type 0
Decodes number r = MatchResult r (λ fault. number_of fault ≡ number) (λ unknown. (unknown.0 ≡ number) × ((number ≡ 0) ⊎ (17 < number)))

-- the number of a fault that may be absent: 0 where there is none
abbrev pub fault_number : Option Fault → ℕ
fault_number None = 0
fault_number (Some fault) = number_of fault

-- the number of a refusal, 0 where a call answers
abbrev pub refused_by : {A : Type 0} → Result A Fault → ℕ
refused_by (Ok a) = 0
refused_by (Err fault) = number_of fault
