-- What reading a sheet answers, in this paper's numbers and values: a refusal with zeros, or the panel.
use Rattle.std.specs.Prelude.{ℕ, Option, Some, None, Result, Ok, Err, ◌<◌, ◌≡◌}
use Rattle.coordinates.specs.Refusals.{Refusal, no_refusal, number_of, overlap}
use Rattle.panel_tables.specs.declared.Grid.{Grid}
use Rattle.panel_tables.specs.declared.Panel.{Panel}
use Rattle.panel_tables.specs.Written.{zero_panel}
use Rattle.sheet_rules.specs.declared.Overlap.{Overlap}
use Rattle.sheet_rules.specs.declared.SheetFault.{SheetFault}
use Rattle.sheet_rules.specs.declared.SheetFault.TheVariants.{Overlap as Overlaps, Line, Whole}
use Rattle.sheet_rules.specs.declared.Display.{Display}
use Rattle.sheet_rules.specs.Sheet.{no_overlap}

-- the answer of reading a sheet: its refusal, or the panel. The pair of areas is that of refusal 12, else zeros
pub record SheetAnswer : Type 0 where
  pub refusal : Refusal
  pub earlier : ℕ
  pub later : ℕ
  pub panel : Panel

-- the answer of reading a sheet for display: its refusal, or what answers are read from, with the first two areas that share a cell; nothing
-- that an edit takes
pub record DisplayAnswer : Type 0 where
  pub refusal : Refusal
  pub earlier : ℕ
  pub later : ℕ
  pub grid : Grid

-- a panel with the pair of an overlap
abbrev pub accepted_with : Overlap → Panel → SheetAnswer
accepted_with p panel = record { refusal = no_refusal; earlier = p.earlier; later = p.later; panel = panel }

-- a refusal: the number and the line of a fault, 0 for the sheet as a whole, or 12 at the later area's line with the pair
abbrev pub refused_with : SheetFault → SheetAnswer
refused_with (Overlaps p) = record { refusal = record { number = overlap; line = p.line }; earlier = p.earlier; later = p.later; panel = zero_panel }
refused_with (Line f) = record { refusal = record { number = number_of f.fault; line = f.line }; earlier = 0; later = 0; panel = zero_panel }
refused_with (Whole fault) = record { refusal = record { number = number_of fault; line = 0 }; earlier = 0; later = 0; panel = zero_panel }

-- ---- the numbers and values of what a call answers

-- the pair that is noted, zeros where there is none
abbrev pub noted : Option Overlap → Overlap
noted None = no_overlap
noted (Some p) = p

-- the later area of a pair has a number
abbrev pub NumberedPair : Option Overlap → Type 0
NumberedPair None = Unit {0}
NumberedPair (Some p) = 0 < p.later

abbrev pub answered_sheet : Result Panel SheetFault → SheetAnswer
answered_sheet (Ok panel) = accepted_with no_overlap panel
answered_sheet (Err fault) = refused_with fault

abbrev pub grid_only : SheetAnswer → DisplayAnswer
grid_only a = record { refusal = a.refusal; earlier = a.earlier; later = a.later; grid = a.panel.grid }

abbrev pub answered_display : Result Display SheetFault → DisplayAnswer
answered_display (Ok d) = record { refusal = no_refusal; earlier = (noted d.overlap).earlier; later = (noted d.overlap).later; grid = d.grid }
answered_display (Err fault) = grid_only (refused_with fault)

-- areas that share a cell are told by their pair alone: a fault at a line or of the whole is none of theirs, which is 12
abbrev pub TellsPair : SheetFault → Type 0
TellsPair (Overlaps p) = Unit {0}
TellsPair (Line f) = number_of f.fault ≡ overlap → ⊥
TellsPair (Whole fault) = number_of fault ≡ overlap → ⊥
