-- An edit or a recall that is refused hands the panel and the history back. Assumes nothing.
use mathlib.Core.Path.{◌≡◌, refl}
use mathlib.Core.Bool.{false}
use lib.Dec.{eqb}
use borrow.Author.Tests.{ne_eqb}
use Rattle.std.specs.Prelude.{Err}
use Rattle.coordinates.proofs.Faults.{fault_some}
use Rattle.coordinates.specs.Refusals.{number_of}
use Rattle.panel_tables.specs.declared.Panel.{Panel}
use Rattle.sheet_rules.specs.declared.SheetFault.{SheetFault}
use Rattle.sheet_rules.specs.declared.SheetFault.TheVariants.{Overlap as Overlaps, Line, Whole}
use Rattle.sheet_rules.specs.Answers.{refused_with}
use Rattle.panel_history.specs.declared.History.{History}
use Rattle.panel_history.specs.History.{answered_edit}
use Rattle.palgwern.specs.History.{edit_numbers}

-- a refusal has a number
refusal_some : (f : SheetFault) → eqb (refused_with f).refusal.number 0 ≡ false
refusal_some (Overlaps p) = refl
refusal_some (Line f) = ne_eqb (number_of f.fault) 0 (fault_some f.fault)
refusal_some (Whole f) = ne_eqb (number_of f) 0 (fault_some f)

pub refusal_hands_back : (p : Panel) (history : History) (f : SheetFault) → edit_numbers p history (answered_edit (Err f))
    ≡ record {
      number = (refused_with f).refusal.number;
      line = (refused_with f).refusal.line;
      earlier = (refused_with f).earlier;
      later = (refused_with f).later;
      panel = p;
      history = history;
    }
refusal_hands_back p history f = rw (refusal_some f) refl
