-- The edge that names make, in CSS's words, and beside the line that a placement takes.
use Rattle.std.specs.Prelude.{◌≡◌, ℕ, suc, ◌≤◌, pos, zero, ◌++◌, Some, None}
use Rattle.name_rules.specs.Css.{Bytes, AxisNames, Named, Nearest, suffix}
use Rattle.name_rules.specs.Conditions.{NameLies}
use Rattle.name_rules.specs.Rule.{named?, found}
use Rattle.name_lines.specs.Areas.{side_of}
use Rattle.name_lines.specs.declared.GridAreaEnd.{GridAreaEnd}
use Rattle.panel_areas.specs.Areas.{edge_number}

pub record EdgeTheorem (x : AxisNames) (nm : Bytes) (e : GridAreaEnd) : Type 0 where
  -- 8.3: "the first line of NAME-start for a start, NAME-end for an end"
  pub first : (l : ℕ) → edge_number x nm e ≡ Some (suc l) → Nearest (λ k. Named x (nm ++ suffix (side_of e)) (suc k)) 0 l
  -- there is none just where no line bears it, for a name whose lines are explicit
  pub none : x.explicit ≤ 10000 → NameLies x (nm ++ suffix (side_of e)) → edge_number x nm e ≡ None → (k : ℕ) → Named x (nm ++ suffix (side_of e)) (suc k) → ⊥
  -- a placement by the name alone takes it, before the line is held
  pub placed : (l : ℕ) → edge_number x nm e ≡ Some (suc l) → found x.explicit (named? x) nm (side_of e) (pos zero) ≡ pos l
