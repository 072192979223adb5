-- The search for an edge comes to the first line of its name. Assumes nothing.
use native.Mathlib.Omega.{arith}
use mathlib.Core.Path.{◌≡◌, refl, sym, ap, ◌∙◌, fun_ext}
use mathlib.Core.List.{List, ◌++◌}
use Prim.Native.Nat.{ℕ, suc, ◌+◌, ◌<◌}
use Rattle.std.specs.Prelude.{Bool, Some, None}
use Rattle.coordinates.specs.declared.axis.Axis.{Axis}
use Rattle.name_rules.specs.Css.{Bytes, AxisNames, Side, start, end, suffix}
use Rattle.name_rules.specs.Rule.{at, left, named?}
use Rattle.name_rules.proofs.Counting.{seek-below}
use Rattle.name_lines.specs.Areas.{axis_names, bears, sought_in}
use Rattle.name_lines.specs.Suffixes.{side_edge}
use Rattle.name_lines.specs.declared.NthLine.{NthLine}
use Rattle.name_lines.specs.declared.Way.TheVariants.{Up}
use Rattle.name_lines.specs.declared.GridAreaEnd.{GridAreaEnd}
use Rattle.name_lines.specs.declared.GridAreaEnd.TheVariants.{Start, End}
use Rattle.name_lines.proofs.Tables.{sought-side}
use Rattle.name_search.specs.Sought.{line_sought}
use Rattle.name_resolver.specs.Questions.{edge_found}
use Rattle.panel_areas.specs.Areas.{number_found, edge_number}

abbrev first : NthLine
first = record { way = Up; from = 0; over = 0 }

module _ (explicit : ℕ) (axis : Axis) (entries store edges areas areastore : List ℕ) where
  abbrev x : AxisNames
  x = axis_names explicit axis entries store edges areas areastore

  -- the lines that a search for an edge looks at
  abbrev sought : Bytes → GridAreaEnd → ℕ → Bool
  sought nm e = sought_in axis entries store edges areas areastore nm (Some e)

  lines-of : (nm : Bytes) (s : Side) → sought_in axis entries store edges areas areastore nm (side_edge s) ≡ (λ (l : ℕ). named? x (nm ++ suffix s) (suc l))
  unfolding bears named?
  lines-of nm s = fun_ext (λ (l : ℕ). sought-side axis entries store edges areas areastore nm s l)

  module _ (nm : Bytes) (e : GridAreaEnd) where
    -- what it comes to
    found : line_sought first (sought nm e) ≡ edge_found (named? x) nm (Some e)
    unfolding line_sought
    found = go e
      where
        go : (f : GridAreaEnd) → line_sought first (sought nm f) ≡ edge_found (named? x) nm (Some f)
        go Start = rw (lines-of nm start) refl
        go End = rw (lines-of nm end) refl

    pub edge_line : (l : ℕ) → at l ≡ line_sought first (sought nm e) → Some (l + 1) ≡ edge_number x nm e
    unfolding edge_number
    edge_line l h = ap Some (omega arith) ∙ ap number_found (h ∙ found)

    pub edge_none : (m : ℕ) → left m ≡ line_sought first (sought nm e) → None ≡ edge_number x nm e
    unfolding edge_number
    edge_none m h = ap number_found (h ∙ found)

    -- it is no line past the last that can have a name
    pub edge_small : (l : ℕ) → at l ≡ line_sought first (sought nm e) → l < 20000
    unfolding line_sought
    edge_small l h = let q = seek-below (sought nm e) 20000 0 0 l (sym h) in omega (arith, q)
