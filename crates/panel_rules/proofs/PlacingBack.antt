-- A placement that the tables hold says what the sheet's line says. Assumes nothing.
use Prim.Native.Nat.{ℕ, zero, suc, ◌≤◌, ◌<◌}
use mathlib.Core.Path.{◌≡◌, refl, ap, ◌∙◌, sym, subst}
use mathlib.Core.List.{List, [], ◌∷◌}
use native.Mathlib.Omega.{arith}
use lib.ListN.{length, get_or}
use Rattle.name_rules.specs.Css as Css
use Rattle.coordinates.specs.declared.axis.Axis.TheVariants.{Column}
use Rattle.name_resolver.specs.Placements.{placement_of, zero_line, no_marks}
use Rattle.axis_tables.proofs.Runs.{All}
use Rattle.panel_tables.specs.declared.EndPlace.{EndPlace}
use Rattle.panel_tables.specs.declared.PlacementPlace.{PlacementPlace}
use Rattle.panel_tables.specs.View.{End, Placement, no_placement}
use Rattle.panel_tables.specs.Placements.{placement_at, end_in, placement_in}
use Rattle.panel_tables.specs.Written.{placement_words, placement_store}
use Rattle.panel_tables.proofs.Fits.{GoodPlacement}
use Rattle.panel_tables.proofs.Back.{placement_held}
use Rattle.panel_rules.specs.Placing.{end_by, end_placement, refused_placement}
use Rattle.panel_rules.specs.Views.{css_by, css_end}
use Rattle.panel_rules.specs.Ranges.{NumberOf, EndRange, PlacementRange}
use Rattle.panel_rules.proofs.Numbers.{index-held, span-held}

-- a refused answer has zeros beside its number
pub refused-zeros : (n : ℕ) → ((refused_placement n).axis ≡ Column) × ((refused_placement n).line ≡ zero_line) × ((refused_placement n).held ≡ no_marks)
refused-zeros n = (refl, refl, refl)

-- ---- an end: a number in the range of its kind is read as it is
end_says : (bytes : List ℕ) (e : EndPlace) → EndRange (end_in bytes e) → placement_of bytes (end_placement e) ≡ css_end (end_in bytes e)
end_says bytes e = go e.end.kind
  where
    go : (k : ℕ) → NumberOf k e.end.number → placement_of bytes (end_by k e) ≡ css_by k (end_in bytes e)
    go zero r = refl
    go (suc zero) r = ap Css.line (index-held e.end.number r)
    go (suc (suc zero)) r = ap (Css.named (end_in bytes e).name) (index-held e.end.number r)
    go (suc (suc (suc zero))) r = ap Css.span (span-held e.end.number r)
    go (suc (suc (suc (suc zero)))) r = ap (Css.nspan (end_in bytes e).name) (span-held e.end.number r)
    go (suc (suc (suc (suc (suc k))))) r = refl

-- the same, read as the end x
end_reads : (bytes : List ℕ) (e : EndPlace) (x : End) → end_in bytes e ≡ x → EndRange x → placement_of bytes (end_placement e) ≡ css_end x
end_reads bytes e x q r = end_says bytes e (subst (λ (y : End). EndRange y) (sym q) r) ∙ ap css_end q

-- ---- a placement of the table
-- each placement's numbers are in their ranges
ranged : (ps : List Placement) (i : ℕ) → All PlacementRange ps → i < length ps → PlacementRange (get_or ps i no_placement)
ranged [] i r h = absurd (omega arith)
ranged (p ∷ ps) zero r h = r.0
ranged (p ∷ ps) (suc i) r h = ranged ps i r.1 (omega arith)

module _ (ps : List Placement) (lines : List ℕ) (g : All GoodPlacement ps) (r : All PlacementRange ps) (few : length ps ≤ 512) (i : ℕ) (h : i < length ps) where
  -- what the tables hold of placement i
  abbrev place : PlacementPlace
  place = placement_at (placement_words ps lines) i

  -- placement i of the sheet
  abbrev wanted : Placement
  wanted = get_or ps i no_placement

  -- read back, one is the other
  whole : placement_in (placement_words ps lines) (placement_store ps) i ≡ wanted
  whole = placement_held ps lines g few i h

  -- so is its axis, and so is what each end says
  pub axis-held : place.axis ≡ wanted.axis
  axis-held = ap (λ (p : Placement). p.axis) whole

  pub cell-held : place.cell ≡ wanted.cell
  cell-held = ap (λ (p : Placement). p.cell) whole

  pub start-held : placement_of (placement_store ps) (end_placement place.start) ≡ css_end wanted.start
  start-held = end_reads (placement_store ps) place.start wanted.start (ap (λ (p : Placement). p.start) whole) (ranged ps i r h).0

  pub end-held : placement_of (placement_store ps) (end_placement place.end) ≡ css_end wanted.end
  end-held = end_reads (placement_store ps) place.end wanted.end (ap (λ (p : Placement). p.end) whole) (ranged ps i r h).1
