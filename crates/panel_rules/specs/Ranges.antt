-- What the panel of every sheet keeps to: the tracks that its picture and its areas span, its implicit counts and the numbers of its placements (document 01, "Panel ranges").
use Rattle.std.specs.Prelude.{ℕ, zero, suc, ◌-◌, ◌≤◌, max, ◌≡◌, List, [], ◌∷◌, ℤ, pos, negsuc, length}
use Rattle.coordinates.specs.declared.axis.Axis.{Axis}
use Rattle.axis_tables.specs.View.{AxisView}
use Rattle.panel_tables.specs.View.{Area, End, Placement, PanelView}
use Rattle.picture_rules.specs.Picture.{Picture, width_of}
use Rattle.panel_tables.specs.Areas.{edges_in}
use Rattle.panel_tables.specs.Axes.{view_in}
use Rattle.axis_tables.specs.Runs.{All}
use Rattle.sheet_rules.specs.Contents.{drawn_in}

-- "largest area end - 1" of an axis, 0 without areas
abbrev pub largest : Axis → List Area → ℕ
largest a [] = 0
largest a (x ∷ rest) = max ((edges_in x.edges a).end - 1) (largest a rest)

-- "line indexes -32,768..32,767"
abbrev pub IsIndex : ℤ → Type 0
IsIndex (pos n) = n ≤ 32767
IsIndex (negsuc k) = k ≤ 32767

-- "spans 0..65,535"
abbrev pub IsSpan : ℤ → Type 0
IsSpan (pos n) = n ≤ 65535
IsSpan (negsuc k) = ⊥

-- the number that an end of each kind writes; kinds `auto line named span nspan` are 0 to 4, "number 0 where unused"
abbrev pub NumberOf : ℕ → ℤ → Type 0
NumberOf zero z = z ≡ pos 0
NumberOf (suc zero) z = IsIndex z
NumberOf (suc (suc zero)) z = IsIndex z
NumberOf (suc (suc (suc zero))) z = IsSpan z
NumberOf (suc (suc (suc (suc zero)))) z = IsSpan z
NumberOf (suc (suc (suc (suc (suc k))))) z = ⊥

abbrev pub EndRange : End → Type 0
EndRange e = NumberOf e.end.kind e.end.number

abbrev pub PlacementRange : Placement → Type 0
PlacementRange p = EndRange p.start × EndRange p.end

-- "all rows have equal width"
abbrev pub Even : Picture → Type 0
Even q = All (λ row. length row ≡ width_of q) q

-- the tracks that a panel needs on an axis: "the rows and their width also raise the explicit counts" (document 02, request 07)
abbrev pub spanned : Axis → PanelView → ℕ
spanned a v = max (drawn_in a v.picture) (largest a v.areas)

-- an axis: the tracks that picture and areas span, "each implicit count 0..10,000", and a mark for each "item index 0..29,999"
pub record AxisRange (span : ℕ) (v : AxisView) : Type 0 where
  pub areas : v.areas ≡ span
  pub negative : v.negative ≤ 10000
  pub positive : v.positive ≤ 10000
  pub marks : length v.marks ≡ 30000

pub record PanelRange (v : PanelView) : Type 0 where
  pub axes : (a : Axis) → AxisRange (spanned a v) (view_in v a)
  pub placements : All PlacementRange v.placements
  pub even : Even v.picture
