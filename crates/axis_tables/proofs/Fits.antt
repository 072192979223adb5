-- What the lines of an axis leave fits the rooms of its tables. Assumes nothing.
use Prim.Native.Nat.{ℕ, ◌+◌, ◌*◌, ◌≤◌, ◌<◌}
use mathlib.Core.List.{List, [], ◌∷◌}
use native.Mathlib.Omega.{arith}
use lib.ListN.{length, length-append}
use Rattle.axis_tables.specs.View.{name, track, Repeat, Item, single, repeat, Unended, none, inside, AxisView, tracks_in, tracks_of, components_of, NameRecord, axis_names, axis_bytes}

-- a repeat as a sheet can write it
pub record SmallRepeat (r : Repeat) : Type 0 where
  pub some : 0 < r.kind
  pub kinds : r.kind < 4
  pub number : r.number ≤ 65535
  pub tracks : length (tracks_in r.pieces) ≤ 32

abbrev pub SmallItems : List Item → Type 0
SmallItems [] = Unit
SmallItems (single p ∷ is) = SmallItems is
SmallItems (repeat r ∷ is) = SmallRepeat r × SmallItems is

-- a repeat that is open will be a component
abbrev pub to_come : Unended → ℕ
to_come none = 0
to_come (inside r) = 1

abbrev pub SmallUnended : Unended → Type 0
SmallUnended none = Unit
SmallUnended (inside r) = SmallRepeat r

abbrev pub Short : List NameRecord → Type 0
Short [] = Unit
Short (n ∷ ns) = (length n.name ≤ 32) × Short ns

pub record Fits (v : AxisView) : Type 0 where
  pub items : SmallItems v.template
  pub unended : SmallUnended v.unended
  pub components : length (components_of v.template) + to_come v.unended ≤ 64
  pub spares : length v.spares ≤ 64
  pub names : length (axis_names v) ≤ 4096
  pub bytes : length (axis_bytes v) ≤ 32768
  pub short : Short (axis_names v)

-- no component has more than 32 tracks
pub few-tracks : (is : List Item) → SmallItems is → length (tracks_of is) ≤ 32 * length (components_of is)
few-tracks [] s = omega arith
few-tracks (single (name n) ∷ is) s = few-tracks is s
few-tracks (single (track t) ∷ is) s = omega (arith, few-tracks is s)
few-tracks (repeat r ∷ is) s = omega (arith, few-tracks is s.1, s.0.tracks, length-append (tracks_in r.pieces) (tracks_of is))
