-- A settled span has 16 bits, whatever the tables hold, so a word can say every side of a cell. Assumes nothing.
use mathlib.Core.Bool.{Bool, true, false, cond}
use mathlib.Core.List.{List}
use Prim.Native.Nat.{ℕ, zero, suc, ◌<◌}
use native.Mathlib.Omega.{arith}
use lib.Dec.{eqb, leb, ltb}
use lib.IntN.{ℤ, pos, negsuc}
use Rattle.std.specs.Prelude.{Option}
use Rattle.coordinates.specs.declared.axis.Axis.{Axis}
use Rattle.coordinates.specs.Refusals.{no_refusal, count, short}
use Rattle.name_rules.specs.Css.{Bytes, Side, start, end, Placement, auto, line, named, span, nspan, Resolved, free, at_line, spanning, ResolvedEnds, AxisNames}
use Rattle.name_rules.specs.Rule.{named?, line_at, numbered, beside, resolved, resolve}
use Rattle.name_resolver.specs.Types.{ResolvedLine}
use Rattle.name_resolver.specs.Placements.{placement_of, resolved_of, answer_of, resolved_line, held_line, Resolution, resolution_of, refused_resolution}
use Rattle.panel_tables.specs.declared.Grid.{Grid}
use Rattle.panel_tables.specs.declared.EndPlace.{EndPlace}
use Rattle.panel_tables.specs.declared.PlacementPlace.{PlacementPlace}
use Rattle.panel_tables.specs.Placements.{placement_at}
use Rattle.panel_rules.specs.Calls.{names_in, short_names}
use Rattle.panel_rules.specs.Placing.{held_span, end_by, end_placement, line_placement, refused_placement, placed_by, resolve_placement}
use Rattle.panel_hits.specs.Settled.{Lent, settled}
use Rattle.cell_sides.specs.declared.Side.{Side as CellSide}
use Rattle.cell_sides.specs.Css.{End, end_of, Extent, automatic, CssExtent, two_spans, start_span, end_span, nothing, SideOf, inside, leaves, anywhere, CssSide}
use Rattle.cell_sides.specs.Css as Cell
use Rattle.cell_placing.proofs.Items.{Sayable}

-- ---- settled spans

abbrev pub Narrow : Resolved → Type 0
Narrow free = Unit {0}
Narrow (at_line g) = Unit {0}
Narrow (spanning k) = k < 65536

abbrev NarrowEnd : Placement → Type 0
NarrowEnd auto = Unit {0}
NarrowEnd (line g) = Unit {0}
NarrowEnd (named nm i) = Unit {0}
NarrowEnd (span k) = k < 65536
NarrowEnd (nspan nm k) = Unit {0}

module _ (n : ℕ) (names : Bytes → ℕ → Bool) where
  numbered_narrow : (s : Side) (p : Placement) → NarrowEnd p → NarrowEnd (numbered n names s p)
  numbered_narrow s auto h = tt
  numbered_narrow s (line g) h = tt
  numbered_narrow s (named nm i) h = tt
  numbered_narrow s (span k) h = h
  numbered_narrow s (nspan nm k) h = tt

  beside_narrow : (g : ℤ) (f : ℤ → ℤ) → Narrow (beside n names g f)
  beside_narrow (pos zero) f = omega arith
  beside_narrow (pos (suc g)) f = tt
  beside_narrow (negsuc g) f = tt

  resolved_narrow : (s : Side) (g : ℤ) (p : Placement) → NarrowEnd p → Narrow (resolved n names s g p)
  resolved_narrow s g auto h = tt
  resolved_narrow s g (line l) h = tt
  resolved_narrow s g (named nm i) h = tt
  resolved_narrow s g (span k) h = h
  resolved_narrow start g (nspan nm k) h = beside_narrow g _
  resolved_narrow end g (nspan nm k) h = beside_narrow g _

  resolve_narrow : (p q : Placement) → NarrowEnd p → NarrowEnd q → Narrow (resolve n names p q).first × Narrow (resolve n names p q).last
  resolve_narrow p q h k = (
    resolved_narrow start (line_at (numbered n names end q)) (numbered n names start p) (numbered_narrow start p h),
    resolved_narrow end (line_at (numbered n names start p)) (numbered n names end q) (numbered_narrow end q k),
  )

held_narrow : (z : ℤ) → held_span z < 65536
held_narrow (pos n) = omega arith
held_narrow (negsuc k) = omega arith

end_narrow : (bytes : List ℕ) (kind : ℕ) (e : EndPlace) → NarrowEnd (placement_of bytes (end_by kind e))
end_narrow bytes zero e = tt
end_narrow bytes (suc zero) e = tt
end_narrow bytes (suc (suc zero)) e = tt
end_narrow bytes (suc (suc (suc zero))) e = held_narrow e.end.number
end_narrow bytes (suc (suc (suc (suc zero)))) e = tt
end_narrow bytes (suc (suc (suc (suc (suc k))))) e = tt

answer_narrow : (x : Resolved) → Narrow x → Narrow (resolved_of (answer_of x))
answer_narrow free h = tt
answer_narrow (at_line g) h = tt
answer_narrow (spanning k) h = h

abbrev pub NarrowLine : ResolvedLine → Type 0
NarrowLine l = Narrow (resolved_of l.start) × Narrow (resolved_of l.end)

line_narrow : (x : AxisNames) (bytes : List ℕ) (p : PlacementPlace) → NarrowLine (resolved_line x bytes (line_placement p))
line_narrow x bytes p =
    let s = placement_of bytes (end_placement p.start) in
    let e = placement_of bytes (end_placement p.end) in
    let r = resolve_narrow x.explicit (named? x) s e (end_narrow bytes p.start.end.kind p.start) (end_narrow bytes p.end.end.kind p.end) in
    (answer_narrow (resolve x.explicit (named? x) s e).first r.0, answer_narrow (resolve x.explicit (named? x) s e).last r.1)

resolution_narrow : (x : AxisNames) (bytes : List ℕ) (p : PlacementPlace) → NarrowLine (resolution_of x bytes (line_placement p)).line
unfolding resolution_of
resolution_narrow x bytes p = go (leb x.explicit 10000)
  where
    go : (t : Bool) → NarrowLine (cond t (record { refusal = no_refusal; line = resolved_line x bytes (line_placement p); held = held_line x bytes (line_placement p) }) refused_resolution).line
    go true = line_narrow x bytes p
    go false = (tt, tt)

placed_narrow : (r : Resolution) (a : Axis) (cell is_short : Bool) → NarrowLine r.line → NarrowLine (placed_by r a cell is_short).line
placed_narrow r a cell is_short h = go (eqb r.refusal.number 0) is_short
  where
    go : (t u : Bool) → NarrowLine (cond t (cond u (refused_placement short) (record { refusal = no_refusal; axis = a; cell = cell; line = r.line; held = r.held })) (refused_placement r.refusal.number)).line
    go true true = (tt, tt)
    go true false = h
    go false u = (tt, tt)

pub settled_narrow : (g : Grid) (l : Lent) (i : ℕ) → NarrowLine (settled g l i).line
unfolding resolve_placement
settled_narrow g l i = go (ltb i g.placements)
  where
    place : PlacementPlace
    place = placement_at l.placements.words i

    resolution : Resolution
    resolution = resolution_of (names_in g l.names l.areas place.axis) l.placements.bytes (line_placement place)

    go : (t : Bool) → NarrowLine (cond t (placed_by resolution place.axis place.cell (short_names l.names)) (refused_placement count)).line
    go true = placed_narrow resolution place.axis place.cell (short_names l.names) (resolution_narrow (names_in g l.names l.areas place.axis) l.placements.bytes place)
    go false = (tt, tt)

-- ---- sides

abbrev NarrowCss : End → Type 0
NarrowCss Cell.auto = Unit {0}
NarrowCss (Cell.line z) = Unit {0}
NarrowCss (Cell.span k) = k < 65536

css_narrow : (n : ℕ) (x : Resolved) → Narrow x → NarrowCss (end_of n x)
css_narrow n free h = tt
css_narrow n (at_line (pos zero)) h = tt
css_narrow n (at_line (pos (suc g))) h = tt
css_narrow n (at_line (negsuc g)) h = tt
css_narrow n (spanning k) h = omega arith

automatic_narrow : {s e : End} {k : ℕ} → NarrowCss s → NarrowCss e → CssExtent s e (automatic k) → k < 65536
automatic_narrow h g two_spans = h
automatic_narrow h g start_span = h
automatic_narrow h g end_span = g
automatic_narrow h g nothing = omega arith

sayable : {s e : End} {x : Extent} {last : ℕ} {side : Option CellSide} → last < 65535 → NarrowCss s → NarrowCss e → CssExtent s e x → SideOf last x side → Sayable side
sayable w h g lies (inside m) = (m.first, omega (arith, m.order, m.final), omega (arith, m.final))
sayable w h g lies (leaves f) = tt
sayable w h g lies anywhere = automatic_narrow h g lies

pub side_sayable : (n last : ℕ) (r : ResolvedEnds) (side : Option CellSide) → last < 65535 → Narrow r.first → Narrow r.last → CssSide n last r side → Sayable side
side_sayable n last r side w h g c = sayable w (css_narrow n r.first h) (css_narrow n r.last g) c.lies c.is
