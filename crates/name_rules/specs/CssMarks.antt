-- Document 02, Req 06, over CSS's counting: whether a step on the way to the line of an end was held. A line that a count only passes takes no part.
use Rattle.std.specs.Prelude.{◌≡◌, Bool, false, ◌||◌, ℕ, suc, pred, ℤ, pos}
use Rattle.coordinates.specs.Lines.{outside, uncut}
use Rattle.name_rules.specs.Css.{AxisNames, Bytes, Side, start, end, other, way, Placement, auto, line, named, span, nspan}
use Rattle.name_rules.specs.Css.{CountsTo, CssFound, HasLine, NoLine}

-- the marks of both ends
pub record HeldEnds : Type 0 where
  pub first : Bool
  pub last : Bool

-- the mark of the line that an end is on: whether its number, converted, or the line that its name is counted to lies outside -10,000..10,000
pub data LineMark (x : AxisNames) (s : Side) : Placement → Bool → Type 0 where
  of_number : (g : ℤ) → (g ≡ pos 0 → ⊥) → LineMark x s (line g) (outside (uncut x.explicit g))
  of_name : (nm : Bytes) (i l : ℤ) → CssFound x nm s i l → LineMark x s (named nm i) (outside l)

-- the mark of one end beside the other. A line has its own; a named span beside a line is marked where that line is, and where the line that it
-- counts to lies outside; `auto`, plain spans, a named span beside no line, and line 0 carry no mark
pub data MarkedBy (x : AxisNames) (s : Side) (beside : Placement) : Placement → Bool → Type 0 where
  of_auto : MarkedBy x s beside auto false
  of_span : (n : ℕ) → MarkedBy x s beside (span n) false
  of_zero : MarkedBy x s beside (line (pos 0)) false
  of_line : (p : Placement) (b : Bool) → LineMark x s p b → MarkedBy x s beside p b
  beside_line_lem : (nm : Bytes) (n : ℕ) (o l : ℤ) (b : Bool) → HasLine x (other s) beside o → LineMark x (other s) beside b
      → CountsTo x nm (way s) o 1 (suc (pred n)) l → MarkedBy x s beside (nspan nm n) (b || outside l)
  beside_none : (nm : Bytes) (n : ℕ) → NoLine beside → MarkedBy x s beside (nspan nm n) false

-- the marks of both ends of a placement
pub record CssMarks (x : AxisNames) (p q : Placement) (h : HeldEnds) : Type 0 where
  pub first : MarkedBy x start q p h.first
  pub last : MarkedBy x end p q h.last
