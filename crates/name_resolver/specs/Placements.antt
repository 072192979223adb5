-- Placements as written and as resolved (document 01, "Panel sheet": kinds `auto line named span nspan`, each with its number).
use Rattle.std.specs.Prelude.{ℕ, false, cond, List, leb, ℤ, take, drop, Result, Ok, Err}
use Rattle.coordinates.specs.Ends.{end_kind, end_number}
use Rattle.coordinates.specs.Refusals.{Refusal, no_refusal, refusal_of, number_of, count}
use Rattle.coordinates.specs.declared.refusal.Fault.{Fault}
use Rattle.name_rules.specs.Css as Css
use Rattle.name_rules.specs.Css.{Bytes, AxisNames}
use Rattle.name_rules.specs.CssMarks as CssMarks
use Rattle.name_rules.specs.Rule.{named?, resolve, held_ends}
use Rattle.coordinates.specs.declared.line.GridLine.{GridLine}
use Rattle.name_resolver.specs.declared.Name.{Name}
use Rattle.name_resolver.specs.declared.GridPlacement.{GridPlacement}
use Rattle.name_resolver.specs.declared.GridPlacement.TheVariants as Written
use Rattle.name_resolver.specs.Types.{WrittenLine, NonNamedGridPlacement, ResolvedLine, HeldEnds}
use Rattle.coordinates.specs.declared.line.GenericGridPlacement.TheVariants as Plain
use Rattle.name_resolver.specs.declared.ResolvedPlacement.{ResolvedPlacement}

-- the grid line of a number
abbrev pub grid_line_of : ℤ → GridLine
grid_line_of g = record { 0 = g }

-- the bytes of a name, as far as the lent bytes reach
abbrev pub name_of : List ℕ → Name → Bytes
name_of bytes n = take n.length (drop n.offset bytes)

-- what an end says, in the words of CSS
abbrev pub placement_of : List ℕ → GridPlacement → Css.Placement
placement_of bytes Written.Auto = Css.auto
placement_of bytes (Written.Line g) = Css.line g.0
placement_of bytes (Written.NamedLine n i) = Css.named (name_of bytes n) i
placement_of bytes (Written.Span k) = Css.span k
placement_of bytes (Written.NamedSpan n k) = Css.nspan (name_of bytes n) k

-- the kinds `auto line span` of a resolved end are 0, 1 and 3, and its number is 0 where it has none
abbrev pub resolved_kind_of : NonNamedGridPlacement → ℕ
resolved_kind_of e = end_kind e

abbrev pub resolved_number_of : NonNamedGridPlacement → ℤ
resolved_number_of e = end_number e

-- what a resolved end says, in the words of CSS
abbrev pub resolved_of : NonNamedGridPlacement → Css.Resolved
resolved_of Plain.Auto = Css.free
resolved_of (Plain.Line g) = Css.at_line g.0
resolved_of (Plain.Span k) = Css.spanning k

-- and the resolved end that says it
abbrev pub answer_of : Css.Resolved → NonNamedGridPlacement
answer_of Css.free = Plain.Auto
answer_of (Css.at_line g) = Plain.Line (grid_line_of g)
answer_of (Css.spanning k) = Plain.Span k

abbrev pub ends_of : Css.ResolvedEnds → ResolvedLine
ends_of r = record { start = answer_of r.first; end = answer_of r.last }

abbrev pub resolved_ends : ResolvedLine → Css.ResolvedEnds
resolved_ends l = record { first = resolved_of l.start; last = resolved_of l.end }

-- the marks of both ends as the answer has them, and back
abbrev pub held_answer : CssMarks.HeldEnds → HeldEnds
held_answer h = record { start = h.first; end = h.last }

abbrev pub held_marks : HeldEnds → CssMarks.HeldEnds
held_marks h = record { first = h.start; last = h.end }

-- the zero value of a resolved placement: every enum its 0 case; and no mark
abbrev pub zero_line : ResolvedLine
zero_line = record { start = Plain.Auto; end = Plain.Auto }

abbrev pub no_marks : HeldEnds
no_marks = record { start = false; end = false }

-- a placement beside the names of an axis, by the rule
abbrev pub resolved_line : AxisNames → List ℕ → WrittenLine → ResolvedLine
resolved_line x names l = ends_of (resolve x.explicit (named? x) (placement_of names l.start) (placement_of names l.end))

-- and the marks of its ends
abbrev pub held_line : AxisNames → List ℕ → WrittenLine → HeldEnds
held_line x names l = held_answer (held_ends x.explicit (named? x) (placement_of names l.start) (placement_of names l.end))

-- the answer of the resolver in this paper's numbers and values: a refusal, and beside it the zero value, or the resolved placement and its marks
pub record Resolution : Type 0 where
  pub refusal : Refusal
  pub line : ResolvedLine
  pub held : HeldEnds

-- the numbers and values of what the resolver answers
abbrev pub answered_resolution : Result ResolvedPlacement Fault → Resolution
answered_resolution (Ok r) = record { refusal = no_refusal; line = r.line; held = r.held }
answered_resolution (Err fault) = record { refusal = refusal_of (number_of fault); line = zero_line; held = no_marks }

-- a refused answer: number 4, line 0 and the zero value
abbrev pub refused_resolution : Resolution
refused_resolution = record { refusal = refusal_of count; line = zero_line; held = no_marks }

-- an explicit count above 10,000 is refused by 4
unfoldable pub resolution_of : AxisNames → List ℕ → WrittenLine → Resolution
resolution_of x names l =
    cond (leb x.explicit 10000)
    (record { refusal = no_refusal; line = resolved_line x names l; held = held_line x names l })
    refused_resolution
