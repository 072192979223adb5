-- What the steps of the resolver come to: which end is resolved first, what an end asks for, and the line that answers it.
use Rattle.std.specs.Prelude.{ℕ, zero, suc, pred, ◌+◌, max, min, Bool, true, false, cond, ◌||◌, ℤ, pos, negsuc, ◌+ℤ◌, ◌-ℤ◌, Option, None}
use Rattle.coordinates.specs.Lines.{held, outside}
use Rattle.coordinates.specs.Refusals.{no_refusal}
use Rattle.coordinates.specs.Types.{MarkedLine}
use Rattle.coordinates.specs.declared.line.Marked.{Marked}
use Rattle.coordinates.specs.Answers.{origin_zero_answer, grid_line_answer}
use Rattle.coordinates.specs.declared.line.GridLine.{GridLine}
use Rattle.name_rules.specs.Css.{Side, start, end}
use Rattle.name_rules.specs.Rule.{Seek, settle}
use Rattle.name_lines.specs.Areas.{side_of}
use Rattle.name_lines.specs.Suffixes.{side_edge}
use Rattle.name_lines.specs.declared.GridAreaEnd.TheVariants as Placed
use Rattle.name_lines.specs.declared.Way.{Way}
use Rattle.name_lines.specs.declared.Way.TheVariants.{Up, Down}
use Rattle.name_resolver.specs.Counts.{is_zero, first_line, found_line}
use Rattle.name_resolver.specs.declared.count.Count.{Count}
use Rattle.name_resolver.specs.Placements.{grid_line_of}
use Rattle.name_resolver.specs.declared.Name.{Name}
use Rattle.name_resolver.specs.declared.GridPlacement.{GridPlacement}
use Rattle.name_resolver.specs.declared.GridPlacement.TheVariants as Written
use Rattle.name_resolver.specs.Types.{WrittenLine, NonNamedGridPlacement, ResolvedEnd}
use Rattle.coordinates.specs.declared.line.GenericGridPlacement.TheVariants as Plain
use Rattle.name_resolver.specs.Placements.{Resolution}
use Rattle.name_resolver.specs.declared.End.{End}
use Rattle.name_resolver.specs.declared.Question.{Question}
use Rattle.name_resolver.specs.declared.Asked.{Asked}
use Rattle.name_resolver.specs.declared.Asked.TheVariants as Says
use Rattle.name_lines.specs.declared.GridAreaEnd.{GridAreaEnd}

-- an end is a span of a name
abbrev pub is_named_span : GridPlacement → Bool
is_named_span Written.Auto = false
is_named_span (Written.Line g) = false
is_named_span (Written.NamedLine n i) = false
is_named_span (Written.Span k) = false
is_named_span (Written.NamedSpan n k) = true

-- the grid line that a resolved end has, 0 where it has none
abbrev pub line_of_end : NonNamedGridPlacement → GridLine
line_of_end Plain.Auto = grid_line_of (pos 0)
line_of_end (Plain.Line g) = g
line_of_end (Plain.Span k) = grid_line_of (pos 0)

-- the start and the end of a placement, each beside a grid line, which was held or not
abbrev pub start_beside : WrittenLine → GridLine → Bool → End
start_beside l g h = record { placement = l.start; side = Placed.Start; beside = record { value = g; held = h } }

abbrev pub end_beside : WrittenLine → GridLine → Bool → End
end_beside l g h = record { placement = l.end; side = Placed.End; beside = record { value = g; held = h } }

-- the one or the other
abbrev pub end_at : WrittenLine → GridAreaEnd → Marked GridLine → End
end_at l Placed.Start b = start_beside l b.value b.held
end_at l Placed.End b = end_beside l b.value b.held

-- the start is resolved first, but the end where the start is a span of a name
unfoldable pub first_end : WrittenLine → End
first_end l = cond (is_named_span l.start) (end_beside l (grid_line_of (pos 0)) false) (start_beside l (grid_line_of (pos 0)) false)

-- then the other, beside the line of the first
unfoldable pub second_end : WrittenLine → ResolvedEnd → End
second_end l first =
    cond (is_named_span l.start) (start_beside l (line_of_end first.value) first.held) (end_beside l (line_of_end first.value) first.held)

-- a start and an end, each with its mark, as an answer
abbrev pub both_ends : ResolvedEnd → ResolvedEnd → Resolution
both_ends s e =
    record {
      refusal = no_refusal;
      line = record { start = s.value; end = e.value };
      held = record { start = s.held; end = e.held };
    }

-- both in their places
unfoldable pub resolved_ends_in : WrittenLine → ResolvedEnd → ResolvedEnd → Resolution
resolved_ends_in l first second = cond (is_named_span l.start) (both_ends second first) (both_ends first second)

-- an end without a mark, and a written line, which has the mark of its conversion
abbrev pub unmarked_end : NonNamedGridPlacement → ResolvedEnd
unmarked_end p = record { value = p; held = false }

abbrev pub written_end : ℕ → GridLine → ResolvedEnd
written_end explicit g = record { value = Plain.Line g; held = (origin_zero_answer explicit g.0).held }

-- the end on an origin-zero line, which is held; on line 0, which is none, where the explicit count is refused. It is marked where a line before it
-- was held, or this one is
abbrev pub end_on_line : ℕ → Bool → ℤ → ResolvedEnd
end_on_line explicit before l = record { value = Plain.Line (grid_line_answer explicit (held l)).line; held = before || outside l }

-- the same of a line that is held already
abbrev pub end_on_held : ℕ → Bool → MarkedLine → ResolvedEnd
end_on_held explicit before l =
    record { value = Plain.Line (grid_line_answer explicit l.value.0).line; held = before || l.held }

-- the line that a search came to: missing lines are counted on past the explicit grid, or from the first line on, and back before line 0
abbrev pub line_found : ℕ → Way → ℕ → Seek → ℤ
line_found explicit Up from s = pos (settle (max from (suc explicit)) s)
line_found explicit Down from s = found_line s

-- the end that a search resolves
unfoldable pub found_end : ℕ → Question → Seek → ResolvedEnd
found_end explicit q s = end_on_line explicit q.held (line_found explicit q.nth.way q.nth.from s)

-- the question of a count on from a line, a line before the first counting as the first
abbrev pub question_ahead : Name → Option GridAreaEnd → ℤ → ℕ → Bool → Asked
question_ahead name edge first over before =
    Says.Line (record { name = name; edge = edge; nth = record { way = Up; from = first_line first; over = over }; held = before })

-- the question of a count back from a line, explicit lines only; before line 0 every line counts, and nothing is asked
abbrev pub question_back : ℕ → Name → ℤ → ℕ → Bool → Asked
question_back explicit name (pos l) over before =
    Says.Line (record { name = name; edge = None; nth = record { way = Down; from = suc (min l explicit); over = over }; held = before })
question_back explicit name (negsuc k) over before = Says.Resolved (end_on_line explicit before (negsuc (k + over)))

-- the question of a count either way
abbrev pub way_question : ℕ → Name → Option GridAreaEnd → Way → ℤ → ℕ → Bool → Asked
way_question explicit name edge Up first over before = question_ahead name edge first over before
way_question explicit name edge Down last over before = question_back explicit name last over before

abbrev pub count_question : ℕ → Name → Option GridAreaEnd → Count → Bool → Asked
count_question explicit name edge count before = way_question explicit name edge count.way count.first count.over before

-- an area's edge is asked for first where no index is written, which is index 0
abbrev pub index_edge : ℤ → Side → Option GridAreaEnd
index_edge i s = cond (is_zero i) (side_edge s) None

-- a name with an index: 0 as 1, positive from line 0 on, negative from the last explicit line back
abbrev pub named_question : ℕ → Name → ℤ → Side → Asked
named_question explicit name (pos zero) s = question_ahead name (side_edge s) (pos 0) 0 false
named_question explicit name (pos (suc i)) s = question_ahead name None (pos 0) i false
named_question explicit name (negsuc i) s = question_back explicit name (pos explicit) i false

-- a span of a name beside a line: back from the line before it for a start, on from the line after it for an end; a span of 0 as 1
abbrev pub span_question_from : ℕ → Name → ℕ → Side → ℤ → Bool → Asked
span_question_from explicit name n start o before = question_back explicit name (o -ℤ pos 1) (pred n) before
span_question_from explicit name n end o before = question_ahead name None (o +ℤ pos 1) (pred n) before

-- beside a grid line, which is held first, and whose mark is taken over: span 1 where that is 0
abbrev pub span_question : ℕ → Name → ℕ → Side → ℤ → Bool → Asked
span_question explicit name n s g before =
    cond (is_zero g)
    (Says.Resolved (unmarked_end (Plain.Span 1)))
    (span_question_from explicit name n s (origin_zero_answer explicit g).line.0 before)

-- what an end asks for; written lines and plain spans pass through
abbrev pub placement_question : ℕ → Side → ℤ → Bool → GridPlacement → Asked
placement_question explicit s g h Written.Auto = Says.Resolved (unmarked_end Plain.Auto)
placement_question explicit s g h (Written.Line written) = Says.Resolved (written_end explicit written)
placement_question explicit s g h (Written.NamedLine name i) = named_question explicit name i s
placement_question explicit s g h (Written.Span n) = Says.Resolved (unmarked_end (Plain.Span n))
placement_question explicit s g h (Written.NamedSpan name n) = span_question explicit name n s g h

unfoldable pub question_of : ℕ → End → Asked
question_of explicit e = placement_question explicit (side_of e.side) e.beside.value.0 e.beside.held e.placement
