-- What the names of an axis answer to a question (document 01, layer 4).
use Rattle.std.specs.Prelude.{Bool, List, ◌++◌, ℕ, suc, Option, Some, None}
use Rattle.name_rules.specs.Css.{Bytes, start, end, suffix}
use Rattle.name_rules.specs.Rule.{Seek, at, left, seek}
use Rattle.name_lines.specs.Marks.{walk, start_of}
use Rattle.name_resolver.specs.Placements.{name_of}
use Rattle.name_resolver.specs.Steps.{first_end, second_end, resolved_ends_in, question_of, found_end}
use Rattle.name_resolver.specs.Types.{WrittenLine, ResolvedEnd}
use Rattle.name_resolver.specs.Placements.{Resolution}
use Rattle.name_resolver.specs.declared.Question.{Question}
use Rattle.name_resolver.specs.declared.Asked.{Asked}
use Rattle.name_resolver.specs.declared.Asked.TheVariants as Says
use Rattle.name_lines.specs.declared.GridAreaEnd.{GridAreaEnd}
use Rattle.name_lines.specs.declared.GridAreaEnd.TheVariants.{Start, End}

-- the first line of an edge of the area of a name, where one is asked for; `names` says whether a line bears a name
abbrev pub edge_found : (Bytes → ℕ → Bool) → Bytes → Option GridAreaEnd → Seek
edge_found names nm (Some Start) = seek (λ (l : ℕ). names (nm ++ suffix start) (suc l)) 20000 0 0
edge_found names nm (Some End) = seek (λ (l : ℕ). names (nm ++ suffix end) (suc l)) 20000 0 0
edge_found names nm None = left 0

-- a line that is found, else another search
abbrev pub or_else : Seek → Seek → Seek
or_else (at l) s = at l
or_else (left m) s = s

-- "takes the start or end edge of the area of that whole name, by the end being placed, else index 1": the edge, or the line that is counted to
unfoldable pub found_by : (Bytes → ℕ → Bool) → Bytes → Question → Seek
found_by names nm q = or_else (edge_found names nm q.edge) (walk q.nth.way (λ (l : ℕ). names nm (suc l)) (start_of q.nth.way q.nth.from) q.nth.over)

-- what an end that asks comes to; `bytes` hold the names of placements
abbrev pub answered : (Bytes → ℕ → Bool) → List ℕ → ℕ → Asked → ResolvedEnd
answered names bytes explicit (Says.Resolved r) = r
answered names bytes explicit (Says.Line q) = found_end explicit q (found_by names (name_of bytes q.name) q)

-- a placement whose ends are asked for one after the other
unfoldable pub answered_line : (Bytes → ℕ → Bool) → List ℕ → ℕ → WrittenLine → Resolution
answered_line names bytes explicit l =
    let f = answered names bytes explicit (question_of explicit (first_end l)) in
    resolved_ends_in l f (answered names bytes explicit (question_of explicit (second_end l f)))
