-- What is sought for a question, one search after the other.
use Rattle.std.specs.Prelude.{Bool, true, false, cond, ℕ, suc, Option, Some, None}
use Rattle.name_rules.specs.Css.{Bytes}
use Rattle.name_rules.specs.Rule.{Seek}
use Rattle.name_lines.specs.Marks.{walk, start_of}
use Rattle.name_lines.specs.Suffixes.{edge_of, stem_of}
use Rattle.name_lines.specs.declared.GridAreaEnd.{GridAreaEnd}
use Rattle.name_lines.specs.declared.NthLine.{NthLine}
use Rattle.name_lines.specs.declared.Way.TheVariants.{Up}
use Rattle.name_resolver.specs.declared.End.{End}
use Rattle.name_resolver.specs.declared.Question.{Question}
use Rattle.name_resolver.specs.Steps.{first_end, second_end}
use Rattle.name_resolver.specs.Types.{WrittenLine, ResolvedEnd}
use Rattle.name_resolver.specs.Questions.{edge_found, or_else}

-- the lines of the name itself are asked for, and no edge of its area before them
abbrev pub asks_own : Option GridAreaEnd → Bool
asks_own (Some side) = false
asks_own None = true

-- the lines of the name itself, or the first edge of its area: the edge whose suffix is sought, the part of the name before it, and which of the lines
abbrev pub edge_for : Question → Bool → Bytes → Option GridAreaEnd
edge_for q own nm = cond own (edge_of nm) q.edge

abbrev pub stem_for : Question → Bool → Bytes → Bytes
stem_for q own nm = cond own (stem_of nm (edge_of nm)) nm

abbrev pub nth_for : Question → Bool → NthLine
nth_for q own = cond own q.nth (record { way = Up; from = 0; over = 0 })

-- the end that is resolved next: the first, or the other beside its line
abbrev pub next_end : WrittenLine → Option ResolvedEnd → End
next_end l None = first_end l
next_end l (Some first) = second_end l first

-- what is counted to among the lines of the name itself
abbrev pub own_found : (Bytes → ℕ → Bool) → Bytes → Question → Seek
own_found names nm q = walk q.nth.way (λ (l : ℕ). names nm (suc l)) (start_of q.nth.way q.nth.from) q.nth.over

-- what is found by the searches that are left
unfoldable pub found_from : (Bytes → ℕ → Bool) → Bytes → Question → Bool → Seek
found_from names nm q own = cond own (own_found names nm q) (or_else (edge_found names nm q.edge) (own_found names nm q))
