-- The line that is sought (document 01, layer 4: positive index counts from line 0, negative from the last line back).
use Rattle.std.specs.Prelude.{Bool, ℕ}
use Rattle.name_rules.specs.Rule.{Seek}
use Rattle.name_lines.specs.Areas.{sought_in}
use Rattle.name_lines.specs.Marks.{walk, start_of}
use Rattle.name_lines.specs.declared.NthLine.{NthLine}
use Rattle.name_search.specs.declared.Search.{Search}

-- among the lines that p marks
unfoldable pub line_sought : NthLine → (ℕ → Bool) → Seek
line_sought n p = walk n.way p (start_of n.way n.from) n.over

-- the lines that bear the name of a search, by the lent tables
abbrev pub marks_in : Search → ℕ → Bool
marks_in s = sought_in s.sought.axis s.names.entries.now s.names.store.now s.areas.edges.now s.areas.names.now s.areas.store.now s.name.stem.now s.name.edge
