-- Whether the lines of a name are those of its entries alone: an edge of a drawn area is a line of NAME-start or NAME-end.
use Rattle.std.specs.Prelude.{ℕ, Bool, false, ◌||◌, List, [], ◌∷◌, get_or, drop, Option, Some, None}
use Rattle.name_rules.specs.Css.{Bytes}
use Rattle.name_rules.specs.Rule.{eq_bytes}
use Rattle.name_entries.specs.Entries.{entry_of, name_in}
use Rattle.name_lines.specs.declared.GridAreaEnd.{GridAreaEnd}
use Rattle.name_lines.specs.declared.GridAreaEnd.TheVariants.{Start, End}

-- a drawn area has the name: one area for each word of edges, a word of a name that is missing read as 0
unfoldable pub drawn_in : List ℕ → List ℕ → List ℕ → Bytes → Bool
drawn_in [] names store nm = false
drawn_in (w ∷ ws) names store nm = eq_bytes (name_in store (entry_of (get_or names 0 0))) nm || drawn_in ws (drop 1 names) store nm

-- an edge of a drawn area can be among the lines of the name that is the stem followed by the suffix of the edge
abbrev pub edges_drawn : List ℕ → List ℕ → List ℕ → Bytes → Option GridAreaEnd → Bool
edges_drawn edges names store stem (Some Start) = drawn_in edges names store stem
edges_drawn edges names store stem (Some End) = drawn_in edges names store stem
edges_drawn edges names store stem None = false
