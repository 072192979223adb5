-- The lists for the columns of two runs that differ in rows alone (beside the third demand).
use Rattle.std.specs.Prelude.{◌≡◌, List, ℕ, ℤ}
use Rattle.coordinates.specs.declared.axis.Axis.{Axis}
use Rattle.coordinates.specs.declared.axis.Axis.TheVariants.{Column}
use Rattle.panel_rules.specs.Runs.{Held, names_of, areas_of, placements_of}
use Rattle.panel_rules.specs.Alone.{Run, held_by}
use Rattle.panel_positions.specs.Cursor.{LinesWithin}
use Rattle.panel_positions.specs.Theorem.{lines_in}
use Rattle.placement_hits.specs.Steps.{place_of}
use Rattle.placement_hits.specs.declared.Question.{Question}
use Rattle.placement_hits.specs.declared.Question.TheVariants.{Within, Around}
use Rattle.panel_hits.specs.Settled.{Lent, counts_in, settled_hits}

-- what is held after a run
abbrev pub lent_of : Held → Lent
lent_of h = record { names = names_of h.tables; areas = areas_of h.tables; placements = placements_of h.tables }

abbrev pub hits_in : Held → Axis → Question → List ℕ
hits_in h a q = settled_hits h.panel.grid (lent_of h) a q

-- the two lists
abbrev pub within_in : Held → Axis → List ℕ → ℕ → ℕ → List ℕ
within_in h a items low high = let lines : LinesWithin = lines_in h a items low high in hits_in h a (Within lines.below lines.upto)

abbrev pub around_in : Held → Axis → ℤ → List ℕ
around_in h a line = hits_in h a (Around (place_of (counts_in h.panel.grid a) line))

pub record SameHits (p q : Run) : Type 0 where
  pub within : (items : List ℕ) (low high : ℕ) → within_in (held_by p) Column items low high ≡ within_in (held_by q) Column items low high
  pub around : (line : ℤ) → around_in (held_by p) Column line ≡ around_in (held_by q) Column line
