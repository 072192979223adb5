-- The settled placements of a panel that answer a question on the lines of an axis, whatever the state and the tables hold.
use Rattle.std.specs.Prelude.{ℕ, min, Bool, ◌&&◌, List, eqb}
use Rattle.coordinates.specs.declared.axis.Axis.{Axis}
use Rattle.track_counts.specs.declared.counts.TrackCounts.{TrackCounts}
use Rattle.name_resolver.specs.Placements.{resolved_ends}
use Rattle.panel_tables.specs.declared.Grid.{Grid}
use Rattle.panel_tables.specs.declared.LentPanel.{LentPanel}
use Rattle.panel_tables.specs.Axes.{grid_in}
use Rattle.coordinates.specs.Axes.{axis_number}
use Rattle.panel_tables.specs.Placements.{most_placements, axis_mark}
use Rattle.panel_rules.specs.Placing.{PlacementAnswer}
use Rattle.panel_rules.specs.Calls.{NameTables, NamedWords, name_tables_in, area_table_in, placement_table_in, axis_tracks}
use Rattle.panel_rules.specs.Placing.{resolve_placement}
use Rattle.placement_hits.specs.Steps.{passing, answers, occupied_of}
use Rattle.placement_hits.specs.declared.Question.{Question}

-- the tables and stores that placements are resolved from
pub record Lent : Type 0 where
  pub names : NameTables
  pub areas : NamedWords
  pub placements : NamedWords

abbrev pub lent_in : List ℕ → List ℕ → List ℕ → List ℕ → Lent
lent_in words bytes column_store row_store =
    record { names = name_tables_in words column_store row_store; areas = area_table_in words bytes; placements = placement_table_in words bytes }

abbrev pub lent_of : LentPanel → Lent
lent_of x = lent_in x.words.now x.bytes.now x.columnstore.now x.rowstore.now

-- placement i as it is settled: what `resolve_placement` and the run of placements answer
abbrev pub settled : Grid → Lent → ℕ → PlacementAnswer
settled g l i = resolve_placement g l.names l.areas l.placements i

-- the tracks of an axis; a count that no sheet gives is held to 10,000
abbrev pub counts_in : Grid → Axis → TrackCounts
counts_in g a = (axis_tracks (grid_in g a)).counts

-- a placement of the axis of which holds what is asked, and no cell's half: cells "are in no cursor list"; one that is refused has no lines
unfoldable pub settled_hit : Axis → TrackCounts → Question → PlacementAnswer → Bool
unfolding answers occupied_of
settled_hit a c q p = eqb (axis_mark p.axis p.cell) (axis_number a) && answers q (occupied_of c (resolved_ends p.line))

-- those of a panel, by their indexes; a panel holds 512 placements at most, two for each cell, and what stands past them has no lines
unfoldable pub settled_hits : Grid → Lent → Axis → Question → List ℕ
unfolding settled_hit passing
settled_hits g l a q = passing (λ i. settled_hit a (counts_in g a) q (settled g l i)) 0 (min g.placements most_placements)
