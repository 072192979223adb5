-- Which placements the two lists hold, in the words of document 02, Req 01.
use Rattle.std.specs.Prelude.{◌≡◌, false, List, ℕ, length}
use Rattle.std.proofs.lemmas.List.Edits.{sets}
use Rattle.name_resolver.specs.Placements.{resolved_ends}
use Rattle.panel_tables.specs.declared.Grid.{Grid}
use Rattle.panel_tables.specs.Axes.{grid_in}
use Rattle.panel_tables.specs.Regions.{axis_words_in}
use Rattle.axis_tables.specs.Reads.{inner_in}
use Rattle.line_positions.specs.Positions.{Within}
use Rattle.panel_positions.specs.Cursor.{records_on, pixels}
use Rattle.placement_hits.specs.Hits.{LinesInside, LineBetween, InOrder}
use Rattle.panel_hits.specs.declared.AxisSpan.{AxisSpan}
use Rattle.panel_hits.specs.declared.Around.{Around}
use Rattle.panel_hits.specs.Settled.{Lent, settled, counts_in}
use Rattle.panel_hits.specs.Lists.{placements_within, placements_around}

-- the line at place k of an axis lies within the span, "ends included": at the f32 running sum of the records before it
abbrev pub InsideSpan : Grid → List ℕ → List ℕ → AxisSpan → ℕ → Type 0
InsideSpan g words items s k =
    Within (inner_in (grid_in g s.axis).space) (records_on (grid_in g s.axis) (axis_words_in s.axis words) items) (pixels s.bits.low) (pixels s.bits.high) k

-- placement i, as settled, is one of the axis and no cell's half, "with both lines within a pixel span"
pub record InSpan (g : Grid) (words : List ℕ) (l : Lent) (items : List ℕ) (s : AxisSpan) (i : ℕ) : Type 0 where
  pub axis : (settled g l i).axis ≡ s.axis
  pub place : (settled g l i).cell ≡ false
  pub lines : LinesInside (counts_in g s.axis) (InsideSpan g words items s) (resolved_ends (settled g l i).line)

-- placement i, as settled, is one of the axis and no cell's half, "with a given grid line strictly between their own"
pub record AroundLine (g : Grid) (l : Lent) (s : Around) (i : ℕ) : Type 0 where
  pub axis : (settled g l i).axis ≡ s.axis
  pub place : (settled g l i).cell ≡ false
  pub lines : LineBetween (counts_in g s.axis) s.line (resolved_ends (settled g l i).line)

-- what a call writes where it refuses nothing: a list of just these, from the first place on
pub record HitsTheorem (g : Grid) (words : List ℕ) (l : Lent) (items : List ℕ) : Type 0 where
  pub within : (s : AxisSpan) (hits : List ℕ) → (placements_within g words l items s hits).answer.number ≡ 0
      → (list : List ℕ) × InOrder g.placements (InSpan g words l items s) list
      × (placements_within g words l items s hits ≡ record { answer = record { number = 0; count = length list }; hits = sets hits 0 list })
  pub around : (s : Around) (hits : List ℕ) → (placements_around g words l items s hits).answer.number ≡ 0
      → (list : List ℕ) × InOrder g.placements (AroundLine g l s) list
      × (placements_around g words l items s hits ≡ record { answer = record { number = 0; count = length list }; hits = sets hits 0 list })
