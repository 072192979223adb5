-- The table of the drawn areas: 64 words of edges, 64 words of names, and the bytes of these; what `area` does to them, whatever they hold.
use Rattle.std.specs.Prelude.{ℕ, zero, suc, ◌+◌, ◌-◌, ◌*◌, ◌/◌, ◌%◌, max, min, List, Bool, true, false, cond, ltb, length, get_or, set, Result, Ok, Err}
use Rattle.coordinates.specs.declared.axis.Axis.{Axis}
use Rattle.coordinates.specs.declared.axis.Axis.TheVariants.{Column, Row}
use Rattle.coordinates.specs.declared.refusal.Fault.{Fault}
use Rattle.coordinates.specs.Refusals.{number_of}
use Rattle.text.specs.Split.{same}
use Rattle.axis_tables.specs.declared.AxisRoom.{AxisRoom}
use Rattle.axis_tables.specs.Runs.{part_of, put_bytes}
use Rattle.axis_tables.specs.View.{no_room, named_fault}
use Rattle.name_entries.specs.Places.{name_word}
use Rattle.axis_tables.specs.Store.{with_areas}
use Rattle.name_entries.specs.Places.{name_place}
use Rattle.panel_tables.specs.declared.Room.{Room}
use Rattle.panel_tables.specs.declared.Panel.{Panel}
use Rattle.panel_tables.specs.declared.AreaEdges.{AreaEdges}
use Rattle.coordinates.specs.Types.{LinePair}
use Rattle.panel_tables.specs.declared.AreaPlace.{AreaPlace}
use Rattle.panel_tables.specs.View.{Area, edges_outside}

-- the word of edges: row start, row end times 2^16, column start times 2^32, column end times 2^48
unfoldable pub edges_word : AreaEdges → ℕ
edges_word e = e.rowstart % 65536 + e.rowend % 65536 * 65536 + e.columnstart % 65536 * 4294967296 + e.columnend % 65536 * 281474976710656

unfoldable pub edges_of : ℕ → AreaEdges
edges_of w = record { rowstart = w % 65536; rowend = w / 65536 % 65536; columnstart = w / 4294967296 % 65536; columnend = w / 281474976710656 }

-- ---- an area's place of the table; past the end a word is 0
abbrev pub word_of : List ℕ → ℕ → ℕ → ℕ
word_of words start i = cond (ltb i 64) (get_or words (start + i) 0) 0

unfoldable pub area_at : List ℕ → ℕ → AreaPlace
area_at words i =
    record { edges = edges_of (word_of words 0 i); offset = (name_place (word_of words 64 i)).offset; length = (name_place (word_of words 64 i)).length }

-- the edges of an area in an axis
abbrev pub edges_in : AreaEdges → Axis → LinePair
edges_in e Column = record { start = e.columnstart; end = e.columnend }
edges_in e Row = record { start = e.rowstart; end = e.rowend }

abbrev pub area_name : List ℕ → List ℕ → ℕ → List ℕ
area_name words bytes i = part_of bytes (area_at words i).offset (area_at words i).length

-- an area with its name
abbrev pub area_in : List ℕ → List ℕ → ℕ → Area
area_in words bytes i = record { name = area_name words bytes i; edges = (area_at words i).edges }

-- whether one of the first k areas has that name
unfoldable pub named_in : List ℕ → List ℕ → List ℕ → ℕ → Bool
named_in words bytes n zero = false
named_in words bytes n (suc k) = cond (same (area_name words bytes k) n) true (named_in words bytes n k)

-- at most 64
abbrev pub has_area_in : ℕ → List ℕ → List ℕ → List ℕ → Bool
has_area_in areas words bytes n = named_in words bytes n (min areas 64)

-- ---- `area`

-- the answer of a record: its refusal's number, 0 where there is none, and the panel after it, on a refusal as it came
pub record PanelPut : Type 0 where
  pub fault : ℕ
  pub panel : Panel

pub record InAreas : Type 0 where
  pub answer : PanelPut
  pub words : List ℕ
  pub bytes : List ℕ

abbrev pub raised_to : AxisRoom → ℕ → AxisRoom
raised_to r end = with_areas r (max r.areas (end - 1))

-- both axes with the tracks that an area spans
abbrev pub raised : Room → AreaEdges → Room
raised r e =
    record {
      columns = raised_to r.columns e.columnend;
      rows = raised_to r.rows e.rowend;
      areabytes = r.areabytes;
      placementbytes = r.placementbytes;
    }

abbrev pub with_area : Panel → AreaEdges → ℕ → Panel
with_area p e length =
    record {
      grid = record { columns = p.grid.columns; rows = p.grid.rows; areas = p.grid.areas + 1; placements = p.grid.placements; cells = p.grid.cells };
      room = record {
        columns = (raised p.room e).columns;
        rows = (raised p.room e).rows;
        areabytes = p.room.areabytes + length;
        placementbytes = p.room.placementbytes;
      };
    }

abbrev pub put : ℕ → Panel → PanelPut
put fault p = record { fault = fault; panel = p }

-- the number and the panel of what a call answers, of the panel as it came
abbrev pub answered_panel : Panel → Result Panel Fault → PanelPut
answered_panel p (Ok after) = put 0 after
answered_panel p (Err fault) = put (number_of fault) p

unfoldable pub put_area : Panel → List ℕ → List ℕ → List ℕ → AreaEdges → InAreas
put_area p w b n e =
    cond (edges_outside e) (record { answer = put (named_fault (length n) 4) p; words = w; bytes = b })
    (cond (no_room 64 2048 p.grid.areas p.room.areabytes (length n)) (record { answer = put (named_fault (length n) 8) p; words = w; bytes = b })
    (record {
      answer = put 0 (with_area p e (length n));
      words = set (set w p.grid.areas (edges_word e)) (64 + p.grid.areas) (name_word 0 0 p.room.areabytes (length n));
      bytes = put_bytes b p.room.areabytes n;
    }))
