-- The table of the placements: two words each, start and end, then the lines of the cells, and the bytes of their names; what `place` and
-- `cell` do to them, whatever they hold.
use Rattle.std.specs.Prelude.{ℕ, ◌+◌, ◌-◌, ◌*◌, ◌/◌, ◌%◌, List, Bool, true, false, cond, ◌||◌, eqb, leb, ltb, length, get_or, set}
use Rattle.coordinates.specs.declared.axis.Axis.{Axis}
use Rattle.coordinates.specs.declared.axis.Axis.TheVariants.{Column, Row}
use Rattle.coordinates.specs.Axes.{axis_number, axis_of}
use Rattle.axis_tables.specs.Runs.{part_of, put_bytes}
use Rattle.panel_tables.specs.declared.Panel.{Panel}
use Rattle.panel_tables.specs.declared.PlacementEnd.{PlacementEnd}
use Rattle.panel_tables.specs.declared.EndPlace.{EndPlace}
use Rattle.panel_tables.specs.declared.PlacementPlace.{PlacementPlace}
use Rattle.panel_tables.specs.View.{End, Placement, most_items, ends_fault, lower}
use Rattle.panel_tables.specs.Numbers.{count_of, number_of}
use Rattle.panel_tables.specs.Areas.{InAreas, put}

-- `named` and `nspan` use their name
abbrev pub uses_name : ℕ → Bool
uses_name kind = eqb kind 2 || eqb kind 4

-- the word of an end: its kind, its number's count times 2^3, where its name's bytes lie (offset times 2^32, length times 2^48), an axis times 2^56
unfoldable pub end_word : ℕ → PlacementEnd → ℕ → ℕ → ℕ
end_word axis e offset length =
    e.kind % 8 + count_of e.number % 131072 * 8 + offset % 65536 * 4294967296 + length % 256 * 281474976710656 + axis % 256 * 72057594037927936

unfoldable pub end_of : ℕ → EndPlace
end_of w =
    record {
      end = record { kind = w % 8; number = number_of (w / 8 % 131072) };
      offset = w / 4294967296 % 65536;
      length = w / 281474976710656 % 256;
    }

-- the axis of a start word: 0 and 1, and 2 more where it is a cell's half
abbrev pub axis_mark : Axis → Bool → ℕ
axis_mark axis cell = axis_number axis + cond cell 2 0

abbrev pub word_axis : ℕ → Axis
word_axis w = axis_of (w / 72057594037927936 % 2)

abbrev pub word_cell : ℕ → Bool
word_cell w = eqb (w / 72057594037927936 / 2 % 2) 1

-- two placements for each cell
abbrev pub most_placements : ℕ
most_placements = 512

-- where the lines of the cells start
abbrev pub first_line : ℕ
first_line = 1024

-- ---- a placement's place of the table; past the end a word is 0
abbrev pub start_word : List ℕ → ℕ → ℕ
start_word words i = cond (ltb i most_placements) (get_or words (i + i) 0) 0

abbrev pub finish_word : List ℕ → ℕ → ℕ
finish_word words i = cond (ltb i most_placements) (get_or words (i + i + 1) 0) 0

unfoldable pub placement_at : List ℕ → ℕ → PlacementPlace
placement_at words i =
    record {
      axis = word_axis (start_word words i);
      cell = word_cell (start_word words i);
      start = end_of (start_word words i);
      end = end_of (finish_word words i);
    }

-- the sheet's line of cell k
unfoldable pub cell_line : List ℕ → ℕ → ℕ
cell_line words k = cond (ltb k most_items) (get_or words (first_line + k) 0 % 4294967296) 0

-- an end with its name
abbrev pub end_in : List ℕ → EndPlace → End
end_in bytes e = record { end = e.end; name = part_of bytes e.offset e.length }

abbrev pub placement_in : List ℕ → List ℕ → ℕ → Placement
placement_in words bytes i =
    record {
      axis = (placement_at words i).axis;
      cell = (placement_at words i).cell;
      start = end_in bytes (placement_at words i).start;
      end = end_in bytes (placement_at words i).end;
    }

-- an end with the name that is given with it
abbrev pub end_named : PlacementEnd → List ℕ → End
end_named e name = record { end = e; name = name }

-- ---- the panel after one placement more, with so many bytes of names in all, and after one line of a cell more
abbrev pub with_half : Panel → ℕ → Panel
with_half p used =
    record {
      grid = record { columns = p.grid.columns; rows = p.grid.rows; areas = p.grid.areas; placements = p.grid.placements + 1; cells = p.grid.cells };
      room = record { columns = p.room.columns; rows = p.room.rows; areabytes = p.room.areabytes; placementbytes = used };
    }

abbrev pub with_line : Panel → Panel
with_line p =
    record {
      grid = record { columns = p.grid.columns; rows = p.grid.rows; areas = p.grid.areas; placements = p.grid.placements; cells = p.grid.cells + 1 };
      room = p.room;
    }

-- ---- what is written

abbrev pub names_length : End → End → ℕ
names_length s e = length s.name + length e.name

-- a placement with that mark, after those held
abbrev pub write_half : ℕ → Panel → List ℕ → List ℕ → End → End → InAreas
write_half mark p w b s e =
    record {
      answer = put 0 (with_half p (p.room.placementbytes + length s.name + length e.name));
      words =
          set (set w (p.grid.placements + p.grid.placements) (end_word mark s.end p.room.placementbytes (length s.name)))
          (p.grid.placements + p.grid.placements + 1) (end_word 0 e.end (p.room.placementbytes + length s.name) (length e.name));
      bytes = put_bytes (put_bytes b p.room.placementbytes s.name) (p.room.placementbytes + length s.name) e.name;
    }

-- one more after it
abbrev pub then_half : ℕ → InAreas → End → End → InAreas
then_half mark x s e = write_half mark x.answer.panel x.words x.bytes s e

-- the line of a cell
abbrev pub then_line : InAreas → ℕ → InAreas
then_line x line =
    record { answer = put 0 (with_line x.answer.panel); words = set x.words (first_line + x.answer.panel.grid.cells) line; bytes = x.bytes }

-- ---- `place` and `cell`

-- a 257th of both, or no room for names of so many bytes
unfoldable pub no_item : Panel → ℕ → Bool
no_item p bytes =
    cond (leb most_items (p.grid.placements - p.grid.cells)) true
    (cond (leb most_items p.grid.cells) true (ltb 32768 (p.room.placementbytes + bytes)))

-- the fault of the ends, else 8 where there is no room
unfoldable pub item_fault : Panel → ℕ → ℕ → ℕ
item_fault p fault bytes = cond (eqb fault 0) (cond (no_item p bytes) 8 0) fault

-- the tables where there is no fault, else the refusal
abbrev pub put_item : ℕ → Panel → List ℕ → List ℕ → InAreas → InAreas
put_item fault p w b after = cond (eqb fault 0) after (record { answer = put fault p; words = w; bytes = b })

-- a name has at most 32 bytes
unfoldable pub put_placement : Panel → List ℕ → List ℕ → Axis → End → End → InAreas
put_placement p w b axis s e = put_item (item_fault p (ends_fault s e) 64) p w b (write_half (axis_mark axis false) p w b s e)

abbrev pub cell_fault : End → End → End → End → ℕ
cell_fault column_start column_end row_start row_end = lower (ends_fault column_start column_end) (ends_fault row_start row_end)

-- its columns, its rows, and its line
abbrev pub write_cell : Panel → List ℕ → List ℕ → ℕ → End → End → End → End → InAreas
write_cell p w b line column_start column_end row_start row_end =
    then_line (then_half (axis_mark Row true) (write_half (axis_mark Column true) p w b column_start column_end) row_start row_end) line

unfoldable pub put_cell : Panel → List ℕ → List ℕ → ℕ → End → End → End → End → InAreas
put_cell p w b line column_start column_end row_start row_end =
    put_item (item_fault p (cell_fault column_start column_end row_start row_end) 128) p w b
    (write_cell p w b line column_start column_end row_start row_end)
