-- What one line says: a record, or the first of its faults (document 01, panel sheet).
use Rattle.std.specs.Prelude.{ℕ, List, Bool, true, false, cond, eqb, ltb, leb, length, drop}
use Rattle.text.specs.Split.{index}
use Rattle.sheet_forms.specs.Said.{Record}
use Rattle.sheet_forms.specs.Said.{Fault, Axis, Area, Name, Track, Repeat, End, Spare, Extra, Item, Place, PictureRow, Cell}
use Rattle.sheet_forms.specs.Said.{RepeatRecord}
use Rattle.sheet_forms.specs.Answers.{Field}
use Rattle.sheet_forms.specs.Answers.{AxisField}
use Rattle.sheet_forms.specs.Answers.{SizeField}
use Rattle.sheet_forms.specs.Answers.{InnerField}
use Rattle.sheet_forms.specs.declared.Position.TheVariants.{Minimum, Maximum, Gap}
use Rattle.sheet_forms.specs.Answers.{EndField}
use Rattle.sheet_forms.specs.Words.{at, kind_words}
use Rattle.sheet_forms.specs.Faults.{first_of}
use Rattle.sheet_forms.specs.Fields.{axis_of, rule_of, count_of, repetition_of, name_fault, row_fault}
use Rattle.sheet_forms.specs.Sizes.{size_of, inner_of}
use Rattle.sheet_forms.specs.Ends.{end_of, cell_end_of}

-- the record unless a field has a fault
abbrev pub unless : ℕ → Record → Record
unless n r = cond (eqb n 0) r (Fault n)

-- a line of n fields
abbrev pub of_fields : ℕ → List (List ℕ) → Record → Record
of_fields n fs r = cond (eqb (length fs) n) r (Fault 1)

abbrev pub made_axis : AxisField → InnerField → Field → SizeField → Record
made_axis a i r g =
    unless (first_of a.fault (first_of i.fault (first_of r.fault g.fault)))
    (Axis (record { axis = a.axis; definite = i.definite; inner = i.bits; rule = r.value; gap = g.word }))

-- `axis`, axis, inner size or `-`, `max` or `min`, gap kind, gap
unfoldable pub axis_line : List (List ℕ) → Record
axis_line fs = of_fields 6 fs (made_axis (axis_of (at fs 1)) (inner_of (at fs 2)) (rule_of (at fs 3)) (size_of Gap (at fs 4) (at fs 5)))

-- an area start not below its end is 5
abbrev pub edges_of : ℕ → ℕ → ℕ → ℕ → Record
edges_of rs re cs ce =
    cond (leb re rs) (Fault 5)
    (cond (leb ce cs) (Fault 5) (Area (record { rowstart = rs; rowend = re; columnstart = cs; columnend = ce })))

abbrev pub made_area : ℕ → Field → Field → Field → Field → Record
made_area name a b c d =
    unless (first_of name (first_of a.fault (first_of b.fault (first_of c.fault d.fault))))
    (edges_of a.value b.value c.value d.value)

-- `area`, name, row start, row end, column start, column end; edges are 1 to 10,001
unfoldable pub area_line : List (List ℕ) → Record
area_line fs =
    of_fields 6 fs
    (made_area (name_fault (at fs 1)) (count_of 1 10001 (at fs 2)) (count_of 1 10001 (at fs 3)) (count_of 1 10001 (at fs 4)) (count_of 1 10001 (at fs 5)))

abbrev pub made_name : AxisField → ℕ → Record
made_name a name = unless (first_of a.fault name) (Name a.axis)

-- `name`, axis, name
unfoldable pub name_line : List (List ℕ) → Record
name_line fs = of_fields 3 fs (made_name (axis_of (at fs 1)) (name_fault (at fs 2)))

abbrev pub made_sizes : Bool → AxisField → SizeField → SizeField → Record
made_sizes spare a min max =
    unless (first_of a.fault (first_of min.fault max.fault))
    (cond spare (Spare a.axis min.word max.word) (Track a.axis min.word max.word))

-- `track` or `spare`, axis, minimum kind, value, maximum kind, value
unfoldable pub sizes_line : Bool → List (List ℕ) → Record
sizes_line spare fs = of_fields 6 fs (made_sizes spare (axis_of (at fs 1)) (size_of Minimum (at fs 2) (at fs 3)) (size_of Maximum (at fs 4) (at fs 5)))

-- a count outside its range leaves the record its axis and says 4 in it
abbrev pub made_repeat : AxisField → RepeatRecord → Record
made_repeat a n = unless a.fault (cond (eqb n.fault 1) (Fault 1) (Repeat a.axis n))

-- `repeat`, axis, count or `fill` or `fit`
unfoldable pub repeat_line : List (List ℕ) → Record
repeat_line fs = of_fields 3 fs (made_repeat (axis_of (at fs 1)) (repetition_of (at fs 2)))

abbrev pub made_end : AxisField → Record
made_end a = unless a.fault (End a.axis)

-- `end`, axis
unfoldable pub end_line : List (List ℕ) → Record
end_line fs = of_fields 2 fs (made_end (axis_of (at fs 1)))

abbrev pub made_extra : AxisField → Field → Field → Record
made_extra a n p = unless (first_of a.fault (first_of n.fault p.fault)) (Extra a.axis n.value p.value)

-- `extra`, axis, negative and positive implicit counts, 0 to 10,000 each
unfoldable pub extra_line : List (List ℕ) → Record
extra_line fs = of_fields 4 fs (made_extra (axis_of (at fs 1)) (count_of 0 10000 (at fs 2)) (count_of 0 10000 (at fs 3)))

abbrev pub made_item : AxisField → Field → Record
made_item a i = unless (first_of a.fault i.fault) (Item a.axis i.value)

-- `item`, axis, track index, 0 to 29,999
unfoldable pub item_line : List (List ℕ) → Record
item_line fs = of_fields 3 fs (made_item (axis_of (at fs 1)) (count_of 0 29999 (at fs 2)))

abbrev pub made_place : AxisField → EndField → EndField → Record
made_place a s e = unless (first_of a.fault (first_of s.fault e.fault)) (Place a.axis s.end e.end)

-- `place`, axis, then kind, name, number for the start and again for the end
unfoldable pub place_line : List (List ℕ) → Record
place_line fs = of_fields 8 fs (made_place (axis_of (at fs 1)) (end_of (at fs 2) (at fs 3) (at fs 4)) (end_of (at fs 5) (at fs 6) (at fs 7)))

-- `row`, then one or more words
unfoldable pub row_line : List (List ℕ) → Record
row_line fs = cond (ltb (length fs) 2) (Fault 1) (unless (row_fault (drop 1 fs)) (PictureRow (length (drop 1 fs))))

abbrev pub made_cell : EndField → EndField → EndField → EndField → Record
made_cell cs ce rs re = unless (first_of cs.fault (first_of ce.fault (first_of rs.fault re.fault))) (Cell cs.end ce.end rs.end re.end)

-- `cell`, then kind, name, number for the start of its columns, for their end, for the start of its rows and for their end
unfoldable pub cell_line : List (List ℕ) → Record
cell_line fs =
    of_fields 13 fs
    (made_cell (cell_end_of (at fs 1) (at fs 2) (at fs 3)) (cell_end_of (at fs 4) (at fs 5) (at fs 6)) (cell_end_of (at fs 7) (at fs 8) (at fs 9)) (cell_end_of (at fs 10) (at fs 11) (at fs 12)))

-- a line of a kind with a fixed number of fields, by the number of the kind's word; any other line is unread
unfoldable pub fixed_kind : ℕ → List (List ℕ) → Record
fixed_kind k fs =
    cond (eqb k 0) (axis_line fs)
    (cond (eqb k 1) (area_line fs)
    (cond (eqb k 2) (name_line fs)
    (cond (eqb k 3) (sizes_line false fs)
    (cond (eqb k 4) (repeat_line fs)
    (cond (eqb k 5) (end_line fs)
    (cond (eqb k 6) (sizes_line true fs)
    (cond (eqb k 7) (extra_line fs)
    (cond (eqb k 8) (item_line fs)
    (cond (eqb k 9) (place_line fs)
    (cond (eqb k 11) (cell_line fs) (Fault 1)))))))))))

unfoldable pub by_kind : ℕ → List (List ℕ) → Record
by_kind k fs = cond (eqb k 10) (row_line fs) (fixed_kind k fs)

unfoldable pub record_of : List (List ℕ) → Record
record_of fs = by_kind (index (at fs 0) kind_words) fs

-- the fault that a record says; that of a `repeat` is inside it
abbrev pub fault_of : Record → ℕ
fault_of (Fault n) = n
fault_of (Axis a) = 0
fault_of (Area a) = 0
fault_of (Name a) = 0
fault_of (Track a min max) = 0
fault_of (Repeat a n) = n.fault
fault_of (End a) = 0
fault_of (Spare a min max) = 0
fault_of (Extra a n p) = 0
fault_of (Item a i) = 0
fault_of (Place a s e) = 0
fault_of (PictureRow n) = 0
fault_of (Cell cs ce rs re) = 0
