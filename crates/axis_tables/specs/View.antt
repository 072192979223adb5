-- One axis of a panel as lists, in the words of document 01's panel sheet, and what each record does to it.
use Rattle.std.specs.Prelude.{ℕ, ◌+◌, List, [], ◌∷◌, ◌++◌, map, Bool, true, cond, eqb, leb, ltb, length, set, replicate}
use Rattle.sizing.specs.Words.{min_max_of}
use Rattle.sizing.specs.declared.MinMax.{MinMax}
use Rattle.template_rules.specs.declared.RepetitionCount.TheVariants.{Single}
use Rattle.template_rules.specs.Template.{Component, count_of}
use Rattle.axis_tables.specs.Runs.{bytes_of}

-- the sizes of a track, each a word of layer 2: its kind times 2^32 and the bits of its f32
pub record Sizes : Type 0 where
  pub min : ℕ
  pub max : ℕ

-- what a `name` or a `track` line writes
pub data Piece : Type 0 where
  name : List ℕ → Piece
  track : Sizes → Piece

-- from a `repeat` line to its `end`; kinds as in a component's word: 1 counted, 2 `fill`, 3 `fit`
pub record Repeat : Type 0 where
  pub kind : ℕ
  pub number : ℕ
  pub pieces : List Piece

pub data Item : Type 0 where
  single : Piece → Item
  repeat : Repeat → Item

-- the repeat that has no `end` yet
pub data Unended : Type 0 where
  none : Unended
  inside : Repeat → Unended

-- the `axis` line: whether there was one, whether it has an inner size, the bits of it, 0 `max` or 1 `min`, the gap's word
pub record AxisLine : Type 0 where
  pub seen : ℕ
  pub definite : ℕ
  pub inner : ℕ
  pub rule : ℕ
  pub gap : ℕ

pub record AxisView : Type 0 where
  pub line : AxisLine
  pub template : List Item
  pub unended : Unended
  pub spares : List Sizes
  pub negative : ℕ
  pub positive : ℕ
  -- a byte for each track index, 1 where an `item` line names it
  pub marks : List ℕ
  -- the largest area end - 1, 0 without areas
  pub areas : ℕ

-- ---- what the lines say together

-- the template with the repeat that has no end
abbrev pub written : List Item → Unended → List Item
written is none = is
written is (inside r) = is ++ (repeat r ∷ [])

abbrev pub pieces_of : Item → List Piece
pieces_of (single p) = p ∷ []
pieces_of (repeat r) = r.pieces

abbrev pub tracks_in : List Piece → List Sizes
tracks_in [] = []
tracks_in (name n ∷ ps) = tracks_in ps
tracks_in (track t ∷ ps) = t ∷ tracks_in ps

-- all tracks of a template, in order
abbrev pub tracks_of : List Item → List Sizes
tracks_of [] = []
tracks_of (i ∷ is) = tracks_in (pieces_of i) ++ tracks_of is

abbrev pub sizes_of : Sizes → MinMax
sizes_of t = min_max_of t.min t.max

-- the components of layer 3: a single track, or a repeat
abbrev pub components_of : List Item → List Component
components_of [] = []
components_of (single (name n) ∷ is) = components_of is
components_of (single (track t) ∷ is) = record { count = Single; tracks = sizes_of t ∷ [] } ∷ components_of is
components_of (repeat r ∷ is) = record { count = count_of r.kind r.number; tracks = map sizes_of (tracks_in r.pieces) } ∷ components_of is

-- a name: the component that it stands before or in, and its place: 0 outside a repeat, i + 1 after i of the repeat's tracks
pub record NameRecord : Type 0 where
  pub component : ℕ
  pub place : ℕ
  pub name : List ℕ

abbrev pub names_in : ℕ → ℕ → List Piece → List NameRecord
names_in c p [] = []
names_in c p (name n ∷ ps) = record { component = c; place = p; name = n } ∷ names_in c p ps
names_in c p (track t ∷ ps) = names_in c (p + 1) ps

-- the names of items of which the first component is number c
abbrev pub names_from : ℕ → List Item → List NameRecord
names_from c [] = []
names_from c (single (name n) ∷ is) = record { component = c; place = 0; name = n } ∷ names_from c is
names_from c (single (track t) ∷ is) = names_from (c + 1) is
names_from c (repeat r ∷ is) = names_in c 1 r.pieces ++ names_from (c + 1) is

abbrev pub names_of : List Item → List NameRecord
names_of is = names_from 0 is

abbrev pub name_of : NameRecord → List ℕ
name_of n = n.name

abbrev pub axis_names : AxisView → List NameRecord
axis_names v = names_of (written v.template v.unended)

abbrev pub axis_bytes : AxisView → List ℕ
axis_bytes v = bytes_of name_of (axis_names v)

-- ---- an axis of which nothing is written: "no `axis` record: no size, max, zero gap"
abbrev pub no_line : AxisLine
no_line = record { seen = 0; definite = 0; inner = 0; rule = 0; gap = 0 }

unfoldable pub empty_axis : AxisView
empty_axis = record { line = no_line; template = []; unended = none; spares = []; negative = 0; positive = 0; marks = replicate 30000 0; areas = 0 }

-- ---- what a record does: a refusal's number, 0 where there is none, and the axis after it
pub record AxisOutcome : Type 0 where
  pub fault : ℕ
  pub axis : AxisView

abbrev pub refused : ℕ → AxisView → AxisOutcome
refused n v = record { fault = n; axis = v }

abbrev pub accepted : AxisView → AxisOutcome
accepted v = refused 0 v

abbrev pub with_template : AxisView → List Item → Unended → AxisView
with_template v is u = record { line = v.line; template = is; unended = u; spares = v.spares; negative = v.negative; positive = v.positive; marks = v.marks; areas = v.areas }

-- one item more
abbrev pub with_item : AxisView → Item → AxisView
with_item v i = with_template v (v.template ++ (i ∷ [])) none

abbrev pub more_pieces : Repeat → Piece → Repeat
more_pieces r p = record { kind = r.kind; number = r.number; pieces = r.pieces ++ (p ∷ []) }

-- one piece more in the repeat that has no end
abbrev pub with_piece : AxisView → Repeat → Piece → AxisView
with_piece v r p = with_template v v.template (inside (more_pieces r p))

-- a 65th component is 8, and so is a 33rd track in a repeat
abbrev pub track_by : AxisView → Unended → Sizes → AxisOutcome
track_by v none t = cond (ltb 63 (length (components_of v.template))) (refused 8 v) (accepted (with_item v (single (track t))))
track_by v (inside r) t = cond (ltb 31 (length (tracks_in r.pieces))) (refused 8 v) (accepted (with_piece v r (track t)))

unfoldable pub track_step : AxisView → ℕ → ℕ → AxisOutcome
track_step v min max = track_by v v.unended (record { min = min; max = max })

-- a `repeat` line's kind is 0 for a count, 1 for `fill`, 2 for `fit`
abbrev pub repeat_kind : ℕ → ℕ
repeat_kind kind = cond (eqb kind 0) 1 (cond (eqb kind 1) 2 3)

-- unread inside a repeat; a count above 65,535 is 4; a 65th component is 8
abbrev pub repeat_by : AxisView → Unended → ℕ → ℕ → AxisOutcome
repeat_by v (inside r) kind number = refused 1 v
repeat_by v none kind number =
    cond (ltb 65535 number) (refused 4 v)
    (cond (ltb 63 (length (components_of v.template))) (refused 8 v)
    (accepted (with_template v v.template (inside (record { kind = repeat_kind kind; number = number; pieces = [] })))))

unfoldable pub repeat_step : AxisView → ℕ → ℕ → AxisOutcome
repeat_step v kind number = repeat_by v v.unended kind number

-- unread where no repeat is open
abbrev pub end_by : AxisView → Unended → AxisOutcome
end_by v none = refused 1 v
end_by v (inside r) = accepted (with_item v (repeat r))

unfoldable pub end_step : AxisView → AxisOutcome
end_step v = end_by v v.unended

-- no room for a name of that length in a table of `most` names and a store of `room` bytes, of which so many are held; a name has at most 32 bytes
abbrev pub no_room : ℕ → ℕ → ℕ → ℕ → ℕ → Bool
no_room most room names used length = cond (ltb 32 length) true (cond (leb most names) true (ltb room (used + length)))

-- a fault beside a name of that length: "name: 1 to 32 bytes" is row 2, and the lowest number is answered
abbrev pub named_fault : ℕ → ℕ → ℕ
named_fault length fault = cond (ltb 32 length) 2 fault

-- a name outside a repeat, or in one
abbrev pub with_name : AxisView → Unended → List ℕ → AxisView
with_name v none n = with_item v (single (name n))
with_name v (inside r) n = with_piece v r (name n)

-- 4,096 names and 32,768 bytes an axis; "names join the set before the next track or repeat"; `name` inside a repeat joins its sets
unfoldable pub name_step : AxisView → List ℕ → AxisOutcome
name_step v n =
    cond (no_room 4096 32768 (length (axis_names v)) (length (axis_bytes v)) (length n)) (refused (named_fault (length n) 8) v)
    (accepted (with_name v v.unended n))

-- at most 64 spare sizes an axis
unfoldable pub spare_step : AxisView → ℕ → ℕ → AxisOutcome
spare_step v min max =
    cond (ltb 63 (length v.spares)) (refused 8 v)
    (accepted (record {
      line = v.line;
      template = v.template;
      unended = v.unended;
      spares = v.spares ++ (record { min = min; max = max } ∷ []);
      negative = v.negative;
      positive = v.positive;
      marks = v.marks;
      areas = v.areas;
    }))

-- item index 0 to 29,999
unfoldable pub item_step : AxisView → ℕ → AxisOutcome
item_step v i =
    cond (ltb 29999 i) (refused 4 v)
    (accepted (record {
      line = v.line;
      template = v.template;
      unended = v.unended;
      spares = v.spares;
      negative = v.negative;
      positive = v.positive;
      marks = set v.marks i 1;
      areas = v.areas;
    }))

-- implicit counts: the last record holds
unfoldable pub extra_step : AxisView → ℕ → ℕ → AxisOutcome
extra_step v negative positive =
    accepted (record {
      line = v.line;
      template = v.template;
      unended = v.unended;
      spares = v.spares;
      negative = negative;
      positive = positive;
      marks = v.marks;
      areas = v.areas;
    })

unfoldable pub axis_step : AxisView → ℕ → ℕ → ℕ → ℕ → AxisOutcome
axis_step v definite inner rule gap =
    accepted (record {
      line = record { seen = 1; definite = definite; inner = inner; rule = rule; gap = gap };
      template = v.template;
      unended = v.unended;
      spares = v.spares;
      negative = v.negative;
      positive = v.positive;
      marks = v.marks;
      areas = v.areas;
    })
