-- What the state and the tables of an axis hold for a view: each region of the words is what the view lists, and zeros.
use Rattle.std.specs.Prelude.{ℕ, ◌+◌, List, [], ◌∷◌, map, Bool, true, false, cond, eqb, length, Some, None}
use Rattle.axis_tables.specs.declared.AxisGrid.{AxisGrid}
use Rattle.axis_tables.specs.declared.AxisRoom.{AxisRoom}
use Rattle.axis_tables.specs.declared.AxisState.{AxisState}
use Rattle.axis_tables.specs.Readings.{AxisReading}
use Rattle.axis_tables.specs.Lay.{pad, Region, region, lay}
use Rattle.axis_tables.specs.Runs.{words_from}
use Rattle.axis_tables.specs.View.{Sizes, name, track, Item, single, repeat, Unended, none, inside, AxisView, AxisOutcome, written, tracks_in, tracks_of, components_of, NameRecord, name_of, axis_names, axis_bytes}
use Rattle.template_rules.specs.Template.{component_word}
use Rattle.name_entries.specs.Places.{name_word}
use Rattle.axis_tables.specs.Store.{zero_template, AxisPut, put, InWords, InMarks, InNames}

-- the words of the components of items whose first track is number n
abbrev pub components_from : ℕ → List Item → List ℕ
components_from n [] = []
components_from n (single (name m) ∷ is) = components_from n is
components_from n (single (track t) ∷ is) = component_word 0 0 n 1 ∷ components_from (n + 1) is
components_from n (repeat r ∷ is) = component_word r.number r.kind n (length (tracks_in r.pieces)) ∷ components_from (n + length (tracks_in r.pieces)) is

abbrev pub min_of : Sizes → ℕ
min_of t = t.min

abbrev pub max_of : Sizes → ℕ
max_of t = t.max

abbrev pub record_word : NameRecord → ℕ → ℕ
record_word n offset = name_word n.component n.place offset (length n.name)

abbrev pub axis_tracks : AxisView → List Sizes
axis_tracks v = tracks_of (written v.template v.unended)

-- the regions, with the written-out name entries, of which there are none while a sheet is read
unfoldable pub regions_of : AxisView → List ℕ → List Region
regions_of v es =
    region 64 (components_from 0 v.template)
    ∷ region 2048 (map min_of (axis_tracks v))
    ∷ region 2048 (map max_of (axis_tracks v))
    ∷ region 64 (map min_of v.spares)
    ∷ region 64 (map max_of v.spares)
    ∷ region 4096 (words_from record_word name_of 0 (axis_names v))
    ∷ region 4096 es
    ∷ []

unfoldable pub words_with : AxisView → List ℕ → List ℕ
words_with v es = lay (regions_of v es)

abbrev pub axis_words : AxisView → List ℕ
axis_words v = words_with v []

-- the line-name store
unfoldable pub names_store : AxisView → List ℕ
names_store v = pad 32768 (axis_bytes v)

-- what answers on an axis whose sheet is not yet ended: its template counts from there on
abbrev pub grid_of : AxisView → AxisGrid
grid_of v =
    record {
      space = record { definite = v.line.definite; inner = v.line.inner; rule = v.line.rule; gap = v.line.gap };
      template = zero_template;
      implicit = record { negative = v.negative; positive = v.positive; spares = length v.spares };
      entries = 0;
      size = record { repetitions = 0; explicit = 0 };
    }

-- what edits it
abbrev pub room_of : AxisView → AxisRoom
room_of v =
    record {
      template = record { components = length (components_of v.template); tracks = length (axis_tracks v) };
      names = length (axis_names v);
      used = length (axis_bytes v);
      areas = v.areas;
    }

abbrev pub state_of : AxisView → AxisState
state_of v = record { grid = grid_of v; room = room_of v }

-- 0 where there was no `axis` line
abbrev pub was_seen : ℕ → Bool
was_seen seen = cond (eqb seen 0) false true

abbrev pub repeat_of : ℕ → List Item → Unended → AxisReading
repeat_of seen is none = record { seen = was_seen seen; unended = None }
repeat_of seen is (inside r) =
    record { seen = was_seen seen; unended = Some (record { kind = r.kind; number = r.number; first = length (tracks_of is); length = length (tracks_in r.pieces) }) }

abbrev pub reading_of : AxisView → AxisReading
reading_of v = repeat_of v.line.seen v.template v.unended

-- ---- state and tables together
pub record Held : Type 0 where
  pub answer : AxisPut
  pub words : List ℕ
  pub marks : List ℕ
  pub bytes : List ℕ

-- after a step on the view
unfoldable pub held_of : AxisOutcome → Held
held_of o =
    record {
      answer = put o.fault (state_of o.axis) (reading_of o.axis);
      words = axis_words o.axis;
      marks = o.axis.marks;
      bytes = names_store o.axis;
    }

-- what an operation leaves beside the tables of the view that it does not touch
abbrev pub of_answer : AxisView → AxisPut → Held
of_answer v a = record { answer = a; words = axis_words v; marks = v.marks; bytes = names_store v }

abbrev pub of_words : AxisView → InWords → Held
of_words v x = record { answer = x.answer; words = x.words; marks = v.marks; bytes = names_store v }

abbrev pub of_marks : AxisView → InMarks → Held
of_marks v x = record { answer = x.answer; words = axis_words v; marks = x.marks; bytes = names_store v }

abbrev pub of_names : AxisView → InNames → Held
of_names v x = record { answer = x.answer; words = x.words; marks = v.marks; bytes = x.bytes }
