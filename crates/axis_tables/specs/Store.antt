-- The words of an axis and its small state, and what each record does to them, whatever they hold.
use Rattle.std.specs.Prelude.{ℕ, ◌+◌, List, Bool, true, false, cond, ltb, length, set, Option, Some, None, Result, Ok, Err}
use Rattle.std.proofs.lemmas.List.Edits.{sets}
use Rattle.coordinates.specs.declared.refusal.Fault.{Fault}
use Rattle.coordinates.specs.Refusals.{number_of}
use Rattle.template_rules.specs.Template.{component_word}
use Rattle.name_entries.specs.Places.{name_word}
use Rattle.axis_tables.specs.declared.AxisSpace.{AxisSpace}
use Rattle.axis_tables.specs.declared.TemplateCounts.{TemplateCounts}
use Rattle.axis_tables.specs.declared.ImplicitCounts.{ImplicitCounts}
use Rattle.axis_tables.specs.declared.AxisGrid.{AxisGrid}
use Rattle.axis_tables.specs.declared.AxisRoom.{AxisRoom}
use Rattle.axis_tables.specs.declared.AxisState.{AxisState}
use Rattle.axis_tables.specs.declared.AxisAfter.{AxisAfter}
use Rattle.axis_tables.specs.Readings.{OpenRepeat, AxisReading, axis_reading}
use Rattle.axis_tables.specs.View.{no_room, named_fault, repeat_kind}

-- ---- words

-- where each region of an axis's words starts; components start at 0
abbrev pub minimums : ℕ
minimums = 64

abbrev pub maximums : ℕ
maximums = 2112

abbrev pub spare_minimums_of : ℕ
spare_minimums_of = 4160

abbrev pub spare_maximums_of : ℕ
spare_maximums_of = 4224

abbrev pub names : ℕ
names = 4288

abbrev pub entries : ℕ
entries = 8384

-- ---- the state

abbrev pub zero_template : TemplateCounts
zero_template = record { components = 0; tracks = 0 }

abbrev pub zero_axis_grid : AxisGrid
zero_axis_grid =
    record {
      space = record { definite = 0; inner = 0; rule = 0; gap = 0 };
      template = zero_template;
      implicit = record { negative = 0; positive = 0; spares = 0 };
      entries = 0;
      size = record { repetitions = 0; explicit = 0 };
    }

abbrev pub zero_axis_room : AxisRoom
zero_axis_room = record { template = zero_template; names = 0; used = 0; areas = 0 }

abbrev pub zero_state : AxisState
zero_state = record { grid = zero_axis_grid; room = zero_axis_room }

abbrev pub zero_reading : AxisReading
zero_reading = record { seen = false; unended = None }

-- with one part of it anew
abbrev pub with_room : AxisState → AxisRoom → AxisState
with_room s room = record { grid = s.grid; room = room }

abbrev pub with_grid : AxisState → AxisGrid → AxisState
with_grid s grid = record { grid = grid; room = s.room }

abbrev pub with_template : AxisState → ℕ → ℕ → AxisState
with_template s components tracks =
    with_room s (record { template = record { components = components; tracks = tracks }; names = s.room.names; used = s.room.used; areas = s.room.areas })

abbrev pub with_names : AxisState → ℕ → ℕ → AxisState
with_names s names used = with_room s (record { template = s.room.template; names = names; used = used; areas = s.room.areas })

abbrev pub with_areas : AxisRoom → ℕ → AxisRoom
with_areas r areas = record { template = r.template; names = r.names; used = r.used; areas = areas }

abbrev pub with_space : AxisState → AxisSpace → AxisState
with_space s space =
    with_grid s (record { space = space; template = s.grid.template; implicit = s.grid.implicit; entries = s.grid.entries; size = s.grid.size })

abbrev pub with_implicit : AxisState → ImplicitCounts → AxisState
with_implicit s implicit =
    with_grid s (record { space = s.grid.space; template = s.grid.template; implicit = implicit; entries = s.grid.entries; size = s.grid.size })

abbrev pub with_spares : AxisState → ℕ → AxisState
with_spares s spares = with_implicit s (record { negative = s.grid.implicit.negative; positive = s.grid.implicit.positive; spares = spares })

abbrev pub with_extra : AxisState → ℕ → ℕ → AxisState
with_extra s negative positive = with_implicit s (record { negative = negative; positive = positive; spares = s.grid.implicit.spares })

-- the repeat that has no end yet, if there is one
abbrev pub with_unended : AxisReading → Option OpenRepeat → AxisReading
with_unended r unended = record { seen = r.seen; unended = unended }

-- with one track more
abbrev pub longer : OpenRepeat → OpenRepeat
longer o = record { kind = o.kind; number = o.number; first = o.first; length = o.length + 1 }

abbrev pub with_seen : AxisReading → Bool → AxisReading
with_seen r seen = record { seen = seen; unended = r.unended }

-- the answer of a record: its refusal's number, 0 where there is none, and the axis after it, on a refusal as it came
pub record AxisPut : Type 0 where
  pub fault : ℕ
  pub state : AxisState
  pub reading : AxisReading

abbrev pub put : ℕ → AxisState → AxisReading → AxisPut
put fault s r = record { fault = fault; state = s; reading = r }

-- the number and the axis of what a call answers, of the axis as it came
abbrev pub answered_axis : AxisState → AxisReading → Result AxisAfter Fault → AxisPut
answered_axis s r (Ok after) = put 0 after.state (axis_reading after.reading)
answered_axis s r (Err fault) = put (number_of fault) s r

-- ---- what a record leaves: its answer, with the words, the marks or the bytes

pub record InWords : Type 0 where
  pub answer : AxisPut
  pub words : List ℕ

pub record InMarks : Type 0 where
  pub answer : AxisPut
  pub marks : List ℕ

pub record InNames : Type 0 where
  pub answer : AxisPut
  pub words : List ℕ
  pub bytes : List ℕ

abbrev pub refused_words : ℕ → AxisState → AxisReading → List ℕ → InWords
refused_words fault s r w = record { answer = put fault s r; words = w }

-- a track outside a repeat is a component; the second limit is never met on an axis that was read
unfoldable pub put_single : AxisState → AxisReading → List ℕ → ℕ → ℕ → InWords
put_single s r w min max =
    cond (ltb 63 s.room.template.components) (refused_words 8 s r w)
    (cond (ltb 2047 s.room.template.tracks) (refused_words 8 s r w)
    (record {
      answer = put 0 (with_template s (s.room.template.components + 1) (s.room.template.tracks + 1)) r;
      words = set (set (set w s.room.template.components (component_word 0 0 s.room.template.tracks 1)) (minimums + s.room.template.tracks) min) (maximums + s.room.template.tracks) max;
    }))

unfoldable pub put_repeated : AxisState → AxisReading → OpenRepeat → List ℕ → ℕ → ℕ → InWords
put_repeated s r o w min max =
    cond (ltb 31 o.length) (refused_words 8 s r w)
    (cond (ltb 2047 s.room.template.tracks) (refused_words 8 s r w)
    (record {
      answer = put 0 (with_template s s.room.template.components (s.room.template.tracks + 1)) (with_unended r (Some (longer o)));
      words = set (set w (minimums + s.room.template.tracks) min) (maximums + s.room.template.tracks) max;
    }))

abbrev pub track_in : AxisState → AxisReading → Option OpenRepeat → List ℕ → ℕ → ℕ → InWords
track_in s r None w min max = put_single s r w min max
track_in s r (Some o) w min max = put_repeated s r o w min max

unfoldable pub put_track : AxisState → AxisReading → List ℕ → ℕ → ℕ → InWords
put_track s r w min max = track_in s r r.unended w min max

abbrev pub opened_in : AxisState → AxisReading → Option OpenRepeat → ℕ → ℕ → AxisPut
opened_in s r None kind number =
    cond (ltb 65535 number) (put 4 s r)
    (cond (ltb 63 s.room.template.components) (put 8 s r)
    (put 0 s (with_unended r (Some (record { kind = repeat_kind kind; number = number; first = s.room.template.tracks; length = 0 })))))
opened_in s r (Some o) kind number = put 1 s r

unfoldable pub open_repeat : AxisState → AxisReading → ℕ → ℕ → AxisPut
open_repeat s r kind number = opened_in s r r.unended kind number

abbrev pub closed_in : AxisState → AxisReading → Option OpenRepeat → List ℕ → InWords
closed_in s r None w = refused_words 1 s r w
closed_in s r (Some o) w =
    cond (ltb 63 s.room.template.components) (refused_words 8 s r w)
    (record {
      answer = put 0 (with_template s (s.room.template.components + 1) s.room.template.tracks) (with_unended r None);
      words = set w s.room.template.components (component_word o.number o.kind o.first o.length);
    })

unfoldable pub close_repeat : AxisState → AxisReading → List ℕ → InWords
close_repeat s r w = closed_in s r r.unended w

-- where a name stands: outside a repeat, or after so many of its tracks
abbrev pub place_of : Option OpenRepeat → ℕ
place_of None = 0
place_of (Some o) = o.length + 1

abbrev pub place_in : AxisReading → ℕ
place_in r = place_of r.unended

unfoldable pub put_name : AxisState → AxisReading → List ℕ → List ℕ → List ℕ → InNames
put_name s r w b n =
    cond (no_room 4096 32768 s.room.names s.room.used (length n)) (record { answer = put (named_fault (length n) 8) s r; words = w; bytes = b })
    (record {
      answer = put 0 (with_names s (s.room.names + 1) (s.room.used + length n)) r;
      words = set w (names + s.room.names) (name_word s.room.template.components (place_in r) s.room.used (length n));
      bytes = sets b s.room.used n;
    })

unfoldable pub put_spare : AxisState → AxisReading → List ℕ → ℕ → ℕ → InWords
put_spare s r w min max =
    cond (ltb 63 s.grid.implicit.spares) (refused_words 8 s r w)
    (record {
      answer = put 0 (with_spares s (s.grid.implicit.spares + 1)) r;
      words = set (set w (spare_minimums_of + s.grid.implicit.spares) min) (spare_maximums_of + s.grid.implicit.spares) max;
    })

unfoldable pub put_item : AxisState → AxisReading → List ℕ → ℕ → InMarks
put_item s r m i = cond (ltb 29999 i) (record { answer = put 4 s r; marks = m }) (record { answer = put 0 s r; marks = set m i 1 })

abbrev pub put_extra : AxisState → AxisReading → ℕ → ℕ → AxisPut
put_extra s r negative positive = put 0 (with_extra s negative positive) r

abbrev pub put_axis : AxisState → AxisReading → ℕ → ℕ → ℕ → ℕ → AxisPut
put_axis s r definite inner rule gap = put 0 (with_space s (record { definite = definite; inner = inner; rule = rule; gap = gap })) (with_seen r true)
