-- The record of a line that is an edit, and that it is never late. Assumes nothing.
use Prim.Native.Nat.{ℕ}
use mathlib.Core.Path.{◌≡◌, refl, sym, subst}
use mathlib.Core.List.{[]}
use mathlib.Core.Bool.{Bool, true, false, cond, ◌||◌, false≢true}
use lib.Dec.{eqb, leb}
use lib.ListN.{length, get_or}
use Rattle.coordinates.specs.declared.axis.Axis.{Axis}
use Rattle.text.proofs.Which.{same_equal}
use Rattle.sheet_forms.specs.Said.{Record}
use Rattle.sheet_forms.specs.Said.{Fault, Area, Track, Place}
use Rattle.sheet_forms.specs.declared.AreaRecord.{AreaRecord}
use Rattle.sheet_forms.specs.Said.{PlaceEnd}
use Rattle.sheet_forms.specs.Words.{at, kind_words}
use Rattle.sheet_forms.specs.Forms.{Kind, kind_number}
use Rattle.sheet_forms.specs.Forms.{area as area_kind, track as track_kind, place as place_kind}
use Rattle.sheet_forms.specs.Records.{unless, of_fields, edges_of, made_area, made_sizes, made_place, area_line, sizes_line, place_line, record_of}
use Rattle.sheet_forms.specs.Faults.{first_of}
use Rattle.sheet_forms.specs.Fields.{axis_of, count_of, name_fault}
use Rattle.sheet_forms.specs.Sizes.{size_of}
use Rattle.sheet_forms.specs.Ends.{end_of}
use Rattle.sheet_forms.specs.Answers.{Field}
use Rattle.sheet_forms.specs.Answers.{AxisField}
use Rattle.sheet_forms.specs.Answers.{SizeField}
use Rattle.sheet_forms.specs.Answers.{EndField}
use Rattle.sheet_forms.specs.declared.Position.TheVariants.{Minimum, Maximum}
use Rattle.sheet_forms.proofs.LineFaults.{line_of, line_record}
use Rattle.panel_tables.specs.View.{PanelView}
use Rattle.sheet_rules.specs.Contents.{Line, is_of}
use Rattle.sheet_rules.specs.Lines.{late_fault}
use Rattle.edit_rules.specs.Edits.{is_edit}
use Rattle.edit_rules.specs.Replay.{reopened}

-- an area, a track, a placement, or a fault of the line's own
pub data EditRecord : Record → Type 0 where
  fault : (n : ℕ) → EditRecord (Fault n)
  area : (a : AreaRecord) → EditRecord (Area a)
  track : (a : Axis) (min max : ℕ) → EditRecord (Track a min max)
  place : (a : Axis) (s e : PlaceEnd) → EditRecord (Place a s e)

unless_edit : (n : ℕ) (r : Record) → EditRecord r → EditRecord (unless n r)
unless_edit n r e = go (eqb n 0)
  where
    go : (t : Bool) → EditRecord (cond t r (Fault n))
    go true = e
    go false = fault n

fields_edit : (n : ℕ) (fs : Line) (r : Record) → EditRecord r → EditRecord (of_fields n fs r)
fields_edit n fs r e = go (eqb (length fs) n)
  where
    go : (t : Bool) → EditRecord (cond t r (Fault 1))
    go true = e
    go false = fault 1

edges_edit : (rs re cs ce : ℕ) → EditRecord (edges_of rs re cs ce)
edges_edit rs re cs ce = go (leb re rs) (leb ce cs)
  where
    go : (t u : Bool) → EditRecord (cond t (Fault 5) (cond u (Fault 5) (Area (record { rowstart = rs; rowend = re; columnstart = cs; columnend = ce }))))
    go true u = fault 5
    go false true = fault 5
    go false false = area (record { rowstart = rs; rowend = re; columnstart = cs; columnend = ce })

made_area_lem : (name : ℕ) (a b c d : Field) → EditRecord (made_area name a b c d)
made_area_lem name a b c d =
    unless_edit (first_of name (first_of a.fault (first_of b.fault (first_of c.fault d.fault))))
    (edges_of a.value b.value c.value d.value) (edges_edit a.value b.value c.value d.value)

area_edit : (fs : Line) → EditRecord (area_line fs)
unfolding area_line
area_edit fs =
    let name = name_fault (at fs 1) in
    let rs = count_of 1 10001 (at fs 2) in
    let re = count_of 1 10001 (at fs 3) in
    let cs = count_of 1 10001 (at fs 4) in
    let ce = count_of 1 10001 (at fs 5) in
    fields_edit 6 fs (made_area name rs re cs ce) (made_area_lem name rs re cs ce)

made_track : (a : AxisField) (min max : SizeField) → EditRecord (made_sizes false a min max)
made_track a min max =
    unless_edit (first_of a.fault (first_of min.fault max.fault)) (Track a.axis min.word max.word) (track a.axis min.word max.word)

track_edit : (fs : Line) → EditRecord (sizes_line false fs)
unfolding sizes_line
track_edit fs =
    let a = axis_of (at fs 1) in
    let min = size_of Minimum (at fs 2) (at fs 3) in
    let max = size_of Maximum (at fs 4) (at fs 5) in
    fields_edit 6 fs (made_sizes false a min max) (made_track a min max)

made_place_lem : (a : AxisField) (s e : EndField) → EditRecord (made_place a s e)
made_place_lem a s e = unless_edit (first_of a.fault (first_of s.fault e.fault)) (Place a.axis s.end e.end) (place a.axis s.end e.end)

place_edit : (fs : Line) → EditRecord (place_line fs)
unfolding place_line
place_edit fs =
    let a = axis_of (at fs 1) in
    let s = end_of (at fs 2) (at fs 3) (at fs 4) in
    let e = end_of (at fs 5) (at fs 6) (at fs 7) in
    fields_edit 8 fs (made_place a s e) (made_place_lem a s e)

-- the line of an edit has one of these records
pub edit_record : (fs : Line) → is_edit fs ≡ true → EditRecord (record_of fs)
edit_record fs = go (is_of area_kind fs) refl (is_of track_kind fs) refl (is_of place_kind fs) refl
  where
    by : (k : Kind) → is_of k fs ≡ true → EditRecord (line_of k fs) → EditRecord (record_of fs)
    by k e r = subst EditRecord (sym (line_record k fs (same_equal (at fs 0) (get_or kind_words (kind_number k) []) e))) r

    go : (a : Bool) → is_of area_kind fs ≡ a → (b : Bool) → is_of track_kind fs ≡ b → (c : Bool) → is_of place_kind fs ≡ c → a || (b || c) ≡ true → EditRecord (record_of fs)
    go true e b f c g h = by area_kind e (area_edit fs)
    go false e true f c g h = by track_kind f (track_edit fs)
    go false e false f true g h = by place_kind g (place_edit fs)
    go false e false f false g h = absurd (false≢true h)

-- 7 is never given
pub edit_timely : (v : PanelView) {r : Record} → EditRecord r → late_fault (reopened v) r ≡ 0
edit_timely v (fault n) = refl
edit_timely v (area a) = refl
edit_timely v (track a min max) = refl
edit_timely v (place a s e) = refl
