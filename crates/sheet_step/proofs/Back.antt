-- A record written into its regions of the lent words and bytes is written into what a panel holds, and into nothing else of it. Assumes nothing.
use Prim.Native.Nat.{ℕ, ◌+◌, ◌≤◌}
use mathlib.Core.Path.{◌≡◌, refl, sym, ap, ap₂, ◌∙◌}
use mathlib.Core.Bool.{Bool, true, false, cond}
use lib.Dec.{leb}
use mathlib.Core.List.{List, ◌++◌}
use native.Mathlib.Omega.{arith}
use lib.ListN.{length, take, drop, length-append, length-drop}
use lib.Seq.{length-take-le}
use Rattle.coordinates.specs.declared.axis.Axis.{Axis}
use Rattle.coordinates.specs.declared.axis.Axis.TheVariants.{Column, Row}
use Rattle.sheet_forms.specs.Said.{Record}
use Rattle.sheet_forms.specs.Said.{PlaceEnd}
use Rattle.axis_tables.specs.declared.AxisState.{AxisState}
use Rattle.axis_tables.specs.Readings.{AxisReading}
use Rattle.axis_tables.specs.Runs.{part_of, with_part}
use Rattle.axis_tables.specs.Store.{put}
use Rattle.axis_tables.specs.Written.{Held}
use Rattle.axis_tables.proofs.Regions.{lent-own, lent-before, lent-after}
use Rattle.panel_tables.specs.declared.Panel.{Panel}
use Rattle.panel_tables.specs.Readings.{Reading}
use Rattle.panel_tables.specs.declared.AreaEdges.{AreaEdges}
use Rattle.panel_tables.specs.Areas.{InAreas, put_area}
use Rattle.panel_tables.specs.Axes.{with_state, with_reading}
use Rattle.panel_tables.specs.Regions.{first_word, first_mark, axis_words_in, marks_in, area_words_in, area_bytes_in, placement_words_in, placement_bytes_in}
use Rattle.panel_tables.specs.Written.{PanelHeld, PanelStepped, panel_held_of, of_areas, of_placements}
use Rattle.picture_rules.specs.Picture.{Word}
use Rattle.picture_areas.specs.Runs.{InPicture}
use Rattle.picture_rows.specs.Steps.{row_in}
use Rattle.sheet_rules.specs.Lines.{late_at}
use Rattle.sheet_rules.specs.Steps.{axis_record, on_held, stayed, of_row, held_row}
use Rattle.sheet_faults.specs.Parts.{axis_part, part_of as part_written, named, Names, place_in, cell_in, part_step, named_step}
use Rattle.sheet_step.specs.Regions.{axis_in, on_axis, on_axis_after, parts_back, on_areas, on_placements, on_cell, picture_back, on_drawing, drawn_read, InPanel, unchanged, drawn_in, on_picture}

-- ---- what was written into parts, put back

pub axis_put : (a : Axis) (w b store name : List ℕ) (said : Record) (f g j k : ℕ) (s : AxisState) (t : AxisReading) (x : Held)
    → f ≡ first_word a → g ≡ first_mark a → j ≡ 12480 → k ≡ 30000
    → x ≡ axis_record (record { answer = put 0 s t; words = take j (drop f w); marks = take k (drop g b); bytes = store }) (named name) said
    → record { answer = x.answer; words = with_part w f j x.words; marks = with_part b g k x.marks; bytes = x.bytes } ≡ on_axis_after a s t w b store name said
unfolding axis_words_in marks_in
axis_put a w b store name said f g j k s t x ef eg ej ek e =
    ap (back f g j k) e
    ∙ ap (λ (z : ℕ). made z g j k) ef
    ∙ ap (λ (z : ℕ). made (first_word a) z j k) eg
    ∙ ap (λ (z : ℕ). made (first_word a) (first_mark a) z k) ej
    ∙ ap (λ (z : ℕ). made (first_word a) (first_mark a) 12480 z) ek
  where
    back : ℕ → ℕ → ℕ → ℕ → Held → Held
    back f g j k y = record { answer = y.answer; words = with_part w f j y.words; marks = with_part b g k y.marks; bytes = y.bytes }

    made : ℕ → ℕ → ℕ → ℕ → Held
    made f g j k = back f g j k (axis_record (record { answer = put 0 s t; words = take j (drop f w); marks = take k (drop g b); bytes = store }) (named name) said)

pub parts-put : (f n g m g₀ j k : ℕ) (w b : List ℕ) (op : List ℕ → List ℕ → InAreas) (x : InAreas) → g₀ ≡ g → j ≡ n → k ≡ m → x ≡ op (take j (drop f w)) (take k (drop g₀ b))
    → record { answer = x.answer; words = with_part w f j x.words; bytes = with_part b g₀ k x.bytes } ≡ parts_back f n g m w b (op (part_of w f n) (part_of b g m))
parts-put f n g m g₀ j k w b op x eg ej ek e =
    ap (parts_back f j g₀ k w b) e
    ∙ ap (λ (z : ℕ). parts_back f j z k w b (op (part_of w f j) (part_of b z k))) eg
    ∙ ap (λ (z : ℕ). parts_back f z g k w b (op (part_of w f z) (part_of b g k))) ej
    ∙ ap (λ (z : ℕ). parts_back f n g z w b (op (part_of w f n) (part_of b g z))) ek

pub drawing-put : (g₀ j k : ℕ) (w b : List ℕ) (op : List ℕ → List ℕ → InPicture) (x : InPicture) → g₀ ≡ 60000 → j ≡ 128 → k ≡ 2048 → x ≡ op (take j (drop 24960 w)) (take k (drop g₀ b))
    → record { answer = x.answer; words = with_part w 24960 j x.words; bytes = with_part b g₀ k x.bytes } ≡ picture_back w b (op (part_of w 24960 128) (part_of b 60000 2048))
drawing-put g₀ j k w b op x eg ej ek e =
    ap (back g₀ j k) e
    ∙ ap (λ (z : ℕ). back z j k (op (part_of w 24960 j) (part_of b z k))) eg
    ∙ ap (λ (z : ℕ). back 60000 z k (op (part_of w 24960 z) (part_of b 60000 k))) ej
    ∙ ap (λ (z : ℕ). back 60000 128 z (op (part_of w 24960 128) (part_of b 60000 z))) ek
  where
    back : ℕ → ℕ → ℕ → InPicture → InPicture
    back g j k y = record { answer = y.answer; words = with_part w 24960 j y.words; bytes = with_part b g k y.bytes }

-- where the whole kept its length, so did the part
part_kept : (s ys : List ℕ) (a n : ℕ) → a + n ≤ length s → length (with_part s a n ys) ≡ length s → length ys ≡ n
part_kept s ys a n h e =
    omega (
      arith,
      length-append (take a s) (ys ++ drop n (drop a s)),
      length-append ys (drop n (drop a s)),
      length-take-le a s (omega arith),
      length-drop n (drop a s),
      length-drop a s,
    )

-- where the part kept its length, so does the whole
pub part_stays : (s ys : List ℕ) (a n : ℕ) → a + n ≤ length s → length ys ≡ length (take n (drop a s)) → length (with_part s a n ys) ≡ length s
part_stays s ys a n h e =
    omega (
      arith,
      length-append (take a s) (ys ++ drop n (drop a s)),
      length-append ys (drop n (drop a s)),
      length-take-le a s (omega arith),
      length-take-le n (drop a s) (omega (arith, length-drop a s)),
      length-drop n (drop a s),
      length-drop a s,
    )

-- ---- the whole then holds what the parts say

same : (p : Panel) (r : Reading) (cs rs : List ℕ) {c₀ c r₀ r₁ m₀ m o₀ o a₀ a x₀ x q₀ q y₀ y : List ℕ}
    → c₀ ≡ c → r₀ ≡ r₁ → m₀ ≡ m → o₀ ≡ o → a₀ ≡ a → x₀ ≡ x → q₀ ≡ q → y₀ ≡ y
    → ◌≡◌ {A = PanelHeld}
    (record { panel = p; reading = r; columns = c₀; rows = r₀; column_marks = m₀; row_marks = o₀; column_bytes = cs; row_bytes = rs; areas = a₀; area_bytes = x₀; placements = q₀; placement_bytes = y₀ })
    (record { panel = p; reading = r; columns = c; rows = r₁; column_marks = m; row_marks = o; column_bytes = cs; row_bytes = rs; areas = a; area_bytes = x; placements = q; placement_bytes = y })
same p r cs rs e0 e1 e2 e3 e4 e5 e6 e7 = rw (e0, e1, e2, e3, e4, e5, e6, e7)

module _ (p : Panel) (r : Reading) (w b cs rs : List ℕ) (lw : length w ≡ 26368) (lb : length b ≡ 94816) where
  abbrev held : PanelHeld
  held = panel_held_of p r w b cs rs

  pub columns-back : (name₀ name : List ℕ) (said : Record) (x : Held) → x ≡ on_axis Column p r w b cs name₀ said → name₀ ≡ name → length x.words ≡ 26368 → length x.marks ≡ 94816
      → ◌≡◌ {A = PanelStepped}
      (record { fault = x.answer.fault; held = panel_held_of (with_state p Column x.answer.state) (with_reading r Column x.answer.reading) x.words x.marks x.bytes rs })
      (on_held held Column (named name) said)
  unfolding panel_held_of on_axis axis_words_in marks_in area_words_in area_bytes_in placement_words_in placement_bytes_in
  columns-back name₀ name said x e₀ en lx ly =
      let e : x ≡ on_axis Column p r w b cs name said = e₀ ∙ ap (λ (n : List ℕ). on_axis Column p r w b cs n said) en in
      let y : Held = axis_record (axis_in Column p r w b cs) (named name) said in
      let hw : 0 + 12480 ≤ length w = omega arith in
      let hb : 0 + 30000 ≤ length b = omega arith in
      let ew : length y.words ≡ 12480 = part_kept w y.words 0 12480 hw (ap (λ (z : Held). length z.words) (sym e) ∙ lx ∙ sym lw) in
      let eb : length y.marks ≡ 30000 = part_kept b y.marks 0 30000 hb (ap (λ (z : Held). length z.marks) (sym e) ∙ ly ∙ sym lb) in
      ap (λ (x : Held). record { fault = x.answer.fault; held = panel_held_of (with_state p Column x.answer.state) (with_reading r Column x.answer.reading) x.words x.marks x.bytes rs }) e
      ∙ ap (λ (h : PanelHeld). record { fault = y.answer.fault; held = h })
      (same (with_state p Column y.answer.state) (with_reading r Column y.answer.reading) y.bytes rs
      (lent-own w y.words 0 12480 hw ew)
      (lent-after w y.words 0 12480 hw ew 12480 12480 (omega arith))
      (lent-own b y.marks 0 30000 hb eb)
      (lent-after b y.marks 0 30000 hb eb 30000 30000 (omega arith))
      (lent-after w y.words 0 12480 hw ew 24960 128 (omega arith))
      (lent-after b y.marks 0 30000 hb eb 60000 2048 (omega arith))
      (lent-after w y.words 0 12480 hw ew 25088 1280 (omega arith))
      (lent-after b y.marks 0 30000 hb eb 62048 32768 (omega arith)))

  pub rows_back : (name₀ name : List ℕ) (said : Record) (x : Held) → x ≡ on_axis Row p r w b rs name₀ said → name₀ ≡ name → length x.words ≡ 26368 → length x.marks ≡ 94816
      → ◌≡◌ {A = PanelStepped}
      (record { fault = x.answer.fault; held = panel_held_of (with_state p Row x.answer.state) (with_reading r Row x.answer.reading) x.words x.marks cs x.bytes })
      (on_held held Row (named name) said)
  unfolding panel_held_of on_axis axis_words_in marks_in area_words_in area_bytes_in placement_words_in placement_bytes_in
  rows_back name₀ name said x e₀ en lx ly =
      let e : x ≡ on_axis Row p r w b rs name said = e₀ ∙ ap (λ (n : List ℕ). on_axis Row p r w b rs n said) en in
      let y : Held = axis_record (axis_in Row p r w b rs) (named name) said in
      let hw : 12480 + 12480 ≤ length w = omega arith in
      let hb : 30000 + 30000 ≤ length b = omega arith in
      let ew : length y.words ≡ 12480 = part_kept w y.words 12480 12480 hw (ap (λ (z : Held). length z.words) (sym e) ∙ lx ∙ sym lw) in
      let eb : length y.marks ≡ 30000 = part_kept b y.marks 30000 30000 hb (ap (λ (z : Held). length z.marks) (sym e) ∙ ly ∙ sym lb) in
      ap (λ (x : Held). record { fault = x.answer.fault; held = panel_held_of (with_state p Row x.answer.state) (with_reading r Row x.answer.reading) x.words x.marks cs x.bytes }) e
      ∙ ap (λ (h : PanelHeld). record { fault = y.answer.fault; held = h })
      (same (with_state p Row y.answer.state) (with_reading r Row y.answer.reading) cs y.bytes
      (lent-before w y.words 12480 12480 hw 0 12480 (omega arith))
      (lent-own w y.words 12480 12480 hw ew)
      (lent-before b y.marks 30000 30000 hb 0 30000 (omega arith))
      (lent-own b y.marks 30000 30000 hb eb)
      (lent-after w y.words 12480 12480 hw ew 24960 128 (omega arith))
      (lent-after b y.marks 30000 30000 hb eb 60000 2048 (omega arith))
      (lent-after w y.words 12480 12480 hw ew 25088 1280 (omega arith))
      (lent-after b y.marks 30000 30000 hb eb 62048 32768 (omega arith)))

  pub areas-back : (name₀ name : List ℕ) (edges : AreaEdges) (x : InAreas) → x ≡ on_areas p w b name₀ edges → name₀ ≡ name → length x.words ≡ 26368 → length x.bytes ≡ 94816
      → ◌≡◌ {A = PanelStepped} (record { fault = x.answer.fault; held = panel_held_of x.answer.panel r x.words x.bytes cs rs }) (of_areas held (put_area held.panel held.areas held.area_bytes name edges))
  unfolding panel_held_of on_areas axis_words_in marks_in area_words_in area_bytes_in placement_words_in placement_bytes_in
  areas-back name₀ name edges x e₀ en lx ly =
      let e : x ≡ on_areas p w b name edges = e₀ ∙ ap (λ (n : List ℕ). on_areas p w b n edges) en in
      let y : InAreas = put_area p (area_words_in w) (area_bytes_in b) name edges in
      let hw : 24960 + 128 ≤ length w = omega arith in
      let hb : 60000 + 2048 ≤ length b = omega arith in
      let ew : length y.words ≡ 128 = part_kept w y.words 24960 128 hw (ap (λ (z : InAreas). length z.words) (sym e) ∙ lx ∙ sym lw) in
      let eb : length y.bytes ≡ 2048 = part_kept b y.bytes 60000 2048 hb (ap (λ (z : InAreas). length z.bytes) (sym e) ∙ ly ∙ sym lb) in
      ap (λ (x : InAreas). record { fault = x.answer.fault; held = panel_held_of x.answer.panel r x.words x.bytes cs rs }) e
      ∙ ap (λ (h : PanelHeld). record { fault = y.answer.fault; held = h })
      (same y.answer.panel r cs rs
      (lent-before w y.words 24960 128 hw 0 12480 (omega arith))
      (lent-before w y.words 24960 128 hw 12480 12480 (omega arith))
      (lent-before b y.bytes 60000 2048 hb 0 30000 (omega arith))
      (lent-before b y.bytes 60000 2048 hb 30000 30000 (omega arith))
      (lent-own w y.words 24960 128 hw ew)
      (lent-own b y.bytes 60000 2048 hb eb)
      (lent-after w y.words 24960 128 hw ew 25088 1280 (omega arith))
      (lent-after b y.bytes 60000 2048 hb eb 62048 32768 (omega arith)))

  -- what is written into the placements' parts
  placed-back : (op : List ℕ → List ℕ → InAreas) (x : InAreas) → x ≡ parts_back 25088 1280 62048 32768 w b (op (placement_words_in w) (placement_bytes_in b)) → length x.words ≡ 26368 → length x.bytes ≡ 94816
      → ◌≡◌ {A = PanelStepped} (record { fault = x.answer.fault; held = panel_held_of x.answer.panel r x.words x.bytes cs rs }) (of_placements held (op (placement_words_in w) (placement_bytes_in b)))
  unfolding panel_held_of axis_words_in marks_in area_words_in area_bytes_in placement_words_in placement_bytes_in
  placed-back op x e lx ly =
      let y : InAreas = op (placement_words_in w) (placement_bytes_in b) in
      let hw : 25088 + 1280 ≤ length w = omega arith in
      let hb : 62048 + 32768 ≤ length b = omega arith in
      let ew : length y.words ≡ 1280 = part_kept w y.words 25088 1280 hw (ap (λ (z : InAreas). length z.words) (sym e) ∙ lx ∙ sym lw) in
      let eb : length y.bytes ≡ 32768 = part_kept b y.bytes 62048 32768 hb (ap (λ (z : InAreas). length z.bytes) (sym e) ∙ ly ∙ sym lb) in
      ap (λ (x : InAreas). record { fault = x.answer.fault; held = panel_held_of x.answer.panel r x.words x.bytes cs rs }) e
      ∙ ap (λ (h : PanelHeld). record { fault = y.answer.fault; held = h })
      (same y.answer.panel r cs rs
      (lent-before w y.words 25088 1280 hw 0 12480 (omega arith))
      (lent-before w y.words 25088 1280 hw 12480 12480 (omega arith))
      (lent-before b y.bytes 62048 32768 hb 0 30000 (omega arith))
      (lent-before b y.bytes 62048 32768 hb 30000 30000 (omega arith))
      (lent-before w y.words 25088 1280 hw 24960 128 (omega arith))
      (lent-before b y.bytes 62048 32768 hb 60000 2048 (omega arith))
      (lent-own w y.words 25088 1280 hw ew)
      (lent-own b y.bytes 62048 32768 hb eb))

  pub placements-back : (a : Axis) (s : PlaceEnd) (first₀ first : List ℕ) (e₁ : PlaceEnd) (second₀ second : List ℕ) (x : InAreas) → x ≡ on_placements p w b a s first₀ e₁ second₀ → first₀ ≡ first → second₀ ≡ second → length x.words ≡ 26368 → length x.bytes ≡ 94816
      → ◌≡◌ {A = PanelStepped} (record { fault = x.answer.fault; held = panel_held_of x.answer.panel r x.words x.bytes cs rs }) (of_placements held (place_in held.panel held.placements held.placement_bytes a s first e₁ second))
  unfolding panel_held_of on_placements
  placements-back a s first₀ first e₁ second₀ second x e₀ ef es lx ly =
      let e : x ≡ on_placements p w b a s first e₁ second = e₀ ∙ ap₂ (λ (m : List ℕ) (n : List ℕ). on_placements p w b a s m e₁ n) ef es in
      placed-back (λ (m : List ℕ) (n : List ℕ). place_in p m n a s first e₁ second) x e lx ly

  pub cell-back : (line : ℕ) (s t u v : PlaceEnd) (n : Names) (x : InAreas) → x ≡ on_cell p w b line s t u v n → length x.words ≡ 26368 → length x.bytes ≡ 94816
      → ◌≡◌ {A = PanelStepped} (record { fault = x.answer.fault; held = panel_held_of x.answer.panel r x.words x.bytes cs rs }) (of_placements held (cell_in held.panel held.placements held.placement_bytes line s t u v n))
  unfolding panel_held_of on_cell
  cell-back line s t u v n x e lx ly = placed-back (λ (m : List ℕ) (k : List ℕ). cell_in p m k line s t u v n) x e lx ly

  -- a row that was drawn into the areas' regions
  drawn-back : (width : ℕ) (y : InPicture) → length y.words ≡ 128 → length y.bytes ≡ 2048
      → ◌≡◌ {A = PanelStepped}
      (record { fault = (drawn_read r width y.answer).fault; held = panel_held_of y.answer.panel (drawn_read r width y.answer).reading (with_part w 24960 128 y.words) (with_part b 60000 2048 y.bytes) cs rs })
      (of_row held width y)
  unfolding panel_held_of axis_words_in marks_in area_words_in area_bytes_in placement_words_in placement_bytes_in
  drawn-back width y ew eb =
      let hw : 24960 + 128 ≤ length w = omega arith in
      let hb : 60000 + 2048 ≤ length b = omega arith in
      ap (λ (h : PanelHeld). record { fault = (drawn_read r width y.answer).fault; held = h })
      (same y.answer.panel (drawn_read r width y.answer).reading cs rs
      (lent-before w y.words 24960 128 hw 0 12480 (omega arith))
      (lent-before w y.words 24960 128 hw 12480 12480 (omega arith))
      (lent-before b y.bytes 60000 2048 hb 0 30000 (omega arith))
      (lent-before b y.bytes 60000 2048 hb 30000 30000 (omega arith))
      (lent-own w y.words 24960 128 hw ew)
      (lent-own b y.bytes 60000 2048 hb eb)
      (lent-after w y.words 24960 128 hw ew 25088 1280 (omega arith))
      (lent-after b y.bytes 60000 2048 hb eb 62048 32768 (omega arith)))

  -- a row of a picture, by whether it is late, and one too many
  abbrev picture_by : ℕ → InPicture → Bool → Bool → InPanel
  picture_by width y t u = cond t (unchanged 0 p r w b) (cond u (unchanged 8 p r w b) (drawn_in r width (picture_back w b y)))

  abbrev made : InPanel → PanelStepped
  made y = record { fault = y.answer.fault; held = panel_held_of y.answer.panel y.answer.reading y.words y.bytes cs rs }

  by-back : (width : ℕ) (y : InPicture) (t u : Bool) → length (picture_by width y t u).words ≡ 26368 → length (picture_by width y t u).bytes ≡ 94816
      → made (picture_by width y t u) ≡ cond t (stayed held) (cond u (record { fault = 8; held = held }) (of_row held width y))
  by-back width y true u lx ly = refl
  by-back width y false true lx ly = refl
  by-back width y false false lx ly =
      drawn-back width y (part_kept w y.words 24960 128 (omega arith) (lx ∙ sym lw)) (part_kept b y.bytes 60000 2048 (omega arith) (ly ∙ sym lb))

  pub picture-back : (ws : List Word) (width : ℕ) (x : InPanel) → x ≡ on_picture p r w b ws width → length x.words ≡ 26368 → length x.bytes ≡ 94816
      → made x ≡ cond (late_at 2 held.reading.stage) (stayed held) (held_row held ws width)
  unfolding on_picture on_drawing held_row panel_held_of
  picture-back ws width x e lx ly =
      ap made e
      ∙ by-back width (row_in p (area_words_in w) (area_bytes_in b) ws (r.picture.rows + 1)) (late_at 2 r.stage) (leb 10000 r.picture.rows)
      (ap (λ (z : InPanel). length z.words) (sym e) ∙ lx) (ap (λ (z : InPanel). length z.bytes) (sym e) ∙ ly)

-- a record of an axis is written to that axis's tables
pub axis-step : (h : PanelHeld) (n : Names) (ws : List Word) (r : Record) (a : Axis) (x : PanelStepped) → part_written r ≡ axis_part a → x ≡ on_held h a (named n.first) r → x ≡ named_step h n ws r
axis-step h n ws r Column x e d = d ∙ ap (part_step h n ws r) (sym e)
axis-step h n ws r Row x e d = d ∙ ap (part_step h n ws r) (sym e)
