-- State and tables of a panel follow the view: `area` and `place` on those of a view leave those of the view after the record.
use Prim.Native.Nat.{ℕ, ◌+◌, ◌-◌, ◌≤◌, ◌<◌}
use mathlib.Core.Path.{◌≡◌, refl, sym, ap, ◌∙◌}
use mathlib.Core.List.{List, [], ◌∷◌, ◌++◌, map-append}
use mathlib.Core.Bool.{Bool, true, false}
use native.Mathlib.Omega.{arith}
use lib.Dec.{eqb, leb, ltb}
use lib.ListN.{length, set, replicate, length-append, length-map}
use borrow.Author.Tests.{ltb-false, le-ltb, leb-true, leb-false, le-leb, lt-leb, eqb-true}
use Rattle.coordinates.specs.declared.axis.Axis.{Axis}
use Rattle.coordinates.specs.declared.axis.Axis.TheVariants.{Column, Row}
use Rattle.axis_tables.specs.Lay.{pad, Region, joined}
use Rattle.axis_tables.specs.Runs.{bytes_of, words_from, put_bytes}
use Rattle.axis_tables.specs.View.{empty_axis}
use Rattle.axis_tables.specs.declared.AxisState.{AxisState}
use Rattle.axis_tables.specs.Readings.{AxisReading}
use Rattle.name_entries.specs.Places.{name_word}
use Rattle.axis_tables.specs.Store.{zero_state, zero_reading}
use Rattle.axis_tables.specs.Written.{regions_of, words_with, axis_words, names_store, state_of, reading_of, Held, held_of}
use Rattle.axis_tables.proofs.Same.{axis_empty}
use Rattle.axis_tables.proofs.Lays.{length-pad, pad_puts, pad-none, lay-put, lay-none}
use Rattle.axis_tables.proofs.Runs.{bytes-more, length-words, words_more}
use Rattle.axis_tables.proofs.Regions.{zeros_part}
use Rattle.panel_tables.specs.declared.AreaEdges.{AreaEdges}
use Rattle.panel_tables.specs.View.{Area, End, Placement, PanelView, empty_view, accepted, edges_outside, area_step, lower, ends_fault, items, limited_step, with_item, with_placement, place_step, next_line, half, with_cell, cell_step}
use Rattle.panel_tables.specs.Areas.{edges_word, InAreas, put, put_area}
use Rattle.panel_tables.specs.Placements.{end_word, axis_mark, first_line, names_length, write_half, then_half, then_line, no_item, item_fault, put_item, put_placement, write_cell, put_cell}
use Rattle.panel_tables.specs.Regions.{panel_words, panel_bytes, axis_words_in, area_words_in, placement_words_in, marks_in, area_bytes_in, placement_bytes_in}
use Rattle.picture_rules.specs.Steps.{rows_from}
use Rattle.panel_tables.specs.Written.{zero_panel, zero_panel_reading, area_name_of, area_edges_word, area_name_word, area_bytes_of, area_regions, area_words, area_store, AxisEnd, ends_of, end_name_of, axis_end_word, placement_bytes_of, placement_regions, placement_words, placement_store, panel_of, PanelHeld, panel_held_of, held_panel, stepped, of_areas, of_placements, picture_reading_of}
use Rattle.panel_tables.proofs.Fits.{GoodEnd, GoodPlacement, FitsPanel, area-bytes, placement_bytes_lem, few_placements, good_ends, good-cell}

-- bytes in a store that has room
pub put-pad : (all : ℕ) (b n : List ℕ) → length b + length n ≤ all → put_bytes (pad all b) (length b) n ≡ pad all (b ++ n)
unfolding put_bytes
put-pad all b n h =
    let x : ltb (length (pad all b)) (length b) ≡ false = le-ltb (length (pad all b)) (length b) (omega (arith, length-pad all b)) in
    let y : ltb (length (pad all b) - length b) (length n) ≡ false = le-ltb (length (pad all b) - length b) (length n) (omega (arith, length-pad all b)) in
    rw (x, y) (pad_puts all n b h)

-- ---- areas
pub area_words_lem : (list : List Area) (a : Area) → length list < 64
    → set (set (area_words list) (length list) (edges_word a.edges)) (64 + length list) (name_word 0 0 (length (area_bytes_of list)) (length a.name)) ≡ area_words (list ++ (a ∷ []))
unfolding area_words area_regions
area_words_lem list a h =
    let rs : List Region = area_regions list in
    let n : ℕ = length list in
    let x : ℕ = edges_word a.edges in
    let p : ℕ = length (area_bytes_of list) in
    ap (λ (w : List ℕ). set w (64 + n) (area_name_word a p)) (lay-put rs 0 x n n (length-map list area_edges_word) h (omega arith))
    ∙ lay-put (joined rs 0 x) 1 (area_name_word a p) n (64 + n) (length-words area_name_word area_name_of 0 list) h (omega arith)
    ∙ sym (rw (map-append area_edges_word list (a ∷ []), words_more area_name_word area_name_of 0 list a p (omega arith)))

pub area_store_lem : (list : List Area) (a : Area) → length (area_bytes_of list) + length a.name ≤ 2048
    → put_bytes (area_store list) (length (area_bytes_of list)) a.name ≡ area_store (list ++ (a ∷ []))
unfolding area_store
area_store_lem list a h = put-pad 2048 (area_bytes_of list) a.name h ∙ ap (pad 2048) (sym (bytes-more area_name_word area_name_of list a))

module _ (v : PanelView) (f : FitsPanel v) where
  pub area_same : (n : List ℕ) (e : AreaEdges) → of_areas (held_panel v) (put_area (panel_of v) (area_words v.areas) (area_store v.areas) n e) ≡ stepped (area_step v n e)
  unfolding put_area area_step held_panel words_with regions_of names_store
  area_same n e = go (edges_outside e) (ltb 32 (length n)) (leb 64 (length v.areas)) refl refl refl
    where
      go : (s t u : Bool) → edges_outside e ≡ s → ltb 32 (length n) ≡ t → leb 64 (length v.areas) ≡ u
          → of_areas (held_panel v) (put_area (panel_of v) (area_words v.areas) (area_store v.areas) n e) ≡ stepped (area_step v n e)
      go true t u x y z = rw x
      go false true u x y z = rw (x, y)
      go false false true x y z = rw (x, y, z)
      go false false false x y z =
          let a : Area = record { name = n; edges = e } in
          let k : length (area_bytes_of v.areas) + length n ≤ 2048 =
          omega (arith, area-bytes v.areas f.drawn, ltb-false 32 (length n) y, leb-false 64 (length v.areas) z) in
          let q : ltb 2048 (length (area_bytes_of v.areas) + length n) ≡ false = le-ltb 2048 (length (area_bytes_of v.areas) + length n) k in
          simp (
            x,
            y,
            z,
            q,
            area_words_lem v.areas a (leb-false 64 (length v.areas) z),
            area_store_lem v.areas a k,
            length-append v.areas (a ∷ []),
            bytes-more area_name_word area_name_of v.areas a,
            length-append (area_bytes_of v.areas) n,
          )

-- ---- placements
ends_more : (ps : List Placement) (p : Placement)
    → ends_of (ps ++ (p ∷ [])) ≡ (ends_of ps ++ (record { axis = axis_mark p.axis p.cell; end = p.start } ∷ [])) ++ (record { axis = 0; end = p.end } ∷ [])
ends_more [] p = refl
ends_more (q ∷ ps) p = ap (λ (l : List AxisEnd). record { axis = axis_mark q.axis q.cell; end = q.start } ∷ record { axis = 0; end = q.end } ∷ l) (ends_more ps p)

pub length_ends : (ps : List Placement) → length (ends_of ps) ≡ length ps + length ps
length_ends [] = refl
length_ends (p ∷ ps) = omega (arith, length_ends ps)

abbrev start_of : Placement → AxisEnd
start_of p = record { axis = axis_mark p.axis p.cell; end = p.start }

abbrev finish_of : Placement → AxisEnd
finish_of p = record { axis = 0; end = p.end }

module _ (ps : List Placement) (p : Placement) where
  bytes-once : bytes_of end_name_of (ends_of ps ++ (start_of p ∷ [])) ≡ placement_bytes_of ps ++ p.start.name
  bytes-once = bytes-more axis_end_word end_name_of (ends_of ps) (start_of p)

  pub bytes-twice : placement_bytes_of (ps ++ (p ∷ [])) ≡ (placement_bytes_of ps ++ p.start.name) ++ p.end.name
  bytes-twice =
      ap (bytes_of end_name_of) (ends_more ps p)
      ∙ bytes-more axis_end_word end_name_of (ends_of ps ++ (start_of p ∷ [])) (finish_of p)
      ∙ ap (λ (l : List ℕ). l ++ p.end.name) bytes-once

  pub length-twice : length (placement_bytes_of (ps ++ (p ∷ []))) ≡ length (placement_bytes_of ps) + length p.start.name + length p.end.name
  length-twice = rw (bytes-twice, length-append (placement_bytes_of ps ++ p.start.name) p.end.name, length-append (placement_bytes_of ps) p.start.name)

  words-twice : words_from axis_end_word end_name_of 0 (ends_of (ps ++ (p ∷ [])))
      ≡ (words_from axis_end_word end_name_of 0 (ends_of ps) ++ (axis_end_word (start_of p) (length (placement_bytes_of ps)) ∷ []))
      ++ (axis_end_word (finish_of p) (length (placement_bytes_of ps) + length p.start.name) ∷ [])
  words-twice =
      let u : ℕ = length (placement_bytes_of ps) in
      let k : u + length p.start.name ≡ 0 + length (bytes_of end_name_of (ends_of ps ++ (start_of p ∷ []))) =
      omega (arith, ap length bytes-once, length-append (placement_bytes_of ps) p.start.name) in
      ap (words_from axis_end_word end_name_of 0) (ends_more ps p)
      ∙ words_more axis_end_word end_name_of 0 (ends_of ps ++ (start_of p ∷ [])) (finish_of p) (u + length p.start.name) k
      ∙ ap (λ (l : List ℕ). l ++ (axis_end_word (finish_of p) (u + length p.start.name) ∷ []))
      (words_more axis_end_word end_name_of 0 (ends_of ps) (start_of p) u (omega arith))

  placement-words : (lines : List ℕ) → length ps < 512
      → set (set (placement_words ps lines) (length ps + length ps) (end_word (axis_mark p.axis p.cell) p.start.end (length (placement_bytes_of ps)) (length p.start.name)))
      (length ps + length ps + 1) (end_word 0 p.end.end (length (placement_bytes_of ps) + length p.start.name) (length p.end.name))
      ≡ placement_words (ps ++ (p ∷ [])) lines
  unfolding placement_words placement_regions
  placement-words lines h =
      let rs : List Region = placement_regions ps lines in
      let l : List ℕ = words_from axis_end_word end_name_of 0 (ends_of ps) in
      let n : ℕ = length ps in
      let u : ℕ = length (placement_bytes_of ps) in
      let x : ℕ = axis_end_word (start_of p) u in
      let y : ℕ = axis_end_word (finish_of p) (u + length p.start.name) in
      let a : length l ≡ n + n = length-words axis_end_word end_name_of 0 (ends_of ps) ∙ length_ends ps in
      let b : length (l ++ (x ∷ [])) ≡ n + n + 1 = omega (arith, length-append l (x ∷ [])) in
      ap (λ (w : List ℕ). set w (n + n + 1) y) (lay-put rs 0 x (n + n) (n + n) a (omega arith) (omega arith))
      ∙ lay-put (joined rs 0 x) 0 y (n + n + 1) (n + n + 1) b (omega arith) (omega arith)
      ∙ sym (rw words-twice)

  placement-store : length (placement_bytes_of ps) + (length p.start.name + length p.end.name) ≤ 32768
      → put_bytes (put_bytes (placement_store ps) (length (placement_bytes_of ps)) p.start.name) (length (placement_bytes_of ps) + length p.start.name) p.end.name
      ≡ placement_store (ps ++ (p ∷ []))
  unfolding placement_store
  placement-store h =
      let l : List ℕ = placement_bytes_of ps in
      let m : List ℕ = p.start.name in
      let e : length l + length m ≡ length (l ++ m) = sym (length-append l m) in
      ap (λ (b : List ℕ). put_bytes b (length l + length m) p.end.name) (put-pad 32768 l m (omega arith))
      ∙ ap (λ (k : ℕ). put_bytes (pad 32768 (l ++ m)) k p.end.name) e
      ∙ put-pad 32768 (l ++ m) p.end.name (omega arith)
      ∙ ap (pad 32768) (sym bytes-twice)

-- the lines of the cells
line_words_lem : (ps : List Placement) (lines : List ℕ) (n : ℕ) → length lines < 256
    → set (placement_words ps lines) (first_line + length lines) n ≡ placement_words ps (lines ++ (n ∷ []))
unfolding placement_words placement_regions
line_words_lem ps lines n h = lay-put (placement_regions ps lines) 1 n (length lines) (1024 + length lines) refl h (omega arith)

-- the placements of a view, and that of one with one placement more, or one line of a cell
abbrev placed_in : PanelView → InAreas
placed_in v = record { answer = put 0 (panel_of v); words = placement_words v.placements v.cells; bytes = placement_store v.placements }

half-same : (v : PanelView) (p : Placement) → length v.placements < 512 → length (placement_bytes_of v.placements) + names_length p.start p.end ≤ 32768
    → then_half (axis_mark p.axis p.cell) (placed_in v) p.start p.end ≡ placed_in (with_placement v p)
half-same v p few room =
    let ps : List Placement = v.placements in
    rw (placement-words ps p v.cells few, placement-store ps p room, ← (length-twice ps p), length-append ps (p ∷ []))

line_same : (v : PanelView) (line : ℕ) → length v.cells < 256 → then_line (placed_in v) line ≡ placed_in (with_item v v.placements (v.cells ++ (line ∷ [])))
line_same v line few = rw (line_words_lem v.placements v.cells line few, length-append v.cells (line ∷ []))

module _ (v : PanelView) (f : FitsPanel v) where
  -- there is room for an item and its names exactly where the view has fewer than 256
  room-same : (bytes : ℕ) → items v < 256 → length (placement_bytes_of v.placements) + bytes ≤ 32768 → no_item (panel_of v) bytes ≡ false
  unfolding no_item
  room-same bytes h k =
      rw (lt-leb 256 (items v) h, lt-leb 256 (length v.cells) (omega (arith, f.cells)), le-ltb 32768 (length (placement_bytes_of v.placements) + bytes) k)

  crowded-same : (bytes : ℕ) → 256 ≤ items v → no_item (panel_of v) bytes ≡ true
  unfolding no_item
  crowded-same bytes h = rw (le-leb 256 (items v) h)

  -- an item whose ends have that fault
  limited-same : (fault bytes : ℕ) (x : InAreas) (after : PanelView)
      → (fault ≡ 0 → items v < 256 → length (placement_bytes_of v.placements) + bytes ≤ 32768)
      → (fault ≡ 0 → items v < 256 → of_placements (held_panel v) x ≡ stepped (accepted after))
      → of_placements (held_panel v) (put_item (item_fault (panel_of v) fault bytes) (panel_of v) (placement_words v.placements v.cells) (placement_store v.placements) x)
      ≡ stepped (limited_step v fault after)
  unfolding item_fault limited_step held_panel
  limited-same fault bytes x after room same = go (eqb fault 0) (leb 256 (items v)) refl refl
    where
      go : (s t : Bool) → eqb fault 0 ≡ s → leb 256 (items v) ≡ t
          → of_placements (held_panel v) (put_item (item_fault (panel_of v) fault bytes) (panel_of v) (placement_words v.placements v.cells) (placement_store v.placements) x)
          ≡ stepped (limited_step v fault after)
      go true true a b = rw (a, b, crowded-same bytes (leb-true 256 (items v) b))
      go true false a b =
          let z : fault ≡ 0 = eqb-true fault 0 a in
          let k : items v < 256 = leb-false 256 (items v) b in
          rw (a, b, room-same bytes k (room z k)) (same z k)
      go false t a b = rw (a, a)

  pub place_same : (axis : Axis) (s e : End)
      → of_placements (held_panel v) (put_placement (panel_of v) (placement_words v.placements v.cells) (placement_store v.placements) axis s e) ≡ stepped (place_step v axis s e)
  unfolding put_placement place_step
  place_same axis s e =
      let p : Placement = record { axis = axis; cell = false; start = s; end = e } in
      limited-same (ends_fault s e) 64 (write_half (axis_mark axis false) (panel_of v) (placement_words v.placements v.cells) (placement_store v.placements) s e) (with_placement v p)
      (λ x y. omega (arith, placement_bytes_lem v.placements f.placed, f.cells))
      (λ x y. ap (of_placements (held_panel v)) (half-same v p (omega (arith, f.cells)) (room x y)) ∙ unfold held_panel in refl)
    where
      room : ends_fault s e ≡ 0 → items v < 256 → length (placement_bytes_of v.placements) + names_length s e ≤ 32768
      room x y =
          let g = good_ends s e x in
          omega (arith, placement_bytes_lem v.placements f.placed, f.cells, g.0.short, g.1.short)

  pub cell_same : (cs ce rs re : End)
      → of_placements (held_panel v) (put_cell (panel_of v) (placement_words v.placements v.cells) (placement_store v.placements) (next_line v.lines) cs ce rs re) ≡ stepped (cell_step v cs ce rs re)
  unfolding put_cell cell_step
  cell_same cs ce rs re =
      limited-same (lower (ends_fault cs ce) (ends_fault rs re)) 128 (write_cell (panel_of v) (placement_words v.placements v.cells) (placement_store v.placements) (next_line v.lines) cs ce rs re) (with_cell v c r)
      (λ x y. omega (arith, placement_bytes_lem v.placements f.placed, f.cells))
      (λ x y. ap (of_placements (held_panel v)) (written x y) ∙ unfold held_panel in refl)
    where
      c : Placement
      c = half Column cs ce

      r : Placement
      r = half Row rs re

      w : PanelView
      w = with_placement v c

      room : lower (ends_fault cs ce) (ends_fault rs re) ≡ 0 → items v < 256 → length (placement_bytes_of v.placements) + (names_length cs ce + names_length rs re) ≤ 32768
      room x y =
          let g = good-cell cs ce rs re x in
          omega (arith, placement_bytes_lem v.placements f.placed, f.cells, g.0.start.short, g.0.end.short, g.1.start.short, g.1.end.short)

      written : lower (ends_fault cs ce) (ends_fault rs re) ≡ 0 → items v < 256
          → write_cell (panel_of v) (placement_words v.placements v.cells) (placement_store v.placements) (next_line v.lines) cs ce rs re ≡ placed_in (with_cell v c r)
      written x y =
          let few : length v.cells < 256 = omega (arith, f.cells) in
          let k : length (placement_bytes_of v.placements) + (names_length cs ce + names_length rs re) ≤ 32768 = room x y in
          let one : length (v.placements ++ (c ∷ [])) ≡ length v.placements + 1 = length-append v.placements (c ∷ []) in
          ap (λ (z : InAreas). then_line (then_half (axis_mark Row true) z rs re) (next_line v.lines)) (half-same v c (omega (arith, f.cells)) (omega arith))
          ∙ ap (λ (z : InAreas). then_line z (next_line v.lines)) (half-same w r (omega (arith, f.cells)) (omega (arith, length-twice v.placements c)))
          ∙ line_same (with_placement w r) (next_line v.lines) few

-- ---- the empty panel is zeros
words_none : axis_words empty_axis ≡ replicate 12480 0
unfolding held_of
words_none = sym (ap (λ (h : Held). h.words) axis_empty)

marks_none : empty_axis.marks ≡ replicate 30000 0
unfolding held_of
marks_none = sym (ap (λ (h : Held). h.marks) axis_empty)

bytes-none : names_store empty_axis ≡ replicate 32768 0
unfolding held_of
bytes-none = sym (ap (λ (h : Held). h.bytes) axis_empty)

state-none : state_of empty_axis ≡ zero_state
unfolding held_of
state-none = sym (ap (λ (h : Held). h.answer.state) axis_empty)

reading_none : reading_of empty_axis ≡ zero_reading
unfolding held_of
reading_none = sym (ap (λ (h : Held). h.answer.reading) axis_empty)

areas-none : area_words [] ≡ replicate 128 0
unfolding area_words area_regions
areas-none = lay-none (64 ∷ 64 ∷ [])

area_bytes_none : area_store [] ≡ replicate 2048 0
unfolding area_store
area_bytes_none = pad-none 2048

placements_none : placement_words [] [] ≡ replicate 1280 0
unfolding placement_words placement_regions
placements_none = lay-none (1024 ∷ 256 ∷ [])

placement_bytes_none : placement_store [] ≡ replicate 32768 0
unfolding placement_store
placement_bytes_none = pad-none 32768

-- what is held, from its parts
abbrev held : AxisState → AxisReading → List ℕ → List ℕ → List ℕ → List ℕ → List ℕ → List ℕ → List ℕ → PanelHeld
held s r w m n a b p q =
    record {
      panel = record {
        grid = record { columns = s.grid; rows = s.grid; areas = 0; placements = 0; cells = 0 };
        room = record { columns = s.room; rows = s.room; areabytes = 0; placementbytes = 0 };
      };
      reading = record { stage = 0; lines = 0; picture = record { rows = 0; width = 0; broken = false }; columns = r; rows = r };
      columns = w;
      rows = w;
      column_marks = m;
      row_marks = m;
      column_bytes = n;
      row_bytes = n;
      areas = a;
      area_bytes = b;
      placements = p;
      placement_bytes = q;
    }

parts : (s s2 : AxisState) (r r2 : AxisReading) (w w2 m m2 n n2 a a2 b b2 p p2 q q2 : List ℕ)
    → s ≡ s2 → r ≡ r2 → w ≡ w2 → m ≡ m2 → n ≡ n2 → a ≡ a2 → b ≡ b2 → p ≡ p2 → q ≡ q2 → held s r w m n a b p q ≡ held s2 r2 w2 m2 n2 a2 b2 p2 q2
parts s s2 r r2 w w2 m m2 n n2 a a2 b b2 p p2 q q2 e1 e2 e3 e4 e5 e6 e7 e8 e9 = cc

empty_same : held_panel empty_view
    ≡ held zero_state zero_reading (replicate 12480 0) (replicate 30000 0) (replicate 32768 0) (replicate 128 0) (replicate 2048 0) (replicate 1280 0) (replicate 32768 0)
unfolding held_panel empty_view picture_reading_of rows_from
empty_same =
    parts (state_of empty_axis) zero_state (reading_of empty_axis) zero_reading (axis_words empty_axis) (replicate 12480 0) empty_axis.marks (replicate 30000 0) (names_store empty_axis) (replicate 32768 0)
    (area_words []) (replicate 128 0) (area_store []) (replicate 2048 0) (placement_words [] []) (replicate 1280 0) (placement_store []) (replicate 32768 0)
    state-none reading_none words_none marks_none bytes-none areas-none area_bytes_none placements_none placement_bytes_none

-- the same, in words and bytes of which each region is zeros
zeros_held : (w b n c m a x p q : List ℕ)
    → axis_words_in Column w ≡ c → axis_words_in Row w ≡ c → marks_in Column b ≡ m → marks_in Row b ≡ m → area_words_in w ≡ a → area_bytes_in b ≡ x → placement_words_in w ≡ p → placement_bytes_in b ≡ q
    → panel_held_of zero_panel zero_panel_reading w b n n ≡ held zero_state zero_reading c m n a x p q
unfolding panel_held_of
zeros_held w b n c m a x p q e1 e2 e3 e4 e5 e6 e7 e8 = rw (e1, e2, e3, e4, e5, e6, e7, e8)

pub zeros_same : held_panel empty_view ≡ panel_held_of zero_panel zero_panel_reading (replicate panel_words 0) (replicate panel_bytes 0) (replicate 32768 0) (replicate 32768 0)
unfolding axis_words_in marks_in area_words_in area_bytes_in placement_words_in placement_bytes_in
zeros_same =
    empty_same
    ∙ sym
    (zeros_held (replicate panel_words 0) (replicate panel_bytes 0) (replicate 32768 0) (replicate 12480 0) (replicate 30000 0) (replicate 128 0) (replicate 2048 0) (replicate 1280 0) (replicate 32768 0)
    (zeros_part panel_words 0 12480 (omega arith))
    (zeros_part panel_words 12480 12480 (omega arith))
    (zeros_part panel_bytes 0 30000 (omega arith))
    (zeros_part panel_bytes 30000 30000 (omega arith))
    (zeros_part panel_words 24960 128 (omega arith))
    (zeros_part panel_bytes 60000 2048 (omega arith))
    (zeros_part panel_words 25088 1280 (omega arith))
    (zeros_part panel_bytes 62048 32768 (omega arith)))
