-- What is written reads back: the areas, whether a name is an area's, and the placements. Assumes nothing.
use Prim.Native.Nat.{ℕ, zero, suc, ◌+◌, ◌-◌, ◌*◌, ◌/◌, ◌%◌, ◌≤◌, ◌<◌, min}
use mathlib.Core.Path.{◌≡◌, refl, sym, ap, ◌∙◌}
use mathlib.Core.List.{List, [], ◌∷◌, ◌++◌}
use mathlib.Core.Bool.{Bool, true, false, cond}
use native.Mathlib.Omega.{arith}
use lib.Dec.{eqb, leb, ltb}
use lib.IntN.{ℤ, pos, negsuc}
use lib.ListN.{length, get_or, take, get_or-map}
use lib.Seq.{take-suc, take-length}
use borrow.Author.Tests.{ltb-false, lt-ltb, le-leb, lt-leb}
use Rattle.coordinates.specs.declared.axis.Axis.{Axis}
use Rattle.coordinates.specs.declared.axis.Axis.TheVariants.{Column, Row}
use Rattle.text.specs.Split.{same}
use Rattle.axis_tables.specs.Runs.{bytes_of, words_from, part_of}
use Rattle.name_entries.specs.Places.{name_word}
use Rattle.name_entries.specs.Places.{name_place}
use Rattle.axis_tables.specs.Lay.{lay}
use Rattle.axis_tables.proofs.Lays.{lay-get, pad-is}
use Rattle.axis_tables.proofs.Runs.{All, word_at, name-part, name-room}
use Rattle.axis_tables.proofs.Back.{place-back}
use Rattle.panel_tables.specs.declared.AreaEdges.{AreaEdges}
use Rattle.panel_tables.specs.declared.PlacementEnd.{PlacementEnd}
use Rattle.panel_tables.specs.View.{Area, Placement, has_area, edge_outside, edges_outside, number_outside, end_outside, no_area, no_end, no_placement}
use Rattle.panel_tables.specs.Numbers.{count_of, number_of}
use Rattle.panel_tables.specs.Areas.{edges_word, edges_of, word_of, area_at, area_in, named_in, has_area_in}
use Rattle.coordinates.specs.Axes.{axis_of}
use Rattle.panel_tables.specs.Placements.{axis_mark, cell_line, end_word, end_of, placement_at, end_in, placement_in}
use Rattle.panel_tables.specs.Written.{area_name_of, area_edges_word, area_name_word, area_bytes_of, area_regions, area_words, area_store, AxisEnd, ends_of, end_name_of, axis_end_word, placement_bytes_of, placement_regions, placement_words, placement_store}
use Rattle.panel_tables.proofs.Fits.{GoodArea, GoodEnd, GoodPlacement, GoodLine, area-bytes, placement_bytes_lem}
use Rattle.panel_tables.proofs.Same.{length_ends}

true_false : true ≡ false → ⊥
true_false p = let z : ◌≡◌ {A = ℕ} 0 1 = cc in omega arith

-- of two tests of which neither holds
or_left : (s t : Bool) → cond s true t ≡ false → s ≡ false
or_left true t e = absurd (true_false e)
or_left false t e = refl

or_right : (s t : Bool) → cond s true t ≡ false → t ≡ false
or_right true t e = absurd (true_false e)
or_right false t e = e

-- ---- edges
edge_in_lem : (e : ℕ) → edge_outside e ≡ false → e < 65536
edge_in_lem e h = go (leb 1 e) h
  where
    go : (t : Bool) → cond t (ltb 10001 e) true ≡ false → e < 65536
    go true h = omega (arith, ltb-false 10001 e h)
    go false h = absurd (true_false h)

module _ (e : AreaEdges) (h : edges_outside e ≡ false) where
  after_one : cond (edge_outside e.rowend) true (cond (edge_outside e.columnstart) true (edge_outside e.columnend)) ≡ false
  after_one = or_right (edge_outside e.rowstart) _ h

  after_two : cond (edge_outside e.columnstart) true (edge_outside e.columnend) ≡ false
  after_two = or_right (edge_outside e.rowend) _ after_one

  row-start : e.rowstart < 65536
  row-start = edge_in_lem e.rowstart (or_left (edge_outside e.rowstart) _ h)

  row-end : e.rowend < 65536
  row-end = edge_in_lem e.rowend (or_left (edge_outside e.rowend) _ after_one)

  column-start : e.columnstart < 65536
  column-start = edge_in_lem e.columnstart (or_left (edge_outside e.columnstart) _ after_two)

  column-end : e.columnend < 65536
  column-end = edge_in_lem e.columnend (or_right (edge_outside e.columnstart) _ after_two)

module _ (a b c d : ℕ) (h1 : a < 65536) (h2 : b < 65536) (h3 : c < 65536) (h4 : d < 65536) where
  first_edge : (a % 65536 + b % 65536 * 65536 + c % 65536 * 4294967296 + d % 65536 * 281474976710656) % 65536 ≡ a
  first_edge = omega arith

  second-edge : (a % 65536 + b % 65536 * 65536 + c % 65536 * 4294967296 + d % 65536 * 281474976710656) / 65536 % 65536 ≡ b
  second-edge = omega arith

  third-edge : (a % 65536 + b % 65536 * 65536 + c % 65536 * 4294967296 + d % 65536 * 281474976710656) / 4294967296 % 65536 ≡ c
  third-edge = omega arith

  fourth-edge : (a % 65536 + b % 65536 * 65536 + c % 65536 * 4294967296 + d % 65536 * 281474976710656) / 281474976710656 ≡ d
  fourth-edge = omega arith

pub edges_back : (e : AreaEdges) → edges_outside e ≡ false → edges_of (edges_word e) ≡ e
unfolding edges_of edges_word
edges_back e h =
    let a : e.rowstart < 65536 = row-start e h in
    let b : e.rowend < 65536 = row-end e h in
    let c : e.columnstart < 65536 = column-start e h in
    let d : e.columnend < 65536 = column-end e h in
    rw (
      first_edge e.rowstart e.rowend e.columnstart e.columnend a b c d,
      second-edge e.rowstart e.rowend e.columnstart e.columnend a b c d,
      third-edge e.rowstart e.rowend e.columnstart e.columnend a b c d,
      fourth-edge e.rowstart e.rowend e.columnstart e.columnend a b c d,
    )

-- ---- areas
good-at : (list : List Area) (i : ℕ) → All GoodArea list → i < length list → GoodArea (get_or list i no_area)
good-at [] i g h = absurd (omega arith)
good-at (a ∷ list) zero g h = g.0
good-at (a ∷ list) (suc i) g h = good-at list i g.1 (omega arith)

module _ (list : List Area) (g : All GoodArea list) (few : length list ≤ 64) (rest : List ℕ) (i : ℕ) (h : i < length list) where
  edges_word_lem : word_of (area_words list) 0 i ≡ edges_word (get_or list i no_area).edges
  unfolding area_words area_regions edges_word
  edges_word_lem =
      rw (lt-ltb i 64 (omega arith))
      (lay-get (area_regions list) 0 i (0 + i) (omega arith) refl ∙ get_or-map area_edges_word list i no_area)

  name-word : word_of (area_words list) 64 i ≡ name_word 0 0 (length (area_bytes_of (take i list))) (length (get_or list i no_area).name)
  unfolding area_words area_regions
  name-word =
      let z : 0 + length (area_bytes_of (take i list)) ≡ length (area_bytes_of (take i list)) = omega arith in
      rw (lt-ltb i 64 (omega arith))
      (lay-get (area_regions list) 1 i (64 + i) (omega arith) (omega arith)
      ∙ word_at area_name_word area_name_of 0 list i no_area h
      ∙ ap (area_name_word (get_or list i no_area)) z)

  place_of : name_place (word_of (area_words list) 64 i) ≡ record { component = 0; place = 0; offset = length (area_bytes_of (take i list)); length = length (get_or list i no_area).name }
  place_of =
      let s : length (get_or list i no_area).name ≤ 32 = (good-at list i g h).short in
      let r : length (area_bytes_of (take i list)) + length (get_or list i no_area).name ≤ length (area_bytes_of list) = name-room area_name_word area_name_of list i no_area h in
      ap name_place name-word
      ∙ place-back 0 0 (length (area_bytes_of (take i list))) (length (get_or list i no_area).name) (omega arith) (omega arith) (omega (arith, area-bytes list g)) (omega arith)

  pub area-back : area_in (area_words list) (area_bytes_of list ++ rest) i ≡ get_or list i no_area
  unfolding area_at
  area-back =
      rw (place_of, edges_word_lem, edges_back (get_or list i no_area).edges (good-at list i g h).edges, name-part area_name_word area_name_of list i no_area rest h)

-- the same in the store
pub area-held : (list : List Area) → All GoodArea list → length list ≤ 64 → (i : ℕ) → i < length list → area_in (area_words list) (area_store list) i ≡ get_or list i no_area
unfolding area_store
area-held list g few i h =
    ap (λ (s : List ℕ). area_in (area_words list) s i) (pad-is 2048 (area_bytes_of list) (omega (arith, area-bytes list g)))
    ∙ area-back list g few _ i h

-- ---- a name among the areas
swap : (a b c d : Bool) → c ≡ cond b true d → cond a true c ≡ cond b true (cond a true d)
swap a b c d e = ap (λ (z : Bool). cond a true z) e ∙ go a b
  where
    go : (p q : Bool) → cond p true (cond q true d) ≡ cond q true (cond p true d)
    go true true = refl
    go true false = refl
    go false true = refl
    go false false = refl

has_more : (n : List ℕ) (list : List Area) (a : Area) → has_area n (list ++ (a ∷ [])) ≡ cond (same a.name n) true (has_area n list)
has_more n [] a = refl
has_more n (b ∷ list) a = swap (same b.name n) (same a.name n) (has_area n (list ++ (a ∷ []))) (has_area n list) (has_more n list a)

has_to : (list : List Area) → All GoodArea list → length list ≤ 64 → (n : List ℕ) (k : ℕ) → k ≤ length list → named_in (area_words list) (area_store list) n k ≡ has_area n (take k list)
unfolding named_in
has_to list g few n zero h = refl
has_to list g few n (suc k) h =
    ap (λ (a : Area). cond (same a.name n) true (named_in (area_words list) (area_store list) n k)) (area-held list g few k (omega arith))
    ∙ ap (λ (b : Bool). cond (same (get_or list k no_area).name n) true b) (has_to list g few n k (omega arith))
    ∙ sym (has_more n (take k list) (get_or list k no_area))
    ∙ ap (has_area n) (sym (take-suc list k no_area (omega arith)))

pub has_back : (list : List Area) → All GoodArea list → length list ≤ 64 → (n : List ℕ) → has_area_in (length list) (area_words list) (area_store list) n ≡ has_area n list
has_back list g few n =
    let z : min (length list) 64 ≡ length list = omega arith in
    ap (named_in (area_words list) (area_store list) n) z
    ∙ has_to list g few n (length list) (omega arith)
    ∙ ap (has_area n) (take-length list)

-- ---- the number of an end
pub number_back_lem : (z : ℤ) → number_outside z ≡ false → number_of (count_of z) ≡ z
number_back_lem (pos n) h =
    let k : n ≤ 65535 = ltb-false 65535 n h in
    rw (le-leb 32768 (min n 65535 + 32768) (omega arith)) (ap pos (omega arith))
number_back_lem (negsuc n) h =
    let k : n ≤ 32767 = ltb-false 32767 n h in
    rw (lt-leb 32768 (32767 - min n 32767) (omega arith)) (ap negsuc (omega arith))

count_small : (z : ℤ) → count_of z < 131072
count_small (pos n) = omega arith
count_small (negsuc n) = omega arith

module _ (k c o l a : ℕ) (h1 : k < 8) (h2 : c < 131072) (h3 : o < 65536) (h4 : l < 256) (h5 : a < 256) where
  end-kind : (k % 8 + c % 131072 * 8 + o % 65536 * 4294967296 + l % 256 * 281474976710656 + a % 256 * 72057594037927936) % 8 ≡ k
  end-kind = omega arith

  end-count : (k % 8 + c % 131072 * 8 + o % 65536 * 4294967296 + l % 256 * 281474976710656 + a % 256 * 72057594037927936) / 8 % 131072 ≡ c
  end-count = omega arith

  end-offset : (k % 8 + c % 131072 * 8 + o % 65536 * 4294967296 + l % 256 * 281474976710656 + a % 256 * 72057594037927936) / 4294967296 % 65536 ≡ o
  end-offset = omega arith

  end-length : (k % 8 + c % 131072 * 8 + o % 65536 * 4294967296 + l % 256 * 281474976710656 + a % 256 * 72057594037927936) / 281474976710656 % 256 ≡ l
  end-length = omega arith

  end-axis : (k % 8 + c % 131072 * 8 + o % 65536 * 4294967296 + l % 256 * 281474976710656 + a % 256 * 72057594037927936) / 72057594037927936 ≡ a
  end-axis = omega arith

module _ (e : PlacementEnd) (h : end_outside e ≡ false) (offset length axis : ℕ) (o : offset < 65536) (l : length < 256) (a : axis < 256) where
  end-small : e.kind < 8
  end-small = omega (arith, ltb-false 4 e.kind (or_left (ltb 4 e.kind) (number_outside e.number) h))

  pub end_back : end_of (end_word axis e offset length) ≡ record { end = e; offset = offset; length = length }
  unfolding end_of end_word
  end_back =
      let k : e.kind < 8 = end-small in
      let c : count_of e.number < 131072 = count_small e.number in
      rw (
        end-kind e.kind (count_of e.number) offset length axis k c o l a,
        end-count e.kind (count_of e.number) offset length axis k c o l a,
        end-offset e.kind (count_of e.number) offset length axis k c o l a,
        end-length e.kind (count_of e.number) offset length axis k c o l a,
        number_back_lem e.number (or_right (ltb 4 e.kind) (number_outside e.number) h),
      )

  pub axis_back_lem : end_word axis e offset length / 72057594037927936 ≡ axis
  unfolding end_word
  axis_back_lem = end-axis e.kind (count_of e.number) offset length axis end-small (count_small e.number) o l a

mark_axis : (x : Axis) (cell : Bool) → axis_of (axis_mark x cell % 2) ≡ x
mark_axis Column true = refl
mark_axis Column false = refl
mark_axis Row true = refl
mark_axis Row false = refl

mark-cell : (x : Axis) (cell : Bool) → eqb (axis_mark x cell / 2 % 2) 1 ≡ cell
mark-cell Column true = refl
mark-cell Column false = refl
mark-cell Row true = refl
mark-cell Row false = refl

mark-small : (x : Axis) (cell : Bool) → axis_mark x cell < 256
mark-small Column true = omega arith
mark-small Column false = omega arith
mark-small Row true = omega arith
mark-small Row false = omega arith

-- ---- placements
abbrev no_axis_end : AxisEnd
no_axis_end = record { axis = 0; end = no_end }

placed_at : (ps : List Placement) (i : ℕ) → All GoodPlacement ps → i < length ps → GoodPlacement (get_or ps i no_placement)
placed_at [] i g h = absurd (omega arith)
placed_at (p ∷ ps) zero g h = g.0
placed_at (p ∷ ps) (suc i) g h = placed_at ps i g.1 (omega arith)

start-at : (ps : List Placement) (i : ℕ) → i < length ps
    → get_or (ends_of ps) (i + i) no_axis_end ≡ record { axis = axis_mark (get_or ps i no_placement).axis (get_or ps i no_placement).cell; end = (get_or ps i no_placement).start }
start-at [] i h = absurd (omega arith)
start-at (p ∷ ps) zero h = refl
start-at (p ∷ ps) (suc i) h =
    let z : suc i + suc i ≡ suc (suc (i + i)) = omega arith in
    ap (λ (k : ℕ). get_or (ends_of (p ∷ ps)) k no_axis_end) z ∙ start-at ps i (omega arith)

finish_at : (ps : List Placement) (i : ℕ) → i < length ps → get_or (ends_of ps) (i + i + 1) no_axis_end ≡ record { axis = 0; end = (get_or ps i no_placement).end }
finish_at [] i h = absurd (omega arith)
finish_at (p ∷ ps) zero h = refl
finish_at (p ∷ ps) (suc i) h =
    let z : suc i + suc i + 1 ≡ suc (suc (i + i + 1)) = omega arith in
    ap (λ (k : ℕ). get_or (ends_of (p ∷ ps)) k no_axis_end) z ∙ finish_at ps i (omega arith)

-- an end at a place of the row of ends: its word and its name
module _ (ps : List Placement) (lines : List ℕ) (few : length ps ≤ 512) (k : ℕ) (h : k < length (ends_of ps)) where
  end-word-at : get_or (placement_words ps lines) k 0 ≡ axis_end_word (get_or (ends_of ps) k no_axis_end) (length (bytes_of end_name_of (take k (ends_of ps))))
  unfolding placement_words placement_regions
  end-word-at =
      let z : 0 + length (bytes_of end_name_of (take k (ends_of ps))) ≡ length (bytes_of end_name_of (take k (ends_of ps))) = omega arith in
      lay-get (placement_regions ps lines) 0 k k (omega (arith, length_ends ps)) (omega arith)
      ∙ word_at axis_end_word end_name_of 0 (ends_of ps) k no_axis_end h
      ∙ ap (axis_end_word (get_or (ends_of ps) k no_axis_end)) z

module _ (ps : List Placement) (lines : List ℕ) (g : All GoodPlacement ps) (few : length ps ≤ 512) (rest : List ℕ) where
  small-used : (k : ℕ) → k < length (ends_of ps) → length (bytes_of end_name_of (take k (ends_of ps))) < 65536
  small-used k h = omega (arith, name-room axis_end_word end_name_of (ends_of ps) k no_axis_end h, placement_bytes_lem ps g)

  end_read : (k : ℕ) (x : AxisEnd) → k < length (ends_of ps) → get_or (ends_of ps) k no_axis_end ≡ x → GoodEnd x.end → x.axis < 256
      → end_in (placement_bytes_of ps ++ rest) (end_of (get_or (placement_words ps lines) k 0)) ≡ x.end
  end_read k x h e good a =
      let u : ℕ = length (bytes_of end_name_of (take k (ends_of ps))) in
      let w : get_or (placement_words ps lines) k 0 ≡ axis_end_word x u = end-word-at ps lines few k h ∙ ap (λ (y : AxisEnd). axis_end_word y u) e in
      let n : part_of (placement_bytes_of ps ++ rest) u (length x.end.name) ≡ x.end.name =
      ap (λ (y : AxisEnd). part_of (placement_bytes_of ps ++ rest) u (length y.end.name)) (sym e)
      ∙ name-part axis_end_word end_name_of (ends_of ps) k no_axis_end rest h
      ∙ ap end_name_of e in
      rw (w, end_back x.end.end good.end u (length x.end.name) x.axis (small-used k h) (omega (arith, good.short)) a, n)

  axis-read : (k : ℕ) (x : AxisEnd) → k < length (ends_of ps) → get_or (ends_of ps) k no_axis_end ≡ x → GoodEnd x.end → x.axis < 256
      → get_or (placement_words ps lines) k 0 / 72057594037927936 ≡ x.axis
  axis-read k x h e good a =
      let u : ℕ = length (bytes_of end_name_of (take k (ends_of ps))) in
      let w : get_or (placement_words ps lines) k 0 ≡ axis_end_word x u = end-word-at ps lines few k h ∙ ap (λ (y : AxisEnd). axis_end_word y u) e in
      ap (λ (j : ℕ). j / 72057594037927936) w
      ∙ axis_back_lem x.end.end good.end u (length x.end.name) x.axis (small-used k h) (omega (arith, good.short)) a

  pub placement-back : (i : ℕ) → i < length ps → placement_in (placement_words ps lines) (placement_bytes_of ps ++ rest) i ≡ get_or ps i no_placement
  unfolding placement_at
  placement-back i h =
      let p : Placement = get_or ps i no_placement in
      let s : AxisEnd = record { axis = axis_mark p.axis p.cell; end = p.start } in
      let f : AxisEnd = record { axis = 0; end = p.end } in
      let good : GoodPlacement p = placed_at ps i g h in
      let j : i + i < length (ends_of ps) = omega (arith, length_ends ps) in
      let k : i + i + 1 < length (ends_of ps) = omega (arith, length_ends ps) in
      rw (
        lt-ltb i 512 (omega arith),
        end_read (i + i) s j (start-at ps i h) good.start (mark-small p.axis p.cell),
        axis-read (i + i) s j (start-at ps i h) good.start (mark-small p.axis p.cell),
        mark_axis p.axis p.cell,
        mark-cell p.axis p.cell,
        end_read (i + i + 1) f k (finish_at ps i h) good.end (omega arith),
      )

-- the same in the store
pub placement_held : (ps : List Placement) (lines : List ℕ) → All GoodPlacement ps → length ps ≤ 512 → (i : ℕ) → i < length ps → placement_in (placement_words ps lines) (placement_store ps) i ≡ get_or ps i no_placement
unfolding placement_store
placement_held ps lines g few i h =
    ap (λ (s : List ℕ). placement_in (placement_words ps lines) s i) (pad-is 32768 (placement_bytes_of ps) (omega (arith, placement_bytes_lem ps g)))
    ∙ placement-back ps lines g few _ i h

-- the line of a cell
line_at : (lines : List ℕ) (k : ℕ) → All GoodLine lines → k < length lines → get_or lines k 0 ≤ 32768
line_at [] k g h = absurd (omega arith)
line_at (n ∷ lines) zero g h = g.0
line_at (n ∷ lines) (suc k) g h = line_at lines k g.1 (omega arith)

pub line-back : (ps : List Placement) (lines : List ℕ) → All GoodLine lines → length lines ≤ 256 → (k : ℕ) → k < length lines → cell_line (placement_words ps lines) k ≡ get_or lines k 0
unfolding cell_line placement_words placement_regions
line-back ps lines g few k h =
    let e : get_or (lay (placement_regions ps lines)) (1024 + k) 0 ≡ get_or lines k 0 = lay-get (placement_regions ps lines) 1 k (1024 + k) (omega arith) (omega arith) in
    let small : get_or lines k 0 ≤ 32768 = line_at lines k g h in
    let r : get_or lines k 0 % 4294967296 ≡ get_or lines k 0 = omega arith in
    rw (lt-ltb k 256 (omega arith), e, r)
