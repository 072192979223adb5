-- The regions of a panel's words and bytes make them up, so that what their parts say they say.
use Prim.Native.Nat.{ℕ, ◌+◌, ◌-◌}
use mathlib.Core.Path.{◌≡◌, sym, ap, ◌∙◌}
use borrow.Rule.Slice.PartMut.{mid_of}
use mathlib.Core.List.{List, ◌++◌}
use native.Mathlib.Omega.{arith}
use lib.ListN.{length, take, drop, length-drop, take-append-drop}
use lib.Seq.{take_all, drop-drop}
use Rattle.coordinates.specs.declared.axis.Axis.{Axis}
use Rattle.coordinates.specs.declared.axis.Axis.TheVariants.{Column, Row}
use Rattle.axis_tables.specs.Runs.{part_of, with_part}
use Rattle.axis_tables.proofs.Regions.{lent-own, lent-before, lent-after}
use Rattle.panel_tables.specs.Regions.{panel_words, panel_bytes, first_word, axis_words_in, area_words_in, placement_words_in, marks_in, area_bytes_in, placement_bytes_in}

-- a region before the rest
before-rest : (s : List ℕ) (a n : ℕ) (rest : List ℕ) → rest ≡ drop (a + n) s → part_of s a n ++ rest ≡ drop a s
before-rest s a n rest e = ap (λ (z : List ℕ). part_of s a n ++ z) (e ∙ sym (drop-drop n a s)) ∙ take-append-drop n (drop a s)

-- the last region
last_rest : (s : List ℕ) (a n : ℕ) → length s ≡ a + n → part_of s a n ≡ drop a s
last_rest s a n e = take_all n (drop a s) (rw length-drop (omega arith))

pub words_tiled : (w : List ℕ) → length w ≡ panel_words → axis_words_in Column w ++ (axis_words_in Row w ++ (area_words_in w ++ placement_words_in w)) ≡ w
unfolding axis_words_in area_words_in placement_words_in
words_tiled w e =
    before-rest w 0 12480 _
    (before-rest w 12480 12480 _
    (before-rest w 24960 128 _
    (last_rest w 25088 1280 e)))

pub bytes_tiled : (b : List ℕ) → length b ≡ panel_bytes → marks_in Column b ++ (marks_in Row b ++ (area_bytes_in b ++ placement_bytes_in b)) ≡ b
unfolding marks_in area_bytes_in placement_bytes_in
bytes_tiled b e =
    before-rest b 0 30000 _
    (before-rest b 30000 30000 _
    (before-rest b 60000 2048 _
    (last_rest b 62048 32768 e)))

-- ---- the words of an axis were lent and are back
module _ (w ys : List ℕ) (l : length w ≡ panel_words) (e : length ys ≡ 12480) where
  -- they hold what they came back with
  pub axis-lent : (a : Axis) → axis_words_in a (with_part w (first_word a) 12480 ys) ≡ ys
  unfolding axis_words_in
  axis-lent Column = lent-own w ys 0 12480 (omega arith) e
  axis-lent Row = lent-own w ys 12480 12480 (omega arith) e

  -- all else is as it was: the other axis, the areas, the placements
  pub rows_stay : axis_words_in Row (with_part w (first_word Column) 12480 ys) ≡ axis_words_in Row w
  unfolding axis_words_in
  rows_stay = lent-after w ys 0 12480 (omega arith) e 12480 12480 (omega arith)

  pub columns-stay : axis_words_in Column (with_part w (first_word Row) 12480 ys) ≡ axis_words_in Column w
  unfolding axis_words_in
  columns-stay = lent-before w ys 12480 12480 (omega arith) 0 12480 (omega arith)

  pub areas-stay : (a : Axis) → area_words_in (with_part w (first_word a) 12480 ys) ≡ area_words_in w
  unfolding area_words_in
  areas-stay Column = lent-after w ys 0 12480 (omega arith) e 24960 128 (omega arith)
  areas-stay Row = lent-after w ys 12480 12480 (omega arith) e 24960 128 (omega arith)

  pub placements-stay : (a : Axis) → placement_words_in (with_part w (first_word a) 12480 ys) ≡ placement_words_in w
  unfolding placement_words_in
  placements-stay Column = lent-after w ys 0 12480 (omega arith) e 25088 1280 (omega arith)
  placements-stay Row = lent-after w ys 12480 12480 (omega arith) e 25088 1280 (omega arith)

-- a part by its first place and the place after its last
pub mid_here : (s : List ℕ) (f n : ℕ) → mid_of f (f + n - f) s ≡ part_of s f n
mid_here s f n = let e : f + n - f ≡ n = omega arith in ap (λ (k : ℕ). take k (drop f s)) e
