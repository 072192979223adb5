-- Line after line, the whole answer is printed. Assumes nothing.
use Prim.Native.Nat.{ℕ, zero, suc, ◌+◌, ◌-◌, ◌≤◌, ◌<◌}
use mathlib.Core.Path.{◌≡◌, refl, sym, ap, ◌∙◌}
use mathlib.Core.List.{List, [], ◌∷◌, ◌++◌}
use mathlib.Core.Bool.{Bool, true, false, cond}
use native.Mathlib.Numerals.{add-one}
use native.Mathlib.Omega.{arith}
use lib.Dec.{ltb}
use lib.ListN.{length, get_or, drop, drop_of_length-le}
use lib.Seq.{drop-cons}
use borrow.Author.Tests.{ltb-true, ltb-false, lt-ltb, le-ltb}
use Rattle.coordinates.specs.declared.axis.Axis.{Axis}
use Rattle.coordinates.specs.declared.axis.Axis.TheVariants.{Column, Row}
use Rattle.track_rules.specs.declared.GridTrack.{GridTrack}
use Rattle.track_rules.specs.Tracks.{zero_grid_track}
use Rattle.track_rules.specs.Records.{listed, records_in}
use Rattle.track_rules.proofs.Lists.{length-listed, get-listed}
use Rattle.track_rules.proofs.RecordList.{records-length}
use Rattle.panel_tables.specs.Axes.{grid_in}
use Rattle.panel_rules.specs.Calls.{words_in, template_in, spares_in, axis_tracks}
use Rattle.panel_rules.specs.Runs.{names_of, marks_of}
use Rattle.panel_calls.specs.Carried.{carried_to}
use Rattle.panel_calls.proofs.Carried.{few_records, carried_on_lem, carried-record}
use Rattle.panel_text.specs.Lines.{record_line}
use Rattle.panel_answer.specs.Listed.{AnswerLine, Size, Record, Place, Cell, End}
use Rattle.panel_answer.specs.Answer.{GridHeld, records_of_axis, record_count, record_lines, place_line_of, cell_line_of, size_line_of, axis_lines, answer_lines}
use Rattle.panel_answer.specs.Walk.{place_from, cell_from, after_axis, line_after, following}

-- lines for two axes and then m
parted : (c r p n : ℕ) → c + r + p + 2 ≤ n → (m : ℕ) × (n ≡ suc (c + suc (r + m))) × (p ≤ m)
parted c r p n g = (n - (c + r + 2), omega arith, omega arith)

total : (c r p : ℕ) → c ≤ 60001 → r ≤ 60001 → p ≤ 768 → c + r + p + 2 ≤ 120772
total c r p a b g = omega arith

-- ---- lines of a list, one for each number from some place on

module _ (line : ℕ → List ℕ) (count : ℕ) where
  lines_on : ℕ → List (List ℕ)
  lines_on i = drop i (listed line count)

  on-next : (i : ℕ) → i < count → lines_on i ≡ line i ∷ lines_on (i + 1)
  unfolding lines_on
  on-next i g =
      let l = listed line count in
      let e : i < length l = rw (length-listed line count) g in
      drop-cons l i [] e ∙ rw (get-listed line count i [] g, add-one)

  on-end : (i : ℕ) → count ≤ i → lines_on i ≡ []
  unfolding lines_on
  on-end i g =
      let l = listed line count in
      let e : length l ≤ i = rw (length-listed line count) g in
      drop_of_length-le l e

module _ (h : GridHeld) where
  ended : (n : ℕ) → following h n End ≡ []
  ended zero = refl
  ended (suc n) = refl

  -- ---- the cells

  cells : ℕ → List (List ℕ)
  cells k = lines_on (cell_line_of h) h.grid.cells k

  cells-follow : (n k : ℕ) → h.grid.cells ≤ k + n → following h n (cell_from h.grid k) ≡ cells k
  unfolding cells
  cells-follow zero k g = sym (on-end (cell_line_of h) h.grid.cells k (omega arith))
  cells-follow (suc n) k g = go (ltb k h.grid.cells) refl (cells-follow n (k + 1) (omega arith))
    where
      go : (t : Bool) → ltb k h.grid.cells ≡ t → following h n (cell_from h.grid (k + 1)) ≡ cells (k + 1)
          → following h (suc n) (cond t (Cell k) End) ≡ cells k
      go true e f = ap (λ (l : List (List ℕ)). cell_line_of h k ∷ l) f ∙ sym (on-next (cell_line_of h) h.grid.cells k (ltb-true k h.grid.cells e))
      go false e f = sym (on-end (cell_line_of h) h.grid.cells k (ltb-false k h.grid.cells e))

  -- ---- the placements

  places : ℕ → List (List ℕ)
  places i = lines_on (place_line_of h) h.grid.placements i

  placements-follow : (n i : ℕ) → h.grid.placements + h.grid.cells ≤ i + n → i ≤ h.grid.placements → following h n (place_from h.grid i) ≡ places i ++ cells 0
  unfolding places
  placements-follow zero i g k = rw (on-end (place_line_of h) h.grid.placements i (omega arith)) (cells-follow zero 0 (omega arith))
  placements-follow (suc n) i g k =
      go (ltb i h.grid.placements) refl (λ (l : i < h.grid.placements). placements-follow n (i + 1) (omega arith) (omega (arith, l)))
    where
      go : (t : Bool) → ltb i h.grid.placements ≡ t → (i < h.grid.placements → following h n (place_from h.grid (i + 1)) ≡ places (i + 1) ++ cells 0)
          → following h (suc n) (cond t (Place i) (cell_from h.grid 0)) ≡ places i ++ cells 0
      go true e f =
          let l = ltb-true i h.grid.placements e in
          ap (λ (z : List (List ℕ)). place_line_of h i ∷ z) (f l) ∙ ap (λ (z : List (List ℕ)). z ++ cells 0) (sym (on-next (place_line_of h) h.grid.placements i l))
      go false e f =
          let l = ltb-false i h.grid.placements e in
          cells-follow (suc n) 0 (omega arith) ∙ ap (λ (z : List (List ℕ)). z ++ cells 0) (sym (on-end (place_line_of h) h.grid.placements i l))

  -- ---- the records of an axis

  module _ (a : Axis) where
    abbrev count : ℕ
    count = record_count h a

    record-next : (i : ℕ) → i < count → drop i (records_of_axis h a) ≡ get_or (records_of_axis h a) i zero_grid_track ∷ drop (i + 1) (records_of_axis h a)
    record-next i g =
        let s = grid_in h.grid a in
        let words = words_in (names_of h.tables) a in
        let e : i < length (records_of_axis h a) = rw (records-length (axis_tracks s) (template_in s words) (spares_in s words) (marks_of h.tables a)) g in
        drop-cons (records_of_axis h a) i zero_grid_track e ∙ rw add-one

    record-end : (i : ℕ) → count ≤ i → drop i (records_of_axis h a) ≡ []
    record-end i g =
        let s = grid_in h.grid a in
        let words = words_in (names_of h.tables) a in
        let e : length (records_of_axis h a) ≤ i = rw (records-length (axis_tracks s) (template_in s words) (spares_in s words) (marks_of h.tables a)) g in
        drop_of_length-le (records_of_axis h a) e

    carried : ℕ → AnswerLine
    carried i = Record a i (carried_to (grid_in h.grid a) (words_in (names_of h.tables) a) (marks_of h.tables a) i)

    -- the line of record i, and the lines after it
    lines : ℕ → List (List ℕ)
    lines i = record_lines i (drop i (records_of_axis h a))

    lines_next : (i : ℕ) → i < count → lines i ≡ record_line i (get_or (records_of_axis h a) i zero_grid_track) ∷ lines (i + 1)
    unfolding lines
    lines_next i g =
        ap (record_lines i) (record-next i g)
        ∙ ap (λ (j : ℕ). record_line i (get_or (records_of_axis h a) i zero_grid_track) ∷ record_lines j (drop (i + 1) (records_of_axis h a))) (sym (add-one i))

    lines_end : (i : ℕ) → count ≤ i → lines i ≡ []
    unfolding lines
    lines_end i g = ap (record_lines i) (record-end i g)

    after : ℕ → AnswerLine
    after i = line_after h (carried i)

    after-record : (i : ℕ) → i + 1 < count → after i ≡ carried (i + 1)
    unfolding after carried
    after-record i g =
        rw (lt-ltb (i + 1) (records_in (axis_tracks (grid_in h.grid a))) g)
        (ap (Record a (i + 1)) (carried_on_lem (grid_in h.grid a) (words_in (names_of h.tables) a) (marks_of h.tables a) i (omega (arith, few_records (grid_in h.grid a)))))

    after_last : (i : ℕ) → i + 1 ≡ count → after i ≡ after_axis h.grid a
    unfolding after carried
    after_last i g = rw (le-ltb (i + 1) (records_in (axis_tracks (grid_in h.grid a))) (omega arith))

    step : (n i : ℕ) → i < count → following h (suc n) (carried i) ≡ record_line i (get_or (records_of_axis h a) i zero_grid_track) ∷ following h n (after i)
    unfolding after carried
    step n i g =
        ap (λ (r : GridTrack). record_line i r ∷ following h n (after i))
        (carried-record (grid_in h.grid a) (words_in (names_of h.tables) a) (marks_of h.tables a) i zero_grid_track g)

    -- from record i on, with k more after it
    records-follow : (k m i : ℕ) → i + suc k ≡ count → following h (suc (k + m)) (carried i) ≡ lines i ++ following h m (after_axis h.grid a)
    records-follow zero m i e =
        let z : 0 + m ≡ m = omega arith in
        step (0 + m) i (omega arith)
        ∙ rw (z, after_last i (omega arith), lines_next i (omega arith), lines_end (i + 1) (omega arith))
    records-follow (suc k) m i e =
        let z : suc k + m ≡ suc (k + m) = omega arith in
        step (suc k + m) i (omega arith)
        ∙ rw (z, after-record i (omega arith), records-follow k m (i + 1) (omega arith), lines_next i (omega arith))

    some-records : 1 ≤ count
    some-records = omega arith

    -- the size and the records of an axis
    axis-follow : (m : ℕ) → following h (suc (count + m)) (Size a) ≡ axis_lines h a ++ following h m (after_axis h.grid a)
    unfolding carried lines
    axis-follow m =
        let e : count + m ≡ suc (count - 1 + m) = omega (arith, some-records) in
        ap (λ (n : ℕ). size_line_of h a ∷ following h n (carried 0)) e
        ∙ ap (λ (l : List (List ℕ)). size_line_of h a ∷ l) (records-follow (count - 1) m 0 (omega (arith, some-records)))

  -- the whole answer, where no fewer lines are taken than it has
  pub all_lines : (n : ℕ) → record_count h Column + record_count h Row + (h.grid.placements + h.grid.cells) + 2 ≤ n → following h n (Size Column) ≡ answer_lines h
  unfolding answer_lines places cells lines_on
  all_lines n g =
      let (m, e, k) = parted (record_count h Column) (record_count h Row) (h.grid.placements + h.grid.cells) n g in
      ap (λ (j : ℕ). following h j (Size Column)) e
      ∙ axis-follow Column (suc (record_count h Row + m))
      ∙ ap (λ (l : List (List ℕ)). axis_lines h Column ++ l) (axis-follow Row m ∙ ap (λ (l : List (List ℕ)). axis_lines h Row ++ l) (placements-follow m 0 (omega (arith, k)) (omega arith)))

  -- 120,772 lines are enough for every panel of at most 512 placements, halves of cells among them, and 256 cells
  pub enough : h.grid.placements + h.grid.cells ≤ 768 → following h 120772 (Size Column) ≡ answer_lines h
  enough g = all_lines 120772 (total (record_count h Column) (record_count h Row) (h.grid.placements + h.grid.cells) (few_records (grid_in h.grid Column)) (few_records (grid_in h.grid Row)) g)
