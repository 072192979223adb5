-- Both axes end in their parts of the words: each part holds what its axis leaves, and all other words are as they were. Assumes nothing.
use Prim.Native.Nat.{ℕ}
use mathlib.Core.Path.{◌≡◌, ap, ◌∙◌}
use mathlib.Core.List.{List, ◌++◌}
use native.Mathlib.Omega.{arith}
use lib.ListN.{length, take, drop}
use Rattle.coordinates.specs.declared.axis.Axis.{Axis}
use Rattle.coordinates.specs.declared.axis.Axis.TheVariants.{Column, Row}
use Rattle.axis_tables.specs.declared.AxisState.{AxisState}
use Rattle.axis_tables.specs.Readings.{AxisReading}
use Rattle.axis_tables.specs.Runs.{part_of}
use Rattle.axis_tables.proofs.Regions.{part_length}
use Rattle.panel_tables.specs.declared.Panel.{Panel}
use Rattle.panel_tables.specs.Readings.{Reading}
use Rattle.panel_tables.specs.Axes.{state_in}
use Rattle.panel_tables.specs.Regions.{panel_words, first_word, axis_words_in, area_words_in, placement_words_in}
use Rattle.panel_tables.proofs.Regions.{axis-lent, rows_stay, columns-stay, areas-stay, placements-stay}
use Rattle.sheet_end.specs.End.{EndedAxis, end_in}
use Rattle.sheet_end.proofs.Puts.{end-length}
use Rattle.sheet.specs.Runs.{ended_by, ended_panel}
use Rattle.sheet.specs.Steps.{back_in, ended_in}

-- ---- one axis

-- the part that comes back is as long as the one that was lent
back-length : (a : Axis) (s : AxisState) (r : AxisReading) (w : List ℕ) → length w ≡ panel_words → length (end_in s r (axis_words_in a w)).words ≡ 12480
unfolding axis_words_in
back-length Column s r w l = end-length s r (part_of w 0 12480) ∙ part_length w 0 12480 (omega arith)
back-length Row s r w l = end-length s r (part_of w 12480 12480) ∙ part_length w 12480 12480 (omega arith)

-- a part that was cut out of the words, ended and put back
pub put_back : (a : Axis) (w : List ℕ) (f k : ℕ) → f ≡ first_word a → k ≡ 12480 → (s : AxisState) (r : AxisReading) (x : EndedAxis) → x ≡ end_in s r (take k (drop f w))
    → record { answer = x.answer; words = take f w ++ (x.words ++ drop k (drop f w)) } ≡ ended_in a s r w
unfolding ended_in axis_words_in
put_back a w f k e d s r x h =
    let g : x ≡ end_in s r (part_of w (first_word a) 12480) = h ∙ ap (λ (n : ℕ). end_in s r (take n (drop f w))) d ∙ ap (λ (n : ℕ). end_in s r (take 12480 (drop n w))) e in
    ap {B = EndedAxis} (λ (n : ℕ). record { answer = x.answer; words = take f w ++ (x.words ++ drop n (drop f w)) }) d
    ∙ ap {B = EndedAxis} (λ (n : ℕ). record { answer = x.answer; words = take n w ++ (x.words ++ drop 12480 (drop n w)) }) e
    ∙ ap (back_in a w) g

-- the part then holds what the axis leaves
part_back : (a : Axis) (s : AxisState) (r : AxisReading) (w : List ℕ) → length w ≡ panel_words → (x : EndedAxis) → x ≡ ended_in a s r w
    → record { answer = x.answer; words = axis_words_in a x.words } ≡ end_in s r (axis_words_in a w)
unfolding ended_in
part_back a s r w l x e =
    let z : EndedAxis = end_in s r (axis_words_in a w) in
    ap {B = EndedAxis} (λ (u : EndedAxis). record { answer = u.answer; words = axis_words_in a u.words }) e
    ∙ ap {B = EndedAxis} (λ (u : List ℕ). record { answer = z.answer; words = u }) (axis-lent w z.words l (back-length a s r w l) a)

-- ---- both
module _ (p : Panel) (q : Reading) (w : List ℕ) (l : length w ≡ panel_words) (x y : EndedAxis) (m : length x.words ≡ panel_words) (e : x ≡ ended_in Column (state_in p Column) q.columns w) (d : y ≡ ended_in Row (state_in p Row) q.rows x.words) where
  -- the end of the columns leaves the rows, that of the rows the columns
  rows-kept : axis_words_in Row x.words ≡ axis_words_in Row w
  unfolding ended_in
  rows-kept = ap (λ (u : EndedAxis). axis_words_in Row u.words) e ∙ rows_stay w (end_in (state_in p Column) q.columns (axis_words_in Column w)).words l (back-length Column (state_in p Column) q.columns w l)

  columns-kept : axis_words_in Column y.words ≡ axis_words_in Column x.words
  unfolding ended_in
  columns-kept =
      ap (λ (u : EndedAxis). axis_words_in Column u.words) d
      ∙ columns-stay x.words (end_in (state_in p Row) q.rows (axis_words_in Row x.words)).words m (back-length Row (state_in p Row) q.rows x.words m)

  pub both-ended : ended_by p (record { answer = x.answer; words = axis_words_in Column y.words }) (record { answer = y.answer; words = axis_words_in Row y.words })
      ≡ ended_panel p q (axis_words_in Column w) (axis_words_in Row w)
  unfolding ended_panel
  both-ended =
      let a : EndedAxis = record { answer = x.answer; words = axis_words_in Column y.words } in
      let b : EndedAxis = record { answer = y.answer; words = axis_words_in Row y.words } in
      let f : a ≡ end_in (state_in p Column) q.columns (axis_words_in Column w) = ap {B = EndedAxis} (λ (u : List ℕ). record { answer = x.answer; words = u }) columns-kept ∙ part_back Column (state_in p Column) q.columns w l x e in
      let g : b ≡ end_in (state_in p Row) q.rows (axis_words_in Row w) = part_back Row (state_in p Row) q.rows x.words m y d ∙ ap (end_in (state_in p Row) q.rows) rows-kept in
      ap (λ (u : EndedAxis). ended_by p u b) f
      ∙ ap (ended_by p (end_in (state_in p Column) q.columns (axis_words_in Column w))) g

  -- and both leave the areas and the placements
  pub areas-kept : area_words_in y.words ≡ area_words_in w
  unfolding ended_in
  areas-kept =
      ap (λ (u : EndedAxis). area_words_in u.words) d
      ∙ areas-stay x.words (end_in (state_in p Row) q.rows (axis_words_in Row x.words)).words m (back-length Row (state_in p Row) q.rows x.words m) Row
      ∙ ap (λ (u : EndedAxis). area_words_in u.words) e
      ∙ areas-stay w (end_in (state_in p Column) q.columns (axis_words_in Column w)).words l (back-length Column (state_in p Column) q.columns w l) Column

  pub placements-kept : placement_words_in y.words ≡ placement_words_in w
  unfolding ended_in
  placements-kept =
      ap (λ (u : EndedAxis). placement_words_in u.words) d
      ∙ placements-stay x.words (end_in (state_in p Row) q.rows (axis_words_in Row x.words)).words m (back-length Row (state_in p Row) q.rows x.words m) Row
      ∙ ap (λ (u : EndedAxis). placement_words_in u.words) e
      ∙ placements-stay w (end_in (state_in p Column) q.columns (axis_words_in Column w)).words l (back-length Column (state_in p Column) q.columns w l) Column
