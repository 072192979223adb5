-- The areas of a picture lie within its rows and its width, broken or not. Assumes nothing.
use Prim.Native.Nat.{ℕ, ◌+◌, ◌≤◌}
use mathlib.Core.Path.{◌≡◌, refl, sym, ap, subst}
use mathlib.Core.List.{List, [], ◌∷◌}
use mathlib.Core.Bool.{Bool, true, false, cond, not, true≢false}
use native.Mathlib.Omega.{arith}
use lib.Dec.{eqb}
use lib.ListN.{length, replicate, length-append, length-replicate}
use borrow.Author.Tests.{eqb-true}
use Rattle.coordinates.specs.declared.axis.Axis.{Axis}
use Rattle.coordinates.specs.declared.axis.Axis.TheVariants.{Column, Row}
use Rattle.text.specs.Split.{same}
use Rattle.axis_tables.proofs.Runs.{All, all_append}
use Rattle.picture_rules.specs.Picture.{Word, Picture, PictureArea, is_dots, width_of}
use Rattle.picture_rules.specs.Steps.{EqualRun, runs_of, run_box, continues, longer, drawn, PictureState, no_rows, name_run_step, run_step, runs_from, row_step, rows_from, taken_of}
use Rattle.picture_rules.proofs.Runs.{written, runs_written}
use Rattle.picture_rules.proofs.Taken.{row_counts}
use Rattle.picture_areas.specs.Runs.{table_of}
use Rattle.sheet_rules.specs.Contents.{drawn_in}
use Rattle.sheet_rules.specs.Pictures.{areas_of, with_words, other_width}
use Rattle.panel_rules.specs.Ranges.{largest, Even}

-- every area ends by the line after so many columns and by the line after so many rows
abbrev Inside : ℕ → ℕ → List PictureArea → Type 0
Inside width rows [] = Unit {0}
Inside width rows (x ∷ l) = (x.box.columnend ≤ width + 1) × (x.box.rowend ≤ rows + 1) × Inside width rows l

-- ---- one run

module _ (width row : ℕ) where
  one-more-row : (l : List PictureArea) → Inside width row l → Inside width (row + 1) l
  one-more-row [] h = tt
  one-more-row (x ∷ l) h = (h.0, omega (arith, h.1), one-more-row l h.2)

  drawn-inside : (run : PictureArea) (l : List PictureArea) → run.box.columnend ≤ width + 1 → run.box.rowend ≤ row + 1 → Inside width row l → Inside width row (drawn run l)
  unfolding drawn
  drawn-inside run [] c r h = (c, r, tt)
  drawn-inside run (a ∷ rest) c r h = go (same a.name run.name) (continues a.box run.box) (drawn-inside run rest c r h.2)
    where
      go : (t u : Bool) → Inside width row (drawn run rest)
          → Inside width row (cond t (record { name = a.name; box = cond u (longer a.box run.box) a.box } ∷ rest) (a ∷ drawn run rest))
      go true true k = (h.0, r, h.2)
      go true false k = h
      go false u k = (h.0, h.1, k)

  step-inside : (column : ℕ) (y : EqualRun) (s : PictureState) → column + y.count ≤ width + 1 → Inside width row s.areas → Inside width row (run_step row column y s).areas
  unfolding run_step
  step-inside column y s c h = go (is_dots y.word)
    where
      run : PictureArea
      run = record { name = y.word; box = run_box row column y.count }

      go : (t : Bool) → Inside width row (cond t s (name_run_step run s)).areas
      go true = h
      go false = drawn-inside run s.areas c (omega arith) h

  runs-inside : (ys : List EqualRun) (column : ℕ) (s : PictureState) → column + length (written ys) ≤ width + 1 → Inside width row s.areas → Inside width row (runs_from row column ys s).areas
  unfolding runs_from
  runs-inside [] column s c h = h
  runs-inside (y ∷ ys) column s c h =
      let n = length-append (replicate y.count y.word) (written ys) in
      let k = length-replicate y.count y.word in
      runs-inside ys (column + y.count) (run_step row column y s) (omega (arith, c, n, k)) (step-inside column y s (omega (arith, c, n, k)) h)

-- ---- rows

row_inside : (width : ℕ) (s : PictureState) (ws : List Word) → length ws ≡ width → Inside width s.rows s.areas → Inside width (s.rows + 1) (row_step s ws).areas
unfolding row_step
row_inside width s ws e h =
    runs-inside width (s.rows + 1) (runs_of ws) 1 s (omega (arith, e, ap length (runs_written ws))) (one-more-row width s.rows s.areas h)

rows_inside : (width : ℕ) (q : Picture) (s : PictureState) → All (λ row. length row ≡ width) q → Inside width s.rows s.areas → Inside width (s.rows + length q) (rows_from s q).areas
unfolding rows_from
rows_inside width [] s g h = let e : s.rows ≡ s.rows + 0 = omega arith in subst (λ (n : ℕ). Inside width n s.areas) e h
rows_inside width (ws ∷ q) s g h =
    let e : (row_step s ws).rows + length q ≡ s.rows + length (ws ∷ q) = omega (arith, row_counts s ws) in
    subst (λ (n : ℕ). Inside width n (rows_from (row_step s ws) q).areas) e
    (rows_inside width q (row_step s ws) g.1 (subst (λ (n : ℕ). Inside width n (row_step s ws).areas) (sym (row_counts s ws)) (row_inside width s ws g.0 h)))

-- ---- a picture

largest-inside : (a : Axis) (width rows : ℕ) (l : List PictureArea) → Inside width rows l → (largest Column (table_of l) ≤ width) × (largest Row (table_of l) ≤ rows)
largest-inside a width rows [] h = (omega arith, omega arith)
largest-inside a width rows (x ∷ l) h = let k = largest-inside a width rows l h.2 in (omega (arith, h.0, k.0), omega (arith, h.1, k.1))

-- its areas span no more tracks than it has
pub picture_span : (q : Picture) → Even q → (a : Axis) → largest a (areas_of q) ≤ drawn_in a q
picture_span q even a = go a
  where
    inside : Inside (width_of q) (0 + length q) (taken_of q).areas
    inside = rows_inside (width_of q) q no_rows even tt

    go : (b : Axis) → largest b (areas_of q) ≤ drawn_in b q
    go Column = (largest-inside a (width_of q) (0 + length q) (taken_of q).areas inside).0
    go Row = omega (arith, (largest-inside a (width_of q) (0 + length q) (taken_of q).areas inside).1)

-- ---- one row more, of the width of the first

pub even_more : (q : Picture) (ws : List Word) → Even q → other_width q (length ws) ≡ false → Even (with_words q ws) × (width_of (with_words q ws) ≡ length ws) × (width_of q ≤ length ws)
even_more [] ws even e = ((refl, tt), refl, omega arith)
even_more (first ∷ rest) ws even e =
    let w = width (eqb (length ws) (length first)) refl e in
    ((refl, all_append (λ (row : List Word). length row ≡ length first) rest (ws ∷ []) even.1 (w, tt)), sym w, omega (arith, w))
  where
    width : (t : Bool) → eqb (length ws) (length first) ≡ t → not t ≡ false → length ws ≡ length first
    width true k z = eqb-true (length ws) (length first) k
    width false k z = absurd (true≢false z)
