-- A row on the table of a whole picture's areas: it leaves the table of the picture with that row. Assumes nothing.
use Prim.Native.Nat.{ℕ, ◌+◌, ◌≤◌, ◌<◌}
use mathlib.Core.Path.{◌≡◌, refl, ap, ◌∙◌}
use mathlib.Core.List.{List, [], ◌∷◌, ◌++◌}
use native.Mathlib.Omega.{arith}
use lib.ListN.{length}
use Rattle.sheet_forms.specs.Fields.{row_fault}
use Rattle.panel_tables.specs.declared.Panel.{Panel}
use Rattle.panel_tables.specs.Written.{area_words, area_store}
use Rattle.picture_rules.specs.Picture.{Word, Picture}
use Rattle.picture_rules.specs.Steps.{PictureState, no_rows, row_step, rows_from, taken_of}
use Rattle.picture_rules.proofs.Taken.{row_counts}
use Rattle.picture_areas.specs.Runs.{InPicture, table_of}
use Rattle.picture_areas.proofs.Same.{TableFits}
use Rattle.picture_rows.specs.Steps.{refused_row, row_in}
use Rattle.picture_rows.specs.Rows.{PictureTaken}
use Rattle.picture_rows.proofs.Same.{row_same}

rows_more : (q : Picture) (s : PictureState) (ws : List Word) → rows_from s (q ++ (ws ∷ [])) ≡ row_step (rows_from s q) ws
unfolding rows_from
rows_more [] s ws = refl
rows_more (r ∷ q) s ws = rows_more q (row_step s r) ws

rows_in : (q : Picture) (s : PictureState) → (rows_from s q).rows ≡ s.rows + length q
unfolding rows_from
rows_in [] s = omega arith
rows_in (r ∷ q) s = omega (arith, rows_in q (row_step s r), row_counts s r)

-- a picture with one row more, taken
pub taken_more : (q : Picture) (ws : List Word) → taken_of (q ++ (ws ∷ [])) ≡ row_step (taken_of q) ws
taken_more q ws = rows_more q no_rows ws

pub taken_rows : (q : Picture) → (taken_of q).rows ≡ length q
taken_rows q = rows_in q no_rows ∙ omega arith

module _ (p : Panel) (q : Picture) (ws : List Word) where
  abbrev more : Picture
  more = q ++ (ws ∷ [])

  abbrev after : ℕ → InPicture
  after row = row_in p (area_words (table_of (taken_of q).areas)) (area_store (table_of (taken_of q).areas)) ws row

  -- as `row_same`, on the rows so far
  pub picture-row : TableFits p (taken_of q).areas → row_fault ws ≡ 0 → length q < 10000
      → (length (taken_of more).areas ≤ 64 → PictureTaken p q ws (after (length q + 1)) × TableFits (after (length q + 1)).answer.panel (taken_of more).areas)
      × (64 < length (taken_of more).areas → (after (length q + 1)).answer ≡ refused_row 8 p)
  picture-row fit fault few =
      let n = ap (λ (k : ℕ). k + 1) (taken_rows q) in
      rw (taken_more q ws, ← n) (row_same p (taken_of q) ws fit fault (omega (arith, few, taken_rows q)))
