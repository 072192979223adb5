-- A picture taken row by row is not broken exactly if each of its names has a filled box, and then has these areas. Assumes nothing.
use Prim.Native.Nat.{ℕ, ◌+◌}
use mathlib.Core.Path.{◌≡◌, refl, sym, ◌∙◌}
use mathlib.Core.List.{List, [], ◌∷◌, ◌++◌}
use mathlib.Core.Bool.{true, false, false≢true}
use mathlib.Core.Logic.{◌↔◌}
use native.Mathlib.Omega.{arith}
use lib.ListN.{length}
use Rattle.picture_rules.specs.Picture.{Word, Picture, ElementAt, EqualWidth, width_of, AllFilled, PictureArea, Pairs, NoCell, NamesOf, AreasOf, PictureCounts}
use Rattle.picture_rules.specs.Steps.{PictureState, no_rows, row_step, rows_from, taken_of}
use Rattle.picture_rules.proofs.Cells.{element-first, element-right}
use Rattle.picture_rules.proofs.Boxes.{disjoint, starts-in, ends-in}
use Rattle.picture_rules.proofs.Taken.{Sound, rows_sound, rows_stay, row_counts, rows_named}

no_names : NamesOf [] []
no_names = record { stands = λ a m. absurd m; every = λ n h. absurd (omega (arith, h.cell.1.0, h.cell.1.1)); once = tt }

no-areas : AreasOf [] []
no-areas = record { names = no_names; filled = λ a m. absurd m; order = tt }

taken : (p : Picture) → Sound p p (taken_of p)
taken p = rows_sound [] p no_rows refl refl no-areas

-- the names of the areas have filled boxes
areas_filled : (p : Picture) (l : List PictureArea) → AreasOf p l → AllFilled p
areas_filled p l a n h = let k = a.names.every n h in (k.0, a.filled _ k.1)

-- rows of other widths don't matter here: the sheet refuses them at once
pub picture_exactly : (p : Picture) → ((taken_of p).broken ≡ false) ↔ AllFilled p
picture_exactly p = (λ h. areas_filled p (taken_of p).areas ((taken p).areas h), (taken p).unbroken)

pub picture_areas : (p : Picture) → (taken_of p).broken ≡ false → AreasOf p (taken_of p).areas
picture_areas p = (taken p).areas

-- broken or not, the areas have the names of the picture, each once: as many as it has names
pub picture_names : (p : Picture) → NamesOf p (taken_of p).areas
picture_names p = rows_named [] p no_rows refl no_names

pub picture_disjoint : (p : Picture) → (taken_of p).broken ≡ false → Pairs NoCell (taken_of p).areas
picture_disjoint p h = let a = picture_areas p h in disjoint p (taken_of p).areas a.filled a.names.once

-- ---- rows and width

rows_count : (p : Picture) (s : PictureState) → (rows_from s p).rows ≡ s.rows + length p
unfolding rows_from
rows_count [] s = omega arith
rows_count (ws ∷ p) s = omega (arith, rows_count p (row_step s ws), row_counts s ws)

-- where all rows have n words, so has the last
rows_width : (p : Picture) (s : PictureState) (n : ℕ) → s.width ≡ n → ((r : ℕ) (row : List Word) → ElementAt [] p r row → length row ≡ n) → (rows_from s p).width ≡ n
unfolding rows_from row_step
rows_width [] s n e h = e
rows_width (ws ∷ p) s n e h = rows_width p (row_step s ws) n (h 1 ws (element-first [] ws p)) (λ r row k. h (1 + r) row (element-right [] (ws ∷ []) p r row k))

width_count : (p : Picture) → EqualWidth p → (taken_of p).width ≡ width_of p
unfolding rows_from row_step
width_count [] even = refl
width_count (ws ∷ p) even = rows_width p (row_step no_rows ws) (length ws) refl (λ r row k. even (1 + r) row (element-right [] (ws ∷ []) p r row k))

pub picture_counts : (p : Picture) → EqualWidth p → (taken_of p).broken ≡ false → PictureCounts p (taken_of p).rows (taken_of p).width (taken_of p).areas
picture_counts p even h =
    let a = picture_areas p h in
    record {
      rows = omega (arith, rows_count p no_rows);
      width = width_count p even;
      first = λ x m. starts-in p even x.name x.box (a.filled x m);
      last = λ x m. ends-in p even x.name x.box (a.filled x m);
    }

-- ---- no further row mends a broken picture

rows_append : (p q : Picture) (s : PictureState) → rows_from s (p ++ q) ≡ rows_from (rows_from s p) q
unfolding rows_from
rows_append [] q s = refl
rows_append (ws ∷ p) q s = rows_append p q (row_step s ws)

pub broken_stays : (p q : Picture) → (taken_of p).broken ≡ true → (taken_of (p ++ q)).broken ≡ true
broken_stays p q h = rw (rows_append p q no_rows) (rows_stay q (taken_of p) h)

-- so the names of no longer picture all have filled boxes
pub never_mended : (p q : Picture) → (taken_of p).broken ≡ true → AllFilled (p ++ q) → ⊥
never_mended p q h f = false≢true (sym ((picture_exactly (p ++ q)).1 f) ∙ broken_stays p q h)
