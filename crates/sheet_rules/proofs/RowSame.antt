-- What a panel holds follows its view at a row of a picture: picture_rows' law on the table of areas, with the reading beside it. Assumes nothing.
use Prim.Native.Nat.{ℕ, ◌+◌, ◌≤◌, ◌<◌}
use mathlib.Core.Path.{◌≡◌, refl, sym, ap, ap₂, ◌∙◌, subst}
use mathlib.Core.List.{List, [], ◌∷◌, ◌++◌}
use mathlib.Core.Bool.{Bool, true, false, cond, not, false≢true}
use native.Mathlib.Omega.{arith}
use lib.Dec.{eqb, leb, ltb}
use lib.ListN.{length, length-append, length-map}
use borrow.Author.Tests.{ne_eqb, eqb-true, le-ltb, leb-false, ltb-true, ltb-false}
use Rattle.axis_tables.proofs.Runs.{All}
use Rattle.picture_rules.specs.Picture.{Word, Picture, PictureArea, width_of}
use Rattle.picture_rules.specs.Steps.{PictureState, row_step, rows_from, taken_of, no_rows}
use Rattle.picture_rules.proofs.Taken.{row_counts}
use Rattle.picture_areas.specs.Runs.{Drawn}
use Rattle.picture_areas.specs.Runs.{InPicture, table_area, table_of}
use Rattle.picture_areas.proofs.Same.{TableFits}
use Rattle.picture_rows.specs.Steps.{row_in}
use Rattle.picture_rows.specs.Rows.{pictured, RowTaken}
use Rattle.picture_rows.proofs.Same.{row_same}
use Rattle.sheet_forms.specs.Faults.{rank_of, first_of}
use Rattle.sheet_forms.specs.Fields.{row_fault}
use Rattle.sheet_forms.proofs.WordRows.{RowBounded}
use Rattle.panel_tables.specs.declared.Panel.{Panel}
use Rattle.panel_tables.specs.View.{Area, PanelView, PanelOutcome, refused, accepted}
use Rattle.axis_tables.specs.Written.{reading_of, regions_of, words_with, axis_words, names_store}
use Rattle.panel_tables.specs.Written.{area_words, area_store, placement_words, placement_store, panel_of, picture_reading_of, PanelStepped, held_panel}
use Rattle.panel_tables.proofs.Fits.{GoodArea, FitsPanel}
use Rattle.sheet_rules.specs.Pictures.{areas_of, with_words, other_width, drawn_row, picture_step}
use Rattle.sheet_rules.specs.Steps.{width_fault, with_row, of_row, held_row}

-- what is held follows the view: the same fault, and where that is none, what is held for the view after it
pub record Follows (x : PanelStepped) (o : PanelOutcome) : Type 0 where
  pub fault : x.fault ≡ o.fault
  pub held : o.fault ≡ 0 → x.held ≡ held_panel o.panel

-- ---- the picture

rows_app : (p q : Picture) (s : PictureState) → rows_from s (p ++ q) ≡ rows_from (rows_from s p) q
unfolding rows_from
rows_app [] q s = refl
rows_app (ws ∷ p) q s = rows_app p q (row_step s ws)

taken_more : (p : Picture) (ws : List Word) → taken_of (with_words p ws) ≡ row_step (taken_of p) ws
unfolding rows_from
taken_more p ws = rows_app p (ws ∷ []) no_rows

rows_number : (p : Picture) (s : PictureState) → (rows_from s p).rows ≡ s.rows + length p
unfolding rows_from
rows_number [] s = omega arith
rows_number (ws ∷ p) s = omega (arith, rows_number p (row_step s ws), row_counts s ws)

taken_rows : (p : Picture) → (taken_of p).rows ≡ length p
taken_rows p = omega (arith, rows_number p no_rows)

-- a row that is read has no fault of its own
pub bounded_row : (ws : List Word) (n : ℕ) → RowBounded ws n → row_fault ws ≡ 0
unfolding row_fault first_of
bounded_row ws n b = rw (b.good, le-ltb 10000 (length ws) (omega (arith, b.count, b.few)))

-- ---- the table

module _ (v : PanelView) (f : FitsPanel v) (own : v.areas ≡ areas_of v.picture) (ws : List Word) (z : row_fault ws ≡ 0) (few : length v.picture < 10000) where
  abbrev before : PictureState
  before = taken_of v.picture

  abbrev next : PictureState
  next = row_step before ws

  fit : TableFits (panel_of v) before.areas
  fit =
      record {
        good = subst (All GoodArea) own f.drawn;
        few = subst (λ (l : List Area). length l ≤ 64) own f.areas;
        count = ap length own;
        used = ap (λ (l : List Area). (panel_of (record { columns = v.columns; rows = v.rows; areas = l; picture = v.picture; placements = v.placements; cells = v.cells; stage = v.stage; lines = v.lines })).room.areabytes) own;
      }

  abbrev drawn : InPicture
  drawn = row_in (panel_of v) (area_words v.areas) (area_store v.areas) ws (length v.picture + 1)

  abbrev law : InPicture
  law = row_in (panel_of v) (area_words (table_of before.areas)) (area_store (table_of before.areas)) ws (before.rows + 1)

  same_row : drawn ≡ law
  same_row =
      ap (λ (l : List Area). row_in (panel_of v) (area_words l) (area_store l) ws (length v.picture + 1)) own
      ∙ ap (λ (n : ℕ). row_in (panel_of v) (area_words (table_of before.areas)) (area_store (table_of before.areas)) ws (n + 1)) (sym (taken_rows v.picture))

  many : length (areas_of (with_words v.picture ws)) ≡ length next.areas
  many = ap (λ (s : PictureState). length (table_of s.areas)) (taken_more v.picture ws) ∙ length-map next.areas table_area

  rows_few : before.rows < 10000
  rows_few = omega (arith, taken_rows v.picture, few)

  -- the areas after it fit as well
  pub row-good : length (areas_of (with_words v.picture ws)) ≤ 64 → All GoodArea (areas_of (with_words v.picture ws))
  row-good h =
      let taken = (row_same (panel_of v) before ws fit z rows_few).0 (omega (arith, h, many)) in
      subst (λ (s : PictureState). All GoodArea (table_of s.areas)) (sym (taken_more v.picture ws)) taken.1.good

  crowded : 64 < length (areas_of (with_words v.picture ws)) → drawn.answer.fault ≡ 8
  crowded h = ap (λ (x : InPicture). x.answer.fault) same_row ∙ ap (λ (d : Drawn). d.fault) ((row_same (panel_of v) before ws fit z rows_few).1 (omega (arith, h, many)))

  taken : length (areas_of (with_words v.picture ws)) ≤ 64 → RowTaken (panel_of v) before ws drawn
  taken h = subst (RowTaken (panel_of v) before ws) (sym same_row) ((row_same (panel_of v) before ws fit z rows_few).0 (omega (arith, h, many))).0

  -- ---- the reading

  -- a row's width is the first row's, or it is the first
  width-fault : (n : ℕ) → n ≡ length ws → width_fault (picture_reading_of v.picture) n ≡ cond (other_width v.picture (length ws)) 13 0
  unfolding picture_reading_of
  width-fault n e = go v.picture
    where
      go : (p : Picture) → ◌≡◌ {A = ℕ} (cond (eqb (length p) 0) 0 (cond (eqb n (width_of p)) 0 13)) (cond (other_width p (length ws)) 13 0)
      go [] = refl
      go (first ∷ rest) = rw (ne_eqb (length (first ∷ rest)) 0 (λ z. omega arith), e) (either (eqb (length ws) (length first)))
        where
          either : (t : Bool) → ◌≡◌ {A = ℕ} (cond t 0 13) (cond (not t) 13 0)
          either true = refl
          either false = refl

  reading-more : (n : ℕ) (b : Bool) → n ≡ length ws → other_width v.picture (length ws) ≡ false → next.broken ≡ cond b true before.broken
      → with_row (picture_reading_of v.picture) n b ≡ picture_reading_of (with_words v.picture ws)
  unfolding picture_reading_of
  reading-more n b e even k =
      λ i. record { rows = rows i; width = (e ∙ wide v.picture even) i; broken = (sym k ∙ ap (λ (s : PictureState). s.broken) (sym (taken_more v.picture ws))) i }
    where
      rows : length v.picture + 1 ≡ length (with_words v.picture ws)
      rows = sym (length-append v.picture (ws ∷ []))

      wide : (p : Picture) → other_width p (length ws) ≡ false → length ws ≡ width_of (with_words p ws)
      wide [] h = refl
      wide (first ∷ rest) h = alike (eqb (length ws) (length first)) refl h
        where
          alike : (t : Bool) → eqb (length ws) (length first) ≡ t → not t ≡ false → length ws ≡ length first
          alike true q y = eqb-true (length ws) (length first) q
          alike false q y = absurd (false≢true (sym y))

  -- ---- the panel

  panel-more : pictured (panel_of v) next.areas (length ws) (before.rows + 1) ≡ panel_of (drawn_row v ws)
  panel-more =
      ap (λ (n : ℕ). pictured (panel_of v) next.areas (length ws) n) (ap (λ (n : ℕ). n + 1) (taken_rows v.picture))
      ∙ ap (λ (s : PictureState). panel_with s.areas) (sym (taken_more v.picture ws))
      ∙ last
    where
      panel_with : List PictureArea → Panel
      panel_with l = pictured (panel_of v) l (length ws) (length v.picture + 1)

      last : panel_with (taken_of (with_words v.picture ws)).areas ≡ panel_of (drawn_row v ws)
      last = rw (one_more_lem (length v.picture))
        where
          one_more_lem : (n : ℕ) → n + 1 + 1 ≡ n + 2
          one_more_lem n = omega arith

-- ---- a row

pub row_follows_lem : (v : PanelView) → FitsPanel v → v.areas ≡ areas_of v.picture → (ws : List Word) (n : ℕ) → RowBounded ws n → Follows (held_row (held_panel v) ws n) (picture_step v ws)
unfolding held_row picture_step held_panel picture_reading_of first_of rank_of words_with names_store regions_of
row_follows_lem v f own ws n b = go (leb 10000 (length v.picture)) refl
  where
    go : (t : Bool) → leb 10000 (length v.picture) ≡ t
        → Follows (cond t (record { fault = 8; held = held_panel v }) (of_row (held_panel v) n (row_in (panel_of v) (area_words v.areas) (area_store v.areas) ws (length v.picture + 1))))
        (cond t (refused 8 v) (cond (ltb 64 (length (areas_of (with_words v.picture ws)))) (refused 8 v) (cond (other_width v.picture (length ws)) (refused 13 v) (accepted (drawn_row v ws)))))
    go true e = record { fault = refl; held = λ h. absurd (omega (arith, h)) }
    go false e = names (ltb 64 (length (areas_of (with_words v.picture ws)))) refl
      where
        few : length v.picture < 10000
        few = leb-false 10000 (length v.picture) e

        z : row_fault ws ≡ 0
        z = bounded_row ws n b

        x : InPicture
        x = row_in (panel_of v) (area_words v.areas) (area_store v.areas) ws (length v.picture + 1)

        eight : (u : Bool) → first_of 8 (cond u 13 0) ≡ 8
        eight true = refl
        eight false = refl

        names : (u : Bool) → ltb 64 (length (areas_of (with_words v.picture ws))) ≡ u
            → Follows (of_row (held_panel v) n x) (cond u (refused 8 v) (cond (other_width v.picture (length ws)) (refused 13 v) (accepted (drawn_row v ws))))
        names true g =
            record {
              fault = ap₂ first_of (crowded v f own ws z few (ltb-true 64 (length (areas_of (with_words v.picture ws))) g)) (width-fault v f own ws z few n b.count) ∙ eight (other_width v.picture (length ws));
              held = λ h. absurd (omega (arith, h));
            }
        names false g = even (other_width v.picture (length ws)) refl
          where
            row : RowTaken (panel_of v) (taken_of v.picture) ws x
            row = taken v f own ws z few (ltb-false 64 (length (areas_of (with_words v.picture ws))) g)

            only : (m k : ℕ) → m ≡ 0 → first_of m k ≡ k
            only m k q = rw q

            fault : (w : Bool) → other_width v.picture (length ws) ≡ w → (of_row (held_panel v) n x).fault ≡ cond w 13 0
            fault w q = only x.answer.fault _ row.fault ∙ width-fault v f own ws z few n b.count ∙ ap (λ (t : Bool). cond t 13 0) q

            even : (w : Bool) → other_width v.picture (length ws) ≡ w → Follows (of_row (held_panel v) n x) (cond w (refused 13 v) (accepted (drawn_row v ws)))
            even true q = record { fault = fault true q; held = λ h. absurd (omega (arith, h)) }
            even false q = record { fault = fault false q; held = λ h. held }
              where
                held : (of_row (held_panel v) n x).held ≡ held_panel (drawn_row v ws)
                held = λ i. record {
                  panel = (row.panel ∙ panel-more v f own ws z few) i;
                  reading = record {
                    stage = v.stage;
                    lines = v.lines;
                    picture = reading-more v f own ws z few n x.answer.broken b.count q row.broken i;
                    columns = reading_of v.columns;
                    rows = reading_of v.rows;
                  };
                  columns = axis_words v.columns;
                  rows = axis_words v.rows;
                  column_marks = v.columns.marks;
                  row_marks = v.rows.marks;
                  column_bytes = names_store v.columns;
                  row_bytes = names_store v.rows;
                  areas = (row.words ∙ ap (λ (s : PictureState). area_words (table_of s.areas)) (sym (taken_more v.picture ws))) i;
                  area_bytes = (row.bytes ∙ ap (λ (s : PictureState). area_store (table_of s.areas)) (sym (taken_more v.picture ws))) i;
                  placements = placement_words v.placements v.cells;
                  placement_bytes = placement_store v.placements;
                }
