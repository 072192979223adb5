-- The picture of every sheet that the display call accepts has rows of equal width and filled rectangles, which are its areas. Assumes nothing.
use Prim.Native.Nat.{ℕ, zero, suc, ◌-◌, max}
use mathlib.Core.Path.{◌≡◌, sym, ap, ◌∙◌, subst}
use mathlib.Core.List.{List, [], ◌∷◌, ◌++◌, map, append-nil}
use mathlib.Core.Logic.{⊎_elim}
use native.Mathlib.Nat.{le_of_suc-le-suc}
use native.Mathlib.Omega.{arith}
use lib.ListN.{length, get_or}
use Rattle.coordinates.specs.declared.axis.Axis.{Axis}
use Rattle.picture_rules.specs.Picture.{ElementAt}
use Rattle.picture_rules.specs.Steps.{taken_of}
use Rattle.picture_rules.proofs.Theorem.{picture_exactly, picture_areas}
use Rattle.axis_tables.proofs.Runs.{All}
use Rattle.sheet_forms.specs.Forms.{area, row}
use Rattle.panel_tables.specs.View.{PanelView}
use Rattle.panel_tables.specs.Axes.{view_in}
use Rattle.sheet_rules.specs.Contents.{Line, lines_of, lines_with, area_in, words_in, picture_in, drawn_in, PanelSays}
use Rattle.sheet_rules.specs.Pictures.{areas_of}
use Rattle.sheet_rules.specs.Sheet.{display_of, sheet_of}
use Rattle.sheet_rules.specs.Panels.{Tables}
use Rattle.sheet_rules.proofs.Chosen.{accepted_former}
use Rattle.sheet_rules.proofs.Contents.{display_says, display_either}
use Rattle.sheet_rules.proofs.Whole.{display_whole}
use Rattle.panel_rules.specs.Ranges.{largest, Even}
use Rattle.panel_rules.specs.Runs.{Accepted}
use Rattle.panel_rules.proofs.Invariants.{sheet_range, areas-largest}
use Rattle.panel_rules.proofs.Sheets.{accepted_sheet}
use Rattle.panel_demands.specs.Pictures.{DrawnAreas, PictureTheorem}

-- what holds of all elements holds of each
pub each : {A : Type 0} (none : A) (P : A → Type 0) (l : List A) → All P l → (i : ℕ) (a : A) → ElementAt none l i a → P a
each none P [] h i a e = absurd (omega (arith, e.0, e.1))
each none P (x ∷ l) h zero a e = absurd (omega (arith, e.0))
each none P (x ∷ l) h (suc zero) a e = subst P e.2 h.0
each none P (x ∷ l) h (suc (suc i)) a e =
    let p : suc (suc i) - 1 ≡ suc i = omega arith in
    let q : suc i - 1 ≡ i = omega arith in
    each none P l h.1 (suc i) a (omega arith, le_of_suc-le-suc e.1, ap (λ (k : ℕ). get_or l k none) q ∙ sym (ap (λ (k : ℕ). get_or (x ∷ l) k none) p) ∙ e.2)

module _ (s : List ℕ) (z : (display_of s).fault ≡ 0) where
  abbrev v : PanelView
  v = (display_of s).view

  says : PanelSays (lines_of s) v
  says = display_says s z

  even : Even v.picture
  even = unfold sheet_of in (sheet_range s).even

  spans : (a : Axis) → (view_in v a).areas ≡ max (drawn_in a v.picture) (largest a v.areas)
  spans = unfold sheet_of in areas-largest s

  drawn : (v.picture ≡ [] → ⊥) → DrawnAreas v
  drawn h = ((taken_of v.picture).areas, ⊎_elim none own (display_either s z), picture_areas v.picture (display_whole s z))
    where
      none : lines_with row (lines_of s) ≡ [] → v.areas ≡ areas_of v.picture
      none e = absurd (h (says.picture ∙ ap (map words_in) e))

      own : lines_with area (lines_of s) ≡ [] → v.areas ≡ areas_of v.picture
      own e =
          says.areas
          ∙ ap (λ (l : List Line). areas_of (picture_in (lines_of s)) ++ map area_in l) e
          ∙ append-nil (areas_of (picture_in (lines_of s)))
          ∙ ap areas_of (sym says.picture)

  pub display-picture : PictureTheorem s v
  display-picture =
      record {
        rows = says.picture;
        even = λ r ws e. each [] (λ ws. length ws ≡ length (get_or v.picture 0 [])) v.picture even r ws e;
        filled = (picture_exactly v.picture).0 (display_whole s z);
        areas = drawn;
        counts = λ a. omega (arith, spans a);
      }

-- of every accepted sheet
pub picture_theorem : (s : List ℕ) (t : Tables) → Accepted s t → PictureTheorem s (sheet_of s).view
unfolding sheet_of
picture_theorem s t ok = display-picture s (accepted_former s (accepted_sheet s t ok).0).1
