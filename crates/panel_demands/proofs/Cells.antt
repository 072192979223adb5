-- Both halves of a cell are settled as demands 2 and 3 say of placements. Assumes nothing.
use Prim.Native.Nat.{ℕ, ◌+◌, ◌<◌}
use mathlib.Core.Path.{◌≡◌, refl, sym, ap, ◌∙◌, subst}
use mathlib.Core.List.{List, [], ◌∷◌, ◌++◌, append_assoc}
use mathlib.Core.Bool.{Bool, true, cond}
use native.Mathlib.Omega.{arith}
use borrow.Author.Tests.{lt-ltb}
use lib.ListN.{length, get_or, length-append}
use Rattle.std.proofs.lemmas.List.{get_or-append-add}
use Rattle.coordinates.specs.declared.axis.Axis.{Axis}
use Rattle.coordinates.specs.declared.axis.Axis.TheVariants.{Column, Row}
use Rattle.coordinates.specs.Axes.{of_axis}
use Rattle.name_rules.specs.Css.{Entry, start, end}
use Rattle.name_rules.specs.Conditions.{UsedNamesLie}
use Rattle.text.specs.Split.{same}
use Rattle.text.proofs.Which.{same_equal}
use Rattle.sheet_forms.specs.Words.{at, kind_words}
use Rattle.sheet_forms.specs.Forms.{cell, kind_number}
use Rattle.panel_tables.specs.View.{Placement, PanelView, no_placement}
use Rattle.sheet_rules.specs.Sheet.{sheet_of}
use Rattle.sheet_rules.specs.Contents.{Line, lines_of, is_of, halves_in, item_in, placements_of, cells_from, PanelSays}
use Rattle.sheet_rules.specs.Panels.{Tables}
use Rattle.sheet_rules.proofs.Contents.{view_says}
use Rattle.panel_rules.specs.Placing.{PlacementAnswer}
use Rattle.panel_rules.specs.Runs.{Call, Accepted, run_of}
use Rattle.panel_rules.specs.Views.{names_after, css_end, placement_at, PlacedByCss, placement_after}
use Rattle.panel_rules.specs.Added.{added}
use Rattle.panel_rules.specs.Book.{book_names}
use Rattle.panel_rules.specs.Alone.{Run, held_by}
use Rattle.panel_rules.specs.Cells.{unmarked}
use Rattle.panel_rules.proofs.Sheets.{accepted_sheet}
use Rattle.panel_rules.proofs.Cells.{settled_as_places}
use Rattle.panel_demands.specs.Demands.{SecondDemand, both_written}
use Rattle.panel_demands.specs.Cells.{CellLine, half_of, half_at, settled_half, CellSettled, CellsInThirdDemand}
use Rattle.panel_demands.proofs.Demands.{second_demand, third_demand}

-- ---- the placements and the numbers of a line between others

placements_between : (before after : List Line) (l : Line) → placements_of (before ++ (l ∷ after)) ≡ placements_of before ++ (item_in l ++ placements_of after)
unfolding placements_of
placements_between [] after l = refl
placements_between (m ∷ before) after l =
    ap (λ (p : List Placement). item_in m ++ p) (placements_between before after l) ∙ sym (append_assoc (item_in m) (placements_of before) (item_in l ++ placements_of after))

numbers_between : (n : ℕ) (before after : List Line) (l : Line)
    → cells_from n (before ++ (l ∷ after)) ≡ cells_from n before ++ (cond (is_of cell l) ((n + length before) ∷ []) [] ++ cells_from (n + length before + 1) after)
unfolding cells_from
numbers_between n [] after l = ap (λ (k : ℕ). cond (is_of cell l) (k ∷ []) [] ++ cells_from (k + 1) after) (omega arith)
numbers_between n (m ∷ before) after l =
    let first : List ℕ = cond (is_of cell m) (n ∷ []) [] in
    let k : n + 1 + length before ≡ n + length (m ∷ before) = omega arith in
    ap (λ (p : List ℕ). first ++ p) (numbers_between (n + 1) before after l)
    ∙ sym (append_assoc first (cells_from (n + 1) before) (cond (is_of cell l) ((n + 1 + length before) ∷ []) [] ++ cells_from (n + 1 + length before + 1) after))
    ∙ ap (λ (i : ℕ). (first ++ cells_from (n + 1) before) ++ (cond (is_of cell l) (i ∷ []) [] ++ cells_from (i + 1) after)) k

two_halves : (l : Line) → is_of cell l ≡ true → item_in l ≡ halves_in l
unfolding same
two_halves l e = rw (same_equal (at l 0) (get_or kind_words (kind_number cell) []) e)

-- ---- a cell of an accepted sheet

module _ (s : List ℕ) (z : (sheet_of s).fault ≡ 0) (before after : List Line) (l : Line) (c : CellLine s before l after) where
  abbrev v : PanelView
  v = (sheet_of s).view

  says : PanelSays (lines_of s) v
  says = view_says s z

  halves-there : v.placements ≡ placements_of before ++ (halves_in l ++ placements_of after)
  halves-there =
      says.placements ∙ ap placements_of c.lines ∙ placements_between before after l
      ∙ ap (λ (h : List Placement). placements_of before ++ (h ++ placements_of after)) (two_halves l c.word)

  number-there : v.cells ≡ cells_from 1 before ++ ((1 + length before) ∷ cells_from (1 + length before + 1) after)
  number-there =
      says.cells ∙ ap (cells_from 1) c.lines ∙ numbers_between 1 before after l
      ∙ ap (λ (t : Bool). cells_from 1 before ++ (cond t ((1 + length before) ∷ []) [] ++ cells_from (1 + length before + 1) after)) c.word

  half-held : (a : Axis) → half_at before a < length v.placements
  half-held Column = omega (arith, ap length halves-there, length-append (placements_of before) (halves_in l ++ placements_of after))
  half-held Row = omega (arith, ap length halves-there, length-append (placements_of before) (halves_in l ++ placements_of after))

  half-there : (a : Axis) → placement_at v (half_at before a) ≡ half_of l a
  half-there a =
      ap (λ (p : List Placement). get_or p (half_at before a) no_placement) halves-there
      ∙ get_or-append-add (placements_of before) (halves_in l ++ placements_of after) (of_axis a 0 1) no_placement
      ∙ first a
    where
      first : (b : Axis) → get_or (halves_in l ++ placements_of after) (of_axis b 0 1) no_placement ≡ half_of l b
      first Column = refl
      first Row = refl

  own-line : get_or v.cells (length (cells_from 1 before)) 0 ≡ length before + 1
  own-line =
      let first = cells_from 1 before in
      let k : length first ≡ length first + 0 = omega arith in
      ap (λ (x : List ℕ). get_or x (length first) 0) number-there
      ∙ ap (λ (i : ℕ). get_or (first ++ ((1 + length before) ∷ cells_from (1 + length before + 1) after)) i 0) k
      ∙ get_or-append-add first ((1 + length before) ∷ cells_from (1 + length before + 1) after) 0 0
      ∙ omega arith

  half_axis : (a : Axis) → (half_of l a).axis ≡ a
  half_axis Column = refl
  half_axis Row = refl

  half_marked : (a : Axis) → (half_of l a).cell ≡ true
  half_marked Column = refl
  half_marked Row = refl

  -- what is said of a placement by its axis is said of a half
  on-half : (P : Axis → Placement → Type 0) (a : Axis) → P (placement_at v (half_at before a)).axis (placement_at v (half_at before a)) → P a (half_of l a)
  on-half P a h =
      subst (λ (b : Axis). P b (half_of l a)) (half_axis a) (subst (λ (p : Placement). P p.axis p) (half-there a) h)

-- an answer within the placements is of the placement's axis, and says whether that is a cell's
module _ (v : PanelView) (es : Axis → List Entry) (i : ℕ) (h : i < length v.placements) where
  after_axis : (placement_after v es i).axis ≡ (placement_at v i).axis
  unfolding placement_after
  after_axis = rw (lt-ltb i (length v.placements) h)

  after_cell : (placement_after v es i).cell ≡ (placement_at v i).cell
  unfolding placement_after
  after_cell = rw (lt-ltb i (length v.placements) h)

-- demand 2
pub cell_settled : (s : List ℕ) (t : Tables) (calls : List Call) → Accepted s t → (before after : List Line) (l : Line) → CellLine s before l after
    → CellSettled s t calls before l
cell_settled s t calls ok before after l c =
    record {
      held = half-held s z before after l c;
      half = half-there s z before after l c;
      line = own-line s z before after l c;
      placed = placed;
      like_places = λ a. ap unmarked (demand.placements (half_at before a)) ∙ settled_as_places v (λ b. added s b calls) (half_at before a);
      marked = marked;
    }
  where
    z : (sheet_of s).fault ≡ 0
    z = (accepted_sheet s t ok).0

    v : PanelView
    v = (sheet_of s).view

    demand : SecondDemand s t calls
    demand = second_demand s t calls ok

    placed : (a : Axis) → UsedNamesLie (names_after (sheet_of s).view a (added s a calls)) start (css_end (half_of l a).start)
        → UsedNamesLie (names_after (sheet_of s).view a (added s a calls)) end (css_end (half_of l a).end)
        → PlacedByCss (names_after (sheet_of s).view a (added s a calls)) (half_of l a) (settled_half (run_of s t calls) before a)
    placed a =
        on-half s z before after l c
        (λ b p. UsedNamesLie (names_after (sheet_of s).view b (added s b calls)) start (css_end p.start) → UsedNamesLie (names_after (sheet_of s).view b (added s b calls)) end (css_end p.end) → PlacedByCss (names_after (sheet_of s).view b (added s b calls)) p (settled_half (run_of s t calls) before a))
        a (demand.placed (half_at before a) (half-held s z before after l c a))

    marked : (a : Axis) → (settled_half (run_of s t calls) before a).cell ≡ true
    marked a =
        ap (λ (r : PlacementAnswer). r.cell) (demand.placements (half_at before a))
        ∙ after_cell v (λ b. added s b calls) (half_at before a) (half-held s z before after l c a)
        ∙ ap (λ (p : Placement). p.cell) (half-there s z before after l c a)
        ∙ half_marked s z before after l c a

-- a half is on its axis
half-axis : (r : Run) (ok : Accepted r.sheet r.tables) (before after : List Line) (l : Line) → CellLine r.sheet before l after → (a : Axis) → (settled_half (held_by r) before a).axis ≡ a
half-axis r ok before after l c a =
    let z = (accepted_sheet r.sheet r.tables ok).0 in
    let v = (sheet_of r.sheet).view in
    ap (λ (x : PlacementAnswer). x.axis) ((second_demand r.sheet r.tables r.calls ok).placements (half_at before a))
    ∙ after_axis v (λ b. added r.sheet b r.calls) (half_at before a) (half-held r.sheet z before after l c a)
    ∙ ap (λ (p : Placement). p.axis) (half-there r.sheet z before after l c a)
    ∙ half_axis r.sheet z before after l c a

-- demand 3
pub cells_in_third_demand : CellsInThirdDemand
cells_in_third_demand =
    record {
      runs = λ n s t calls ok valid r before after l c a.
          let z = (accepted_sheet s t ok).0 in
          on-half s z before after l c (λ b p. PlacedByCss (book_names (both_written n s b) (sheet_of s).view b calls) p (settled_half (run_of s t calls) before a))
          a ((third_demand.runs n s t calls ok valid r).placed (half_at before a) (half-held s z before after l c a));
      order = λ n m p q x y v w r u same entries before a. third_demand.order n m p q x y v w r u same entries (half_at before a);
      columns = λ p q d before after l c.
          let same = third_demand.columns p q d in
          let rows = half-axis p d.first before after l c Row in
          (same.placements (half_at before Column) (half-axis p d.first before after l c Column), rows, sym (same.axes (half_at before Row)) ∙ rows);
    }
