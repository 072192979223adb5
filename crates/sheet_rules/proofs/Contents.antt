-- The view of every accepted sheet is what its lines say: one induction over the lines. Assumes nothing.
use Prim.Native.Nat.{ℕ, ◌+◌, ◌-◌, ◌≤◌, max, min}
use mathlib.Core.Path.{◌≡◌, refl, sym, ap, ap₂, ◌∙◌, subst}
use mathlib.Core.List.{List, [], ◌∷◌, ◌++◌, map, map-append, append_assoc, append-nil}
use mathlib.Core.Bool.{Bool, true, false, cond, not, false≢true}
use mathlib.Core.Logic.{◌⊎◌, inl, inr}
use lib.Dec.{eqb, leb, ltb}
use lib.IntN.{ℤ}
use native.Mathlib.Omega.{arith}
use lib.ListN.{length, length-replicate, get_or-replicate, length-append}
use borrow.Author.Tests.{eqb-true, eqb-false, leb-true, leb-false, ltb-false}
use Rattle.coordinates.specs.declared.axis.Axis.{Axis}
use Rattle.coordinates.specs.declared.axis.Axis.TheVariants.{Column, Row}
use Rattle.text.specs.Split.{split, onto, same}
use Rattle.text.proofs.Laws.{length-onto}
use Rattle.text.proofs.Which.{same_self}
use Rattle.sheet_forms.specs.Said.{PlaceEnd}
use Rattle.sheet_forms.specs.Said.{Record}
use Rattle.sheet_forms.specs.Said.{Fault, Axis as AxisLine, Area, Name, Track, Repeat, End, Spare, Extra, Item, Place, PictureRow, Cell}
use Rattle.sheet_forms.specs.Words.{at}
use Rattle.sheet_forms.specs.Faults.{first_of}
use Rattle.sheet_forms.specs.Ends.{uses_name}
use Rattle.sheet_forms.specs.Records.{record_of, fault_of}
use Rattle.sheet_forms.specs.Forms.{Kind, axis, area, name, track, repeat, end, spare, extra, item, place, row, cell}
use Rattle.sheet_forms.proofs.Firsts.{first_zero}
use Rattle.axis_tables.specs.View.{name as a_name, track as a_track, Unended, none, inside, AxisView, written, names_of, name_of, empty_axis, repeat_kind, named_fault}
use Rattle.panel_tables.specs.declared.AreaEdges.{AreaEdges}
use Rattle.panel_tables.specs.View.{Area as AnArea, End as PlacedEnd, Placement, PanelView, PanelOutcome, empty_view, refused as refused_panel, accepted as accepted_panel, raised, edges_outside, area_step, ends_fault, most_lines, next_line, items, lower, limited_step, with_item, place_step, half, cell_step}
use Rattle.panel_tables.specs.Axes.{view_in, with_view}
use Rattle.sheet_rules.specs.Lines.{bit, edges_of, placed_end, late_at, record_step, stage_of, at_stage, line_step}
use Rattle.picture_rules.specs.Picture.{Word, Picture, width_of}
use Rattle.picture_rules.specs.Steps.{rows_from}
use Rattle.sheet_rules.specs.Pictures.{areas_of, with_words, other_width, drawn_row, picture_step}
use Rattle.sheet_rules.specs.Sheet.{open_fault, count_fault, entries_fault, axis_fault, end_fault, outcome, ended, run, fold_of, display_of, sheet_of}
use Rattle.sheet_rules.specs.Rows.{OnAxis}
use Rattle.sheet_rules.specs.Contents.{Line, lines_from, lines_of, those, is_of, letter_of, is_on, lines_with, template_in, axis_in, sizes_in, area_in, words_in, picture_in, drawn_in, end_in, placement_in, halves_in, item_in, placements_of, cells_from, piece, opening, closing, template_line_in, template_lines, last_of, largest, is_among, AxisSays, PanelSays}
use Rattle.sheet_rules.proofs.LineFields.{not-zero, EndReads, Reads, record_reads}
use Rattle.sheet_rules.proofs.Says.{Says, record_says}
use Rattle.sheet_rules.proofs.Chosen.{accepted_former, display_former_lem}
use Rattle.sheet_rules.proofs.AxisContents.{fault_stays, more, those-more, Chosen, chosen, word, grown, chosen_more, open_lines, AxisAgrees, name-written, track-written, repeat-written, end-written, template-agrees, spare-agrees, extra-agrees, item-agrees, axis-agrees, area-agrees, row-agrees}
use Rattle.sheet_rules.proofs.LineRows.{late-no}
use Rattle.sheet_rules.proofs.Pictures.{row_taken, clean_line, record_lines_lem}
use Rattle.sheet_rules.proofs.TemplateContents.{picked, name_said, track_said, names_from_lem, tracks_of_lem, picked-lines, name-one, track-one}

-- ---- the `place` and `cell` lines

-- a count of lines, or a line's number, as it is held; a sheet of 32,768 bytes has no more lines
abbrev held : ℕ → ℕ
held n = min n most_lines

placements_more : (ls : List Line) (l : Line) → placements_of (ls ++ (l ∷ [])) ≡ placements_of ls ++ item_in l
unfolding placements_of
placements_more [] l = append-nil (item_in l)
placements_more (m ∷ ls) l = ap (λ (p : List Placement). item_in m ++ p) (placements_more ls l) ∙ sym (append_assoc (item_in m) (placements_of ls) (item_in l))

cells_more : (n : ℕ) (ls : List Line) (l : Line) → cells_from n (ls ++ (l ∷ [])) ≡ cells_from n ls ++ cond (is_of cell l) ((n + length ls) ∷ []) []
unfolding cells_from
cells_more n [] l = append-nil (cond (is_of cell l) (n ∷ []) []) ∙ ap (λ (k : ℕ). cond (is_of cell l) (k ∷ []) []) (omega arith)
cells_more n (m ∷ ls) l =
    let first : List ℕ = cond (is_of cell m) (n ∷ []) [] in
    let k : n + 1 + length ls ≡ n + length (m ∷ ls) = omega arith in
    ap (λ (p : List ℕ). first ++ p) (cells_more (n + 1) ls l)
    ∙ sym (append_assoc first (cells_from (n + 1) ls) (cond (is_of cell l) ((n + 1 + length ls) ∷ []) []))
    ∙ ap (λ (i : ℕ). (first ++ cells_from (n + 1) ls) ++ cond (is_of cell l) (i ∷ []) []) k

-- a line of any other kind gives none
other_items : (j : Kind) (ls : List Line) (l : Line) → at l 0 ≡ word j → same (word j) (word place) ≡ false → same (word j) (word cell) ≡ false → placements_of (ls ++ (l ∷ [])) ≡ placements_of ls
other_items j ls l w p c =
    placements_more ls l
    ∙ ap (λ (f : List ℕ). placements_of ls ++ cond (same f (word place)) (placement_in l ∷ []) (cond (same f (word cell)) (halves_in l) [])) w
    ∙ rw (p, c) (append-nil (placements_of ls))

other_cells : (j : Kind) (n : ℕ) (ls : List Line) (l : Line) → at l 0 ≡ word j → same (word j) (word cell) ≡ false → cells_from n (ls ++ (l ∷ [])) ≡ cells_from n ls
other_cells j n ls l w c =
    cells_more n ls l
    ∙ ap (λ (f : List ℕ). cells_from n ls ++ cond (same f (word cell)) ((n + length ls) ∷ []) []) w
    ∙ rw c (append-nil (cells_from n ls))

-- in a sheet each number is held
all_held : (n : ℕ) (ls : List Line) → n + length ls ≤ 32769 → map held (cells_from n ls) ≡ cells_from n ls
unfolding cells_from
all_held n [] h = refl
all_held n (l ∷ ls) h =
    let e : min n 32768 ≡ n = omega arith in
    map-append held (cond (is_of cell l) (n ∷ []) []) (cells_from (n + 1) ls)
    ∙ ap₂ (λ (a b : List ℕ). a ++ b) (one (is_of cell l) e) (all_held (n + 1) ls (omega arith))
  where
    one : (t : Bool) → min n 32768 ≡ n → map held (cond t (n ∷ []) []) ≡ cond t (n ∷ []) []
    one true e = ap (λ (k : ℕ). k ∷ []) e
    one false e = refl

-- ---- a panel says what its lines say

pub record Agrees (ls : List Line) (v : PanelView) : Type 0 where
  pub axes : (a : Axis) → AxisAgrees a (chosen a ls) (view_in v a)
  pub picture : v.picture ≡ picture_in ls
  pub areas : v.areas ≡ areas_of v.picture ++ map area_in (lines_with area ls)
  pub placements : v.placements ≡ placements_of ls
  pub cells : v.cells ≡ map held (cells_from 1 ls)

-- `area` lines and rows stand apart, by the kind order
pub record Apart (ls : List Line) (v : PanelView) : Type 0 where
  pub undrawn : v.stage ≤ 1 → lines_with row ls ≡ []
  pub timely : late_at 2 v.stage ≡ false → lines_with area ls ≡ []
  -- so no sheet has both
  pub either : (lines_with row ls ≡ []) ⊎ (lines_with area ls ≡ [])
  -- and the lines are counted
  pub counted : v.lines ≡ held (length ls)

letter : (fs : Line) (a : Axis) → OnAxis fs a → at fs 1 ≡ letter_of a
letter fs Column o = o
letter fs Row o = o

-- the lines of a kind that a line is not of
pub other_kind : (j k : Kind) (ls : List Line) (l : Line) → at l 0 ≡ word j → same (word j) (word k) ≡ false → lines_with k (ls ++ (l ∷ [])) ≡ lines_with k ls
unfolding more
other_kind j k ls l w d = those-more (is_of k) ls l ∙ ap (λ (t : Bool). more t (lines_with k ls) l) (ap (λ (f : List ℕ). same f (word k)) w ∙ d)

-- and of a kind that it is of
pub own_kind : (k : Kind) (ls : List Line) (l : Line) → at l 0 ≡ word k → lines_with k (ls ++ (l ∷ [])) ≡ lines_with k ls ++ (l ∷ [])
unfolding more
own_kind k ls l w = those-more (is_of k) ls l ∙ ap (λ (t : Bool). more t (lines_with k ls) l) (ap (λ (f : List ℕ). same f (word k)) w ∙ same_self (word k))

module _ (ls : List Line) (v : PanelView) (agrees : Agrees ls v) (l : Line) where
  -- a line on an axis, of a kind that is no area, no row, no placement and no cell
  on_axis_lem : (j : Kind) → at l 0 ≡ word j → same (word j) (word area) ≡ false → same (word j) (word row) ≡ false → same (word j) (word place) ≡ false → same (word j) (word cell) ≡ false
      → ((c : Chosen) → grown j false c l ≡ c)
      → (b : Axis) → OnAxis l b → (y : AxisView) → AxisAgrees b (grown j true (chosen b ls) l) y → Agrees (ls ++ (l ∷ [])) (with_view v b y)
  on_axis_lem j w d q p u n b o y new = record { axes = axes b o new; picture = picture b; areas = areas b; placements = placements b; cells = cells b }
    where
      is : (b : Axis) → OnAxis l b → is_on b l ≡ true
      is b o = ap (λ (f : List ℕ). same f (letter_of b)) (letter l b o) ∙ same_self (letter_of b)

      here : (b : Axis) → OnAxis l b → AxisAgrees b (grown j true (chosen b ls) l) y → AxisAgrees b (chosen b (ls ++ (l ∷ []))) y
      here b o new = subst (λ (c : Chosen). AxisAgrees b c y) (sym (chosen_more j true b ls l w (is b o))) new

      there : (a : Axis) → is_on a l ≡ false → AxisAgrees a (chosen a (ls ++ (l ∷ []))) (view_in v a)
      there a e = subst (λ (c : Chosen). AxisAgrees a c (view_in v a)) (sym (chosen_more j false a ls l w e ∙ n (chosen a ls))) (agrees.axes a)

      axes : (b : Axis) → OnAxis l b → AxisAgrees b (grown j true (chosen b ls) l) y → (a : Axis) → AxisAgrees a (chosen a (ls ++ (l ∷ []))) (view_in (with_view v b y) a)
      axes Column o new Column = here Column o new
      axes Column o new Row = there Row (ap (λ (f : List ℕ). same f (letter_of Row)) o ∙ (unfold same in refl))
      axes Row o new Column = there Column (ap (λ (f : List ℕ). same f (letter_of Column)) o ∙ (unfold same in refl))
      axes Row o new Row = here Row o new

      rows : v.picture ≡ picture_in (ls ++ (l ∷ []))
      rows = agrees.picture ∙ ap (map words_in) (sym (other_kind j row ls l w q))

      picture : (b : Axis) → (with_view v b y).picture ≡ picture_in (ls ++ (l ∷ []))
      picture Column = rows
      picture Row = rows

      drawn : v.areas ≡ areas_of v.picture ++ map area_in (lines_with area (ls ++ (l ∷ [])))
      drawn = agrees.areas ∙ ap (λ (m : List Line). areas_of v.picture ++ map area_in m) (sym (other_kind j area ls l w d))

      areas : (b : Axis) → (with_view v b y).areas ≡ areas_of (with_view v b y).picture ++ map area_in (lines_with area (ls ++ (l ∷ [])))
      areas Column = drawn
      areas Row = drawn

      placed : v.placements ≡ placements_of (ls ++ (l ∷ []))
      placed = agrees.placements ∙ sym (other_items j ls l w p u)

      placements : (b : Axis) → (with_view v b y).placements ≡ placements_of (ls ++ (l ∷ []))
      placements Column = placed
      placements Row = placed

      lined : v.cells ≡ map held (cells_from 1 (ls ++ (l ∷ [])))
      lined = agrees.cells ∙ ap (map held) (sym (other_cells j 1 ls l w u))

      cells : (b : Axis) → (with_view v b y).cells ≡ map held (cells_from 1 (ls ++ (l ∷ [])))
      cells Column = lined
      cells Row = lined

  -- an area
  area-line : (e : AreaEdges) → at l 0 ≡ word area → e ≡ (area_in l).edges → (area_step v (at l 1) e).fault ≡ 0 → Agrees (ls ++ (l ∷ [])) (area_step v (at l 1) e).panel
  unfolding area_step
  area-line e w q = go (edges_outside e) (ltb 32 (length (at l 1))) (leb 64 (length v.areas))
    where
      drawn : PanelView
      drawn =
          record {
            columns = raised v.columns e.columnend;
            rows = raised v.rows e.rowend;
            areas = v.areas ++ (record { name = at l 1; edges = e } ∷ []);
            picture = v.picture;
            placements = v.placements;
            cells = v.cells;
            stage = v.stage;
            lines = v.lines;
          }

      by : Bool → Bool → Bool → PanelOutcome
      by t u b = cond t (refused_panel (named_fault (length (at l 1)) 4) v) (cond u (refused_panel 2 v) (cond b (refused_panel 8 v) (accepted_panel drawn)))

      span : (a : Axis) → AxisAgrees a (chosen a (ls ++ (l ∷ []))) (view_in drawn a)
      span Column =
          subst (λ (c : Chosen). AxisAgrees Column c (raised v.columns e.columnend)) (sym (chosen_more area (is_on Column l) Column ls l w refl))
          (area-agrees Column (chosen Column ls) v.columns (agrees.axes Column) l (is_on Column l) e.columnend (ap (λ (x : AreaEdges). x.columnend - 1) q))
      span Row =
          subst (λ (c : Chosen). AxisAgrees Row c (raised v.rows e.rowend)) (sym (chosen_more area (is_on Row l) Row ls l w refl))
          (area-agrees Row (chosen Row ls) v.rows (agrees.axes Row) l (is_on Row l) e.rowend (ap (λ (x : AreaEdges). x.rowend - 1) q))

      go : (t u b : Bool) → (by t u b).fault ≡ 0 → Agrees (ls ++ (l ∷ [])) (by t u b).panel
      go true u b = λ z. absurd (fault_stays (length (at l 1)) 4 (λ q. not-zero 3 q) z)
      go false true b = λ z. absurd (not-zero 1 z)
      go false false true = λ z. absurd (not-zero 7 z)
      go false false false = λ z. record {
        axes = span;
        picture = agrees.picture ∙ ap (map words_in) (sym (other_kind area row ls l w (unfold same in refl)));
        areas =
            ap₂ (λ (m : List AnArea) (x : AreaEdges). m ++ (record { name = at l 1; edges = x } ∷ [])) agrees.areas q
            ∙ append_assoc (areas_of v.picture) (map area_in (lines_with area ls)) (area_in l ∷ [])
            ∙ ap (λ (m : List AnArea). areas_of v.picture ++ m) (sym (ap (map area_in) (own_kind area ls l w) ∙ map-append area_in (lines_with area ls) (l ∷ [])));
        placements = agrees.placements ∙ sym (other_items area ls l w (unfold same in refl) (unfold same in refl));
        cells = agrees.cells ∙ ap (map held) (sym (other_cells area 1 ls l w (unfold same in refl)));
      }

  -- what a `place` or a `cell` line leaves
  kept : (j : Kind) → at l 0 ≡ word j → ((b : Bool) (c : Chosen) → grown j b c l ≡ c) → (a : Axis) → AxisAgrees a (chosen a (ls ++ (l ∷ []))) (view_in v a)
  kept j w n a = subst (λ (c : Chosen). AxisAgrees a c (view_in v a)) (sym (chosen_more j (is_on a l) a ls l w refl ∙ n (is_on a l) (chosen a ls))) (agrees.axes a)

  item-agrees-with : (j : Kind) → at l 0 ≡ word j → same (word j) (word row) ≡ false → same (word j) (word area) ≡ false → ((b : Bool) (c : Chosen) → grown j b c l ≡ c)
      → (ps : List Placement) (cs : List ℕ) → ps ≡ placements_of (ls ++ (l ∷ [])) → cs ≡ map held (cells_from 1 (ls ++ (l ∷ []))) → Agrees (ls ++ (l ∷ [])) (with_item v ps cs)
  item-agrees-with j w p q n ps cs e f = record {
    axes = axes;
    picture = agrees.picture ∙ ap (map words_in) (sym (other_kind j row ls l w p));
    areas = agrees.areas ∙ ap (λ (m : List Line). areas_of v.picture ++ map area_in m) (sym (other_kind j area ls l w q));
    placements = e;
    cells = f;
  }
    where
      axes : (a : Axis) → AxisAgrees a (chosen a (ls ++ (l ∷ []))) (view_in (with_item v ps cs) a)
      axes Column = kept j w n Column
      axes Row = kept j w n Row

  -- an item that is accepted is written
  taken : (fault : ℕ) (after : PanelView) → (limited_step v fault after).fault ≡ 0 → (limited_step v fault after).panel ≡ after
  unfolding limited_step
  taken fault after = go (eqb fault 0) (leb 256 (items v)) refl
    where
      go : (t u : Bool) → eqb fault 0 ≡ t → (cond t (cond u (refused_panel 8 v) (accepted_panel after)) (refused_panel fault v)).fault ≡ 0
          → (cond t (cond u (refused_panel 8 v) (accepted_panel after)) (refused_panel fault v)).panel ≡ after
      go true true e z = absurd (not-zero 7 z)
      go true false e z = refl
      go false u e z = absurd (eqb-false fault 0 e z)

  -- a placement
  place-line : (a : Axis) (s e : PlacedEnd) → at l 0 ≡ word place → record { axis = a; cell = false; start = s; end = e } ≡ placement_in l → (place_step v a s e).fault ≡ 0 → Agrees (ls ++ (l ∷ [])) (place_step v a s e).panel
  unfolding place_step same more
  place-line a s e w q z =
      let one : item_in l ≡ placement_in l ∷ [] = rw w in
      subst (Agrees (ls ++ (l ∷ []))) (sym (taken (ends_fault s e) _ z))
      (item-agrees-with place w refl refl (λ b c. refl) _ _
      (ap₂ (λ (m : List Placement) (x : Placement). m ++ (x ∷ [])) agrees.placements q ∙ sym (placements_more ls l ∙ ap (λ (m : List Placement). placements_of ls ++ m) one))
      (agrees.cells ∙ ap (map held) (sym (other_cells place 1 ls l w refl))))

  -- a cell
  cell-line : (cs ce rs re : PlacedEnd) → at l 0 ≡ word cell → half Column cs ce ∷ half Row rs re ∷ [] ≡ halves_in l → v.lines ≡ held (length ls) → (cell_step v cs ce rs re).fault ≡ 0
      → Agrees (ls ++ (l ∷ [])) (cell_step v cs ce rs re).panel
  unfolding cell_step same more
  cell-line cs ce rs re w q counted z =
      let two : item_in l ≡ halves_in l = rw w in
      let own : is_of cell l ≡ true = rw w in
      let n : next_line v.lines ≡ held (1 + length ls) = omega (arith, counted) in
      subst (Agrees (ls ++ (l ∷ []))) (sym (taken (lower (ends_fault cs ce) (ends_fault rs re)) _ z))
      (item-agrees-with cell w refl refl (λ b c. refl) _ _
      (append_assoc v.placements (half Column cs ce ∷ []) (half Row rs re ∷ [])
      ∙ ap₂ (λ (m x : List Placement). m ++ x) agrees.placements q
      ∙ sym (placements_more ls l ∙ ap (λ (m : List Placement). placements_of ls ++ m) two))
      (ap₂ (λ (m : List ℕ) (k : ℕ). m ++ (k ∷ [])) agrees.cells n
      ∙ sym (ap (map held) (cells_more 1 ls l ∙ ap (λ (t : Bool). cells_from 1 ls ++ cond t ((1 + length ls) ∷ []) []) own) ∙ map-append held (cells_from 1 ls) ((1 + length ls) ∷ []))))

  -- a row of a picture
  row_line_lem : at l 0 ≡ word row → lines_with area ls ≡ [] → (picture_step v (words_in l)).fault ≡ 0 → Agrees (ls ++ (l ∷ [])) (drawn_row v (words_in l))
  unfolding more
  row_line_lem w apart z = record {
    axes = axes;
    picture = drawn;
    areas =
        sym (append-nil (areas_of (with_words v.picture (words_in l))))
        ∙ ap (λ (m : List Line). areas_of (with_words v.picture (words_in l)) ++ map area_in m) (sym (other_kind row area ls l w (unfold same in refl) ∙ apart));
    placements = agrees.placements ∙ sym (other_items row ls l w (unfold same in refl) (unfold same in refl));
    cells = agrees.cells ∙ ap (map held) (sym (other_cells row 1 ls l w (unfold same in refl)));
  }
    where
      own : lines_with row (ls ++ (l ∷ [])) ≡ lines_with row ls ++ (l ∷ [])
      own = own_kind row ls l w

      drawn : with_words v.picture (words_in l) ≡ picture_in (ls ++ (l ∷ []))
      drawn = ap (λ (m : Picture). with_words m (words_in l)) agrees.picture ∙ sym (ap (map words_in) own ∙ map-append words_in (lines_with row ls) (l ∷ []))

      before : Picture
      before = map words_in (lines_with row ls)

      -- all rows have the width of the first
      wide : (p : Picture) (ws : List Word) → other_width p (length ws) ≡ false → max (width_of p) (length ws + 1 - 1) ≡ width_of (p ++ (ws ∷ []))
      wide [] ws e = omega arith
      wide (first ∷ rest) ws e = alike (eqb (length ws) (length first)) refl e
        where
          alike : (t : Bool) → eqb (length ws) (length first) ≡ t → not t ≡ false → max (length first) (length ws + 1 - 1) ≡ length first
          alike true q y = omega (arith, eqb-true (length ws) (length first) q)
          alike false q y = absurd (false≢true (sym y))

      even : other_width before (length (words_in l)) ≡ false
      even = ap (λ (m : Picture). other_width m (length (words_in l))) (sym agrees.picture) ∙ (row_taken v (words_in l) z).width

      axes : (a : Axis) → AxisAgrees a (chosen a (ls ++ (l ∷ []))) (view_in (drawn_row v (words_in l)) a)
      axes Column =
          subst (λ (c : Chosen). AxisAgrees Column c (raised v.columns (length (words_in l) + 1))) (sym (chosen_more row (is_on Column l) Column ls l w refl))
          (row-agrees Column (chosen Column ls) v.columns (agrees.axes Column) l (is_on Column l) (length (words_in l) + 1)
          (wide before (words_in l) even ∙ ap width_of (sym (map-append words_in (lines_with row ls) (l ∷ [])))))
      axes Row =
          subst (λ (c : Chosen). AxisAgrees Row c (raised v.rows (length v.picture + 2))) (sym (chosen_more row (is_on Row l) Row ls l w refl))
          (row-agrees Row (chosen Row ls) v.rows (agrees.axes Row) l (is_on Row l) (length v.picture + 2)
          (omega (arith, ap length agrees.picture, ap length (map-append words_in (lines_with row ls) (l ∷ [])), length-append before (words_in l ∷ []))))

  axis-in : (a : Axis) → OnAxis l a → axis_in (at l 1) ≡ a
  unfolding same
  axis-in Column o = rw o
  axis-in Row o = rw o

  end_in_lem : (f g m : List ℕ) (e : PlaceEnd) → EndReads f m e → placed_end g e ≡ end_in f g m
  end_in_lem f g m e r = ap₂ (λ (k : ℕ) (n : ℤ). record { end = record { kind = k; number = n }; name = cond (uses_name k) g [] }) r.kind r.number

  -- any record
  record-agrees : Apart ls v → (r : Record) → Says l r → Reads l r → fault_of r ≡ 0 → late_at (stage_of v r) v.stage ≡ false → (record_step v l r).fault ≡ 0 → Agrees (ls ++ (l ∷ [])) (record_step v l r).panel
  unfolding record_step same more
  record-agrees x (Fault n) s h z g y = absurd (h z)
  record-agrees x (AxisLine a) s h z g y =
      let b = a.axis in
      on_axis_lem axis s.0.word refl refl refl refl (λ c. refl) b s.1 _
      (axis-agrees b (chosen b ls) (view_in v b) (agrees.axes b) l (bit a.definite) a.inner a.rule a.gap (λ i. record { seen = 1; definite = h.definite i; inner = h.inner i; rule = h.rule i; gap = h.gap i }))
  record-agrees x (Area a) s h z g y = area-line (edges_of a) s.word h y
  record-agrees x (Name a) s h z g y =
      on_axis_lem name s.0.word refl refl refl refl (λ c. refl) a s.1 _
      (template-agrees a (chosen a ls) (view_in v a) (agrees.axes a) l (piece (a_name (at l 2))) _ (name-written (view_in v a) (at l 2) y) (rw s.0.word))
  record-agrees x (Track a low high) s h z g y =
      on_axis_lem track s.0.word refl refl refl refl (λ c. refl) a s.1 _
      (template-agrees a (chosen a ls) (view_in v a) (agrees.axes a) l (piece (a_track (record { min = low; max = high }))) _ (track-written (view_in v a) low high y) (rw (s.0.word, h.0, h.1)))
  record-agrees x (Repeat a n) s h z g y =
      let q = h z in
      on_axis_lem repeat s.0.word refl refl refl refl (λ c. refl) a s.1 _
      (template-agrees a (chosen a ls) (view_in v a) (agrees.axes a) l (opening (repeat_kind n.kind) n.number) _ (repeat-written (view_in v a) n.kind n.number y) (rw (s.0.word, q.kind, q.number)))
  record-agrees x (End a) s h z g y =
      on_axis_lem end s.0.word refl refl refl refl (λ c. refl) a s.1 _
      (template-agrees a (chosen a ls) (view_in v a) (agrees.axes a) l closing _ (end-written (view_in v a) y) (rw s.0.word))
  record-agrees x (Spare a low high) s h z g y =
      on_axis_lem spare s.0.word refl refl refl refl (λ c. refl) a s.1 _
      (spare-agrees a (chosen a ls) (view_in v a) (agrees.axes a) l low high (ap₂ (λ (x w : ℕ). record { min = x; max = w }) h.0 h.1) y)
  record-agrees x (Extra a n p) s h z g y = on_axis_lem extra s.0.word refl refl refl refl (λ c. refl) a s.1 _ (extra-agrees a (chosen a ls) (view_in v a) (agrees.axes a) l n p h.0 h.1)
  record-agrees x (Item a i) s h z g y = on_axis_lem item s.0.word refl refl refl refl (λ c. refl) a s.1 _ (item-agrees a (chosen a ls) (view_in v a) (agrees.axes a) l i h y)
  record-agrees x (Place a s e) o h z g y =
      place-line a _ _ o.0.word
      (λ i. record { axis = sym (axis-in a o.1) i; cell = false; start = end_in_lem (at l 2) (at l 3) (at l 4) s h.0 i; end = end_in_lem (at l 5) (at l 6) (at l 7) e h.1 i }) y
  record-agrees x (Cell cs ce rs re) s h z g y =
      cell-line _ _ _ _ s.word
      (λ i. record { axis = Column; cell = true; start = end_in_lem (at l 1) (at l 2) (at l 3) cs h.0.0 i; end = end_in_lem (at l 4) (at l 5) (at l 6) ce h.0.1 i }
      ∷ record { axis = Row; cell = true; start = end_in_lem (at l 7) (at l 8) (at l 9) rs h.1.0 i; end = end_in_lem (at l 10) (at l 11) (at l 12) re h.1.1 i }
      ∷ []) x.counted y
  record-agrees x (PictureRow n) s h z g y =
      let fault : (picture_step v (words_in l)).fault ≡ 0 = rw g at y in
      rw g (subst (Agrees (ls ++ (l ∷ []))) (sym (row_taken v (words_in l) fault).panel) (row_line_lem s.word (x.timely g) fault))

-- ---- the lines one after the other

-- what the panel says of the lines before, and an accepted line, it says of one line more
pub line-agrees : (ls : List Line) (v : PanelView) → Agrees ls v → Apart ls v → (l : Line) → (line_step v l).fault ≡ 0 → Agrees (ls ++ (l ∷ [])) (line_step v l).panel
line-agrees ls v agrees apart l z =
    let c = clean_line v l z in
    let r = record_of l in
    subst (Agrees (ls ++ (l ∷ []))) (sym c.panel)
    (staged (stage_of v r) (record_step v l r).panel (record-agrees ls v agrees l apart r (record_says l) (record_reads l) c.own c.timely c.step))
  where
    staged : (n : ℕ) (w : PanelView) → Agrees (ls ++ (l ∷ [])) w → Agrees (ls ++ (l ∷ [])) (at_stage n w)
    staged n w p = record { axes = both; picture = p.picture; areas = p.areas; placements = p.placements; cells = p.cells }
      where
        both : (a : Axis) → AxisAgrees a (chosen a (ls ++ (l ∷ []))) (view_in (at_stage n w) a)
        both Column = p.axes Column
        both Row = p.axes Row

-- a line keeps rows and `area` lines apart
module _ (ls : List Line) (v : PanelView) (apart : Apart ls v) (l : Line) where
  abbrev longer : List Line
  longer = ls ++ (l ∷ [])

  -- one line more is counted
  one_more_lem : (w : PanelView) → w.lines ≡ v.lines → next_line w.lines ≡ held (length longer)
  one_more_lem w k = omega (arith, k, apart.counted, length-append ls (l ∷ []))

  -- after any other record both are late
  other-apart : (j : Kind) (w : PanelView) → w.lines ≡ v.lines → at l 0 ≡ word j → same (word j) (word row) ≡ false → same (word j) (word area) ≡ false → Apart longer (at_stage 3 w)
  other-apart j w c o d e =
      record {
        undrawn = λ h. absurd (omega (arith, h));
        timely = λ h. absurd (false≢true (sym h));
        either = keep apart.either;
        counted = one_more_lem w c;
      }
    where
      keep : (lines_with row ls ≡ []) ⊎ (lines_with area ls ≡ []) → (lines_with row longer ≡ []) ⊎ (lines_with area longer ≡ [])
      keep (inl h) = inl (other_kind j row ls l o d ∙ h)
      keep (inr h) = inr (other_kind j area ls l o e ∙ h)

  -- what is not late stands at its place or before
  at_most : (n : ℕ) → late_at n v.stage ≡ false → v.stage ≤ n
  at_most n h = pick (leb v.stage n) refl
    where
      pick : (t : Bool) → leb v.stage n ≡ t → v.stage ≤ n
      pick true e = leb-true v.stage n e
      pick false e = absurd (late-no n v.stage h (inl (leb-false v.stage n e)))

  at_first : (n : ℕ) → n ≤ 0 → late_at 2 n ≡ false
  at_first n h = rw (zero n h)
    where
      zero : (n : ℕ) → n ≤ 0 → n ≡ 0
      zero n h = omega arith

  record_apart : (r : Record) (w : PanelView) → w.lines ≡ v.lines → Says l r → Reads l r → fault_of r ≡ 0 → late_at (stage_of v r) v.stage ≡ false → Apart longer (at_stage (stage_of v r) w)
  unfolding same
  record_apart (Fault n) w c s h f g = absurd (h f)
  record_apart (AxisLine a) w c s h f g =
      let m = at_most 0 g in
      let rows : lines_with row longer ≡ [] = other_kind axis row ls l s.0.word refl ∙ apart.undrawn (omega (arith, m)) in
      record { undrawn = λ k. rows; timely = λ k. other_kind axis area ls l s.0.word refl ∙ apart.timely (at_first v.stage m); either = inl rows; counted = one_more_lem w c }
  record_apart (Area a) w c s h f g =
      let rows : lines_with row longer ≡ [] = other_kind area row ls l s.word refl ∙ apart.undrawn (at_most 1 g) in
      record { undrawn = λ k. rows; timely = λ k. absurd (false≢true (sym k)); either = inl rows; counted = one_more_lem w c }
  record_apart (Name a) w c s h f g = other-apart name w c s.0.word refl refl
  record_apart (Track a low high) w c s h f g = other-apart track w c s.0.word refl refl
  record_apart (Repeat a n) w c s h f g = other-apart repeat w c s.0.word refl refl
  record_apart (End a) w c s h f g = other-apart end w c s.0.word refl refl
  record_apart (Spare a low high) w c s h f g = other-apart spare w c s.0.word refl refl
  record_apart (Extra a n p) w c s h f g = other-apart extra w c s.0.word refl refl
  record_apart (Item a i) w c s h f g = other-apart item w c s.0.word refl refl
  record_apart (Place a u e) w c s h f g = other-apart place w c s.0.word refl refl
  record_apart (Cell cs ce rs re) w c s h f g = other-apart cell w c s.word refl refl
  record_apart (PictureRow n) w c s h f g =
      let areas : lines_with area longer ≡ [] = other_kind row area ls l s.word refl ∙ apart.timely g in
      record { undrawn = λ k. absurd (omega (arith, k)); timely = λ k. areas; either = inr areas; counted = one_more_lem w c }

  pub line-apart : (line_step v l).fault ≡ 0 → Apart longer (line_step v l).panel
  line-apart z =
      let c = clean_line v l z in
      subst (Apart longer) (sym c.panel) (record_apart (record_of l) (record_step v l (record_of l)).panel (record_lines_lem v l (record_of l)) (record_says l) (record_reads l) c.own c.timely)

-- and no repeat is left open
record AgreesEnded (ls : List Line) (v : PanelView) : Type 0 where
  agrees : Agrees ls v
  apart : Apart ls v
  closed : (a : Axis) → (view_in v a).unended ≡ none

ended-agrees : (n : ℕ) (ls : List Line) (v : PanelView) → Agrees ls v → Apart ls v → (ended n v).fault ≡ 0 → AgreesEnded ls (ended n v).view
unfolding ended end_fault
ended-agrees n ls v agrees apart = go (eqb (end_fault v) 0) refl
  where
    open_none : (u : Unended) → open_fault u ≡ 0 → u ≡ none
    open_none none z = refl
    open_none (inside r) z = absurd (not-zero 0 z)

    axis-closed : (x : AxisView) → axis_fault x ≡ 0 → x.unended ≡ none
    axis-closed x z = open_none x.unended (first_zero (open_fault x.unended) (first_of (count_fault x) (entries_fault x)) z).0

    closed : end_fault v ≡ 0 → (a : Axis) → (view_in v a).unended ≡ none
    closed z Column = axis-closed v.columns (first_zero (axis_fault v.columns) (axis_fault v.rows) z).0
    closed z Row = axis-closed v.rows (first_zero (axis_fault v.columns) (axis_fault v.rows) z).1

    go : (t : Bool) → eqb (end_fault v) 0 ≡ t → (cond t (outcome 0 0 v) (outcome (end_fault v) n v)).fault ≡ 0 → AgreesEnded ls (cond t (outcome 0 0 v) (outcome (end_fault v) n v)).view
    go true e z = record { agrees = agrees; apart = apart; closed = closed (eqb-true (end_fault v) 0 e) }
    go false e z = absurd (eqb-false (end_fault v) 0 e z)

run-agrees : (n : ℕ) (parts : List (List ℕ)) (before : List Line) (v : PanelView) → Agrees before v → Apart before v → (run n parts v).fault ≡ 0 → AgreesEnded (before ++ lines_from parts) (run n parts v).view
unfolding run lines_from
run-agrees n [] before v agrees apart z = rw (append-nil before) (ended-agrees n before v agrees apart z)
run-agrees n (l ∷ []) before v agrees apart z = rw (append-nil before) (go (eqb (length l) 0) z)
  where
    go : (t : Bool) → (cond t (ended n v) (outcome 1 n v)).fault ≡ 0 → AgreesEnded before (cond t (ended n v) (outcome 1 n v)).view
    go true y = ended-agrees n before v agrees apart y
    go false y = absurd (not-zero 0 y)
run-agrees n (l ∷ m ∷ ls) before v agrees apart z = go (λ w p q y. run-agrees (n + 1) (m ∷ ls) (before ++ (split 9 l ∷ [])) w p q y) (eqb (line_step v (split 9 l)).fault 0) refl z
  where
    all : List Line
    all = before ++ (split 9 l ∷ lines_from (m ∷ ls))

    go : ((w : PanelView) → Agrees (before ++ (split 9 l ∷ [])) w → Apart (before ++ (split 9 l ∷ [])) w → (run (n + 1) (m ∷ ls) w).fault ≡ 0 → AgreesEnded ((before ++ (split 9 l ∷ [])) ++ lines_from (m ∷ ls)) (run (n + 1) (m ∷ ls) w).view)
        → (t : Bool) → eqb (line_step v (split 9 l)).fault 0 ≡ t
        → (cond t (run (n + 1) (m ∷ ls) (line_step v (split 9 l)).panel) (outcome (line_step v (split 9 l)).fault n v)).fault ≡ 0
        → AgreesEnded all (cond t (run (n + 1) (m ∷ ls) (line_step v (split 9 l)).panel) (outcome (line_step v (split 9 l)).fault n v)).view
    go rest true e y =
        subst (λ (k : List Line). AgreesEnded k (run (n + 1) (m ∷ ls) (line_step v (split 9 l)).panel).view) (append_assoc before (split 9 l ∷ []) (lines_from (m ∷ ls)))
        (let f = eqb-true (line_step v (split 9 l)).fault 0 e in rest (line_step v (split 9 l)).panel (line-agrees before v agrees apart (split 9 l) f) (line-apart before v apart (split 9 l) f) y)
    go rest false e y = absurd (eqb-false (line_step v (split 9 l)).fault 0 e y)

pub empty_agrees : Agrees [] empty_view
unfolding empty_view empty_axis those last_of largest is_among template_lines rows_from placements_of cells_from
empty_agrees = record { axes = axes; picture = refl; areas = refl; placements = refl; cells = refl }
  where
    undrawn : (a : Axis) → 0 ≡ max (drawn_in a []) 0
    undrawn Column = refl
    undrawn Row = refl

    nothing : (a : Axis) → AxisAgrees a (chosen a []) empty_axis
    nothing a = record {
      line = refl;
      template = refl;
      spares = refl;
      negative = refl;
      positive = refl;
      held = length-replicate {A = ℕ} 30000 0;
      marks = λ i h. get_or-replicate {A = ℕ} 30000 i 0 0 h;
      areas = undrawn a;
    }

    axes : (a : Axis) → AxisAgrees a (chosen a []) (view_in empty_view a)
    axes Column = nothing Column
    axes Row = nothing Row

pub empty_apart : Apart [] empty_view
unfolding empty_view those
empty_apart = record { undrawn = λ h. refl; timely = λ h. refl; either = inl refl; counted = refl }

fold-agrees : (s : List ℕ) → (fold_of s).fault ≡ 0 → AgreesEnded (lines_of s) (fold_of s).view
unfolding fold_of
fold-agrees s = go (ltb 32768 (length s))
  where
    go : (t : Bool) → (cond t (outcome 1 0 empty_view) (run 1 (split 10 s) empty_view)).fault ≡ 0 → AgreesEnded (lines_of s) (cond t (outcome 1 0 empty_view) (run 1 (split 10 s) empty_view)).view
    go true z = absurd (not-zero 0 z)
    go false z = run-agrees 1 (split 10 s) [] empty_view empty_agrees empty_apart z

-- a sheet has at most as many lines as bytes
few-parts : (b : ℕ) (s : List ℕ) → length (split b s) ≤ length s + 1
unfolding split
few-parts b [] = omega arith
few-parts b (x ∷ s) = go (eqb x b) (few-parts b s)
  where
    go : (t : Bool) → length (split b s) ≤ length s + 1 → length (cond t ([] ∷ split b s) (onto x (split b s))) ≤ length (x ∷ s) + 1
    go true h = omega (arith, h)
    go false h = omega (arith, h, length-onto x b s)

few_from : (parts : List (List ℕ)) → length (lines_from parts) ≤ length parts - 1
unfolding lines_from
few_from [] = omega arith
few_from (l ∷ []) = omega arith
few_from (l ∷ m ∷ ls) = omega (arith, few_from (m ∷ ls))

few-lines : (s : List ℕ) → length (lines_of s) ≤ length s
few-lines s = omega (arith, few_from (split 10 s), few-parts 10 s)

short_sheet : (s : List ℕ) → (fold_of s).fault ≡ 0 → length s ≤ 32768
unfolding fold_of
short_sheet s = go (ltb 32768 (length s)) refl
  where
    go : (t : Bool) → ltb 32768 (length s) ≡ t → (cond t (outcome 1 0 empty_view) (run 1 (split 10 s) empty_view)).fault ≡ 0 → length s ≤ 32768
    go true e z = absurd (not-zero 0 z)
    go false e z = ltb-false 32768 (length s) e

-- ---- the laws

-- the view of every sheet that the display call accepts is what its lines say
pub display_says : (s : List ℕ) → (display_of s).fault ≡ 0 → PanelSays (lines_of s) (display_of s).view
unfolding display_of
display_says s z =
    record {
      axes = axis-says;
      picture = p.agrees.picture;
      areas = p.agrees.areas ∙ ap (λ (m : Picture). areas_of m ++ map area_in (lines_with area (lines_of s))) p.agrees.picture;
      placements = p.agrees.placements;
      cells = p.agrees.cells ∙ all_held 1 (lines_of s) (omega (arith, few-lines s, short_sheet s (display_former_lem s z).1));
    }
  where
    p : AgreesEnded (lines_of s) (fold_of s).view
    p = fold-agrees s (display_former_lem s z).1

    axis-says : (a : Axis) → AxisSays a (lines_of s) (view_in (display_of s).view a)
    axis-says a =
        let x : AxisView = view_in (display_of s).view a in
        let agrees : AxisAgrees a (chosen a (lines_of s)) x = p.agrees.axes a in
        let closed : x.unended ≡ none = p.closed a in
        let lines : template_lines x.template ≡ map template_line_in (template_in a (lines_of s)) =
        sym (append-nil (template_lines x.template)) ∙ ap (λ (u : Unended). template_lines x.template ++ open_lines u) (sym closed) ∙ agrees.template in
        record {
          line = agrees.line;
          template = lines;
          ended = closed;
          names =
              ap (λ (u : Unended). map name_of (names_of (written x.template u))) closed
              ∙ sym (names_from_lem 0 x.template)
              ∙ ap (picked name_said) lines
              ∙ picked-lines name_said (λ l. at l 2) name name-one a (lines_of s);
          tracks = sym (tracks_of_lem x.template) ∙ ap (picked track_said) lines ∙ picked-lines track_said sizes_in track track-one a (lines_of s);
          spares = agrees.spares;
          negative = agrees.negative;
          positive = agrees.positive;
          bytes = agrees.held;
          marks = agrees.marks;
          areas = agrees.areas;
        }

-- and all its lines are counted
pub display_lines : (s : List ℕ) → (display_of s).fault ≡ 0 → (display_of s).view.lines ≡ length (lines_of s)
unfolding display_of
display_lines s z =
    let f = (display_former_lem s z).1 in
    omega (arith, (fold-agrees s f).apart.counted, few-lines s, short_sheet s f)

-- it has rows or `area` lines, but not both
pub display_either : (s : List ℕ) → (display_of s).fault ≡ 0 → (lines_with row (lines_of s) ≡ []) ⊎ (lines_with area (lines_of s) ≡ [])
display_either s z = (fold-agrees s (display_former_lem s z).1).apart.either

-- and of every accepted sheet
pub view_says : (s : List ℕ) → (sheet_of s).fault ≡ 0 → PanelSays (lines_of s) (sheet_of s).view
unfolding sheet_of
view_says s z = display_says s (accepted_former s z).1

pub view_lines : (s : List ℕ) → (sheet_of s).fault ≡ 0 → (sheet_of s).view.lines ≡ length (lines_of s)
unfolding sheet_of
view_lines s z = display_lines s (accepted_former s z).1
