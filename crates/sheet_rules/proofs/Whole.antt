-- The picture of a sheet that is not refused is not broken, and no two of its areas share a cell. Assumes nothing.
use Prim.Native.Nat.{ℕ, zero, suc, ◌+◌, ◌-◌, ◌≤◌, ◌<◌}
use mathlib.Core.Path.{◌≡◌, refl, sym, ap, ◌∙◌, subst}
use mathlib.Core.List.{List, [], ◌∷◌}
use mathlib.Core.Bool.{Bool, true, false, cond, not, ◌&&◌, false≢true}
use mathlib.Core.Logic.{◌⊎◌, inl, inr}
use native.Mathlib.Nat.{le_of_suc-le-suc}
use native.Mathlib.Omega.{arith}
use lib.Dec.{eqb, ltb}
use lib.ListN.{length, get_or, length-map}
use borrow.Author.Tests.{eqb-true, eqb-false}
use Rattle.text.specs.Split.{split}
use Rattle.sheet_forms.specs.Forms.{row}
use Rattle.picture_rules.specs.Picture.{Picture, PictureArea, Among, Pairs, NoCell}
use Rattle.picture_rules.specs.Steps.{rows_from, taken_of}
use Rattle.picture_rules.proofs.Theorem.{picture_disjoint}
use Rattle.picture_areas.specs.Runs.{table_area, table_of}
use Rattle.panel_tables.specs.View.{Area, no_area, PanelView, empty_view}
use Rattle.panel_cells.specs.Cells.{Covers, ShareCell, NoPair}
use Rattle.sheet_rules.specs.Kinds.{is_kind, is_one, later_kinds, row_follows}
use Rattle.sheet_rules.specs.Contents.{Line, lines_from}
use Rattle.sheet_rules.specs.Pictures.{areas_of}
use Rattle.sheet_rules.specs.Lines.{line_step}
use Rattle.sheet_rules.specs.Sheet.{outcome, end_fault, ended, run, fold_of, broken_at, broken_from, broken_of, display_of}
use Rattle.sheet_rules.proofs.Chosen.{display_former_lem}
use Rattle.sheet_rules.proofs.KindTest.{kind_exactly}
use Rattle.sheet_rules.proofs.Pictures.{other_picture}

-- ---- no picture has no areas

pub picture_none : areas_of [] ≡ []
unfolding rows_from
picture_none = refl

-- ---- areas of which no two share a cell

among-at : (l : List PictureArea) (d : PictureArea) (j : ℕ) → j < length l → Among (get_or l j d) l
among-at [] d j h = absurd (omega arith)
among-at (a ∷ l) d zero h = inl refl
among-at (a ∷ l) d (suc j) h = inr (among-at l d j (le_of_suc-le-suc h))

pairs_at : (R : PictureArea → PictureArea → Type 0) (l : List PictureArea) (d : PictureArea) → Pairs R l → (i j : ℕ) → i < j → j < length l → R (get_or l i d) (get_or l j d)
pairs_at R [] d p i j h k = absurd (omega arith)
pairs_at R (a ∷ l) d p zero zero h k = absurd (omega arith)
pairs_at R (a ∷ l) d p zero (suc j) h k = p.0 (get_or l j d) (among-at l d j (le_of_suc-le-suc k))
pairs_at R (a ∷ l) d p (suc i) zero h k = absurd (omega arith)
pairs_at R (a ∷ l) d p (suc i) (suc j) h k = pairs_at R l d p.1 i j (le_of_suc-le-suc h) (le_of_suc-le-suc k)

no_box : PictureArea
no_box = record { name = []; box = record { rowstart = 0; rowend = 0; columnstart = 0; columnend = 0 } }

table_at : (l : List PictureArea) (j : ℕ) → get_or (table_of l) j no_area ≡ table_area (get_or l j no_box)
unfolding no_box
table_at [] j = refl
table_at (a ∷ l) zero = refl
table_at (a ∷ l) (suc j) = table_at l j

pub apart_none : (l : List PictureArea) → Pairs NoCell l → NoPair (table_of l)
apart_none l p i j q = clash q.shared
  where
    a : ℕ
    a = i - 1

    b : ℕ
    b = j - 1

    clash : ShareCell (get_or (table_of l) a no_area).edges (get_or (table_of l) b no_area).edges → ⊥
    clash (r, c, x, y) =
        let x' = subst (λ (z : Area). Covers z.edges r c) (table_at l a) x in
        let y' = subst (λ (z : Area). Covers z.edges r c) (table_at l b) y in
        pairs_at NoCell l no_box p a b (omega (arith, q.first, q.order)) (omega (arith, q.first, q.order, q.last, length-map l table_area)) r c
        (x'.top, x'.bottom, x'.left, x'.right) (y'.top, y'.bottom, y'.left, y'.right)

-- ---- the lines one after the other

-- not broken, or a row follows
abbrev Open : PanelView → List Line → Type 0
Open v ls = ((taken_of v.picture).broken ≡ false) ⊎ (row_follows ls ≡ true)

line_open : (v : PanelView) (fs : Line) (ls : List Line) → (line_step v fs).fault ≡ 0 → broken_at (line_step v fs).panel fs ls ≡ false → Open v (fs ∷ ls) → Open (line_step v fs).panel ls
unfolding broken_at row_follows
line_open v fs ls z = go (is_kind row fs) (taken_of (line_step v fs).panel.picture).broken (row_follows ls) refl refl refl
  where
    kept : is_kind row fs ≡ false → (line_step v fs).panel.picture ≡ v.picture
    kept e = other_picture v fs (λ o. false≢true (sym e ∙ (kind_exactly row fs).1 o)) z

    after : (u : Bool) → cond u false (row_follows ls) ≡ true → row_follows ls ≡ true
    after true h = absurd (false≢true h)
    after false h = h

    go : (a b c : Bool) → is_kind row fs ≡ a → (taken_of (line_step v fs).panel.picture).broken ≡ b → row_follows ls ≡ c → (a && (b && not c)) ≡ false
        → ((taken_of v.picture).broken ≡ false) ⊎ (cond a true (cond (is_one later_kinds fs) false (row_follows ls)) ≡ true) → Open (line_step v fs).panel ls
    go true true true d e f y o = inr f
    go true true false d e f y o = absurd (false≢true (sym y))
    go true false c d e f y o = inl e
    go false b c d e f y (inl h) = inl (ap (λ (p : Picture). (taken_of p).broken) (kept d) ∙ h)
    go false b c d e f y (inr h) = inr (after (is_one later_kinds fs) h)

ended-whole : (n : ℕ) (v : PanelView) → (taken_of v.picture).broken ≡ false → (taken_of (ended n v).view.picture).broken ≡ false
unfolding ended
ended-whole n v h = go (eqb (end_fault v) 0)
  where
    go : (t : Bool) → (taken_of (cond t (outcome 0 0 v) (outcome (end_fault v) n v)).view.picture).broken ≡ false
    go true = h
    go false = h

last-whole : (v : PanelView) → Open v [] → (taken_of v.picture).broken ≡ false
unfolding row_follows
last-whole v (inl h) = h
last-whole v (inr h) = absurd (false≢true h)

run-whole : (n : ℕ) (parts : List (List ℕ)) (v : PanelView) → 1 ≤ n → Open v (lines_from parts) → (run n parts v).fault ≡ 0 → broken_from n parts v ≡ 0 → (taken_of (run n parts v).view.picture).broken ≡ false
unfolding run broken_from lines_from
run-whole n [] v one o z b = ended-whole n v (last-whole v o)
run-whole n (l ∷ []) v one o z b = go (eqb (length l) 0) z
  where
    go : (t : Bool) → (cond t (ended n v) (outcome 1 n v)).fault ≡ 0 → (taken_of (cond t (ended n v) (outcome 1 n v)).view.picture).broken ≡ false
    go true y = ended-whole n v (last-whole v o)
    go false y = absurd (omega arith)
run-whole n (l ∷ m ∷ ls) v one o z b =
    go (λ w. run-whole (n + 1) (m ∷ ls) w (omega arith)) (eqb (line_step v (split 9 l)).fault 0) (broken_at (line_step v (split 9 l)).panel (split 9 l) (lines_from (m ∷ ls))) refl refl z b
  where
    fs : Line
    fs = split 9 l

    next : PanelView
    next = (line_step v fs).panel

    go : ((w : PanelView) → Open w (lines_from (m ∷ ls)) → (run (n + 1) (m ∷ ls) w).fault ≡ 0 → broken_from (n + 1) (m ∷ ls) w ≡ 0 → (taken_of (run (n + 1) (m ∷ ls) w).view.picture).broken ≡ false)
        → (t u : Bool) → eqb (line_step v fs).fault 0 ≡ t → broken_at next fs (lines_from (m ∷ ls)) ≡ u
        → (cond t (run (n + 1) (m ∷ ls) next) (outcome (line_step v fs).fault n v)).fault ≡ 0 → cond t (cond u n (broken_from (n + 1) (m ∷ ls) next)) 0 ≡ 0
        → (taken_of (cond t (run (n + 1) (m ∷ ls) next) (outcome (line_step v fs).fault n v)).view.picture).broken ≡ false
    go rest false u e f y x = absurd (eqb-false (line_step v fs).fault 0 e y)
    go rest true true e f y x = absurd (omega (arith, one, x))
    go rest true false e f y x = rest next (line_open v fs (lines_from (m ∷ ls)) (eqb-true (line_step v fs).fault 0 e) f o) y x

-- ---- the sheet

empty_whole : (taken_of empty_view.picture).broken ≡ false
unfolding empty_view rows_from
empty_whole = refl

fold-whole : (s : List ℕ) → broken_of s ≡ 0 → (fold_of s).fault ≡ 0 → (taken_of (fold_of s).view.picture).broken ≡ false
unfolding broken_of fold_of
fold-whole s = go (ltb 32768 (length s))
  where
    go : (t : Bool) → cond t 0 (broken_from 1 (split 10 s) empty_view) ≡ 0 → (cond t (outcome 1 0 empty_view) (run 1 (split 10 s) empty_view)).fault ≡ 0
        → (taken_of (cond t (outcome 1 0 empty_view) (run 1 (split 10 s) empty_view)).view.picture).broken ≡ false
    go true b y = absurd (omega arith)
    go false b y = run-whole 1 (split 10 s) empty_view (omega arith) (inl empty_whole) y b

-- the display call, and so the sheet call, accepts no broken picture
pub display_whole : (s : List ℕ) → (display_of s).fault ≡ 0 → (taken_of (display_of s).view.picture).broken ≡ false
unfolding display_of
display_whole s z = let f = display_former_lem s z in fold-whole s f.0 f.1

-- so no areas of its picture share a cell
pub whole-none : (s : List ℕ) → (display_of s).fault ≡ 0 → NoPair (areas_of (display_of s).view.picture)
whole-none s z = apart_none (taken_of (display_of s).view.picture).areas (picture_disjoint (display_of s).view.picture (display_whole s z))
