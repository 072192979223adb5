-- A picture and `area` records stand apart: after a row no area is drawn, so no overlap is noted. Assumes nothing.
use Prim.Native.Nat.{ℕ, ◌+◌, ◌≤◌, ◌<◌}
use mathlib.Core.Path.{◌≡◌, refl, sym, ap, ◌∙◌}
use mathlib.Core.List.{List, [], ◌∷◌}
use mathlib.Core.Bool.{Bool, true, false, cond}
use mathlib.Core.Logic.{inl}
use native.Mathlib.Omega.{arith}
use lib.Dec.{eqb, leb}
use borrow.Author.Tests.{eqb-true, leb-true, leb-false}
use Rattle.text.specs.Split.{split}
use Rattle.sheet_forms.specs.Said.{Record}
use Rattle.sheet_forms.specs.Said.{Fault, Axis as AxisLine, Area, Name, Track, Repeat, End, Spare, Extra, Item, Place, PictureRow, Cell}
use Rattle.sheet_forms.specs.Faults.{rank_of, no_row, first_row}
use Rattle.sheet_forms.specs.Forms.{area}
use Rattle.sheet_forms.specs.Records.{record_of}
use Rattle.panel_tables.specs.View.{PanelView}
use Rattle.sheet_rules.specs.Lines.{stage_of, shared_with, line_fault, shared_at, line_step}
use Rattle.sheet_rules.specs.Sheet.{no_overlap, overlap_from}
use Rattle.sheet_rules.specs.Contents.{Line}
use Rattle.sheet_rules.specs.Rows.{late, Holds, First}
use Rattle.sheet_rules.proofs.Says.{Says, record_says}
use Rattle.sheet_rules.proofs.LineRows.{late-no}
use Rattle.sheet_rules.proofs.LineTheorem.{line_first}
use Rattle.sheet_rules.proofs.Pictures.{clean_line}

-- an accepted line never goes back in the kind order
pub stage_rises : (v : PanelView) (fs : Line) → (line_step v fs).fault ≡ 0 → v.stage ≤ (line_step v fs).panel.stage
stage_rises v fs z =
    let c = clean_line v fs z in
    let r = record_of fs in
    let place : (line_step v fs).panel.stage ≡ stage_of v r = ap (λ (w : PanelView). w.stage) c.panel in
    rw place (at_least (stage_of v r) v.stage (λ l. late-no (stage_of v r) v.stage c.timely (inl l)))
  where
    at_least : (n m : ℕ) → (n < m → ⊥) → m ≤ n
    at_least n m h = go (leb m n) refl
      where
        go : (t : Bool) → leb m n ≡ t → m ≤ n
        go true e = leb-true m n e
        go false e = absurd (h (leb-false m n e))

module _ (v : PanelView) (fs : Line) (drawn : 2 ≤ v.stage) where
  -- a late line is not refused by 12
  not-overlap : {n : ℕ} → First (Holds v fs) n → Holds v fs late → n ≡ 12 → ⊥
  unfolding rank_of
  not-overlap (no_row e h) l z = omega (arith, e)
  not-overlap (first_row r e h f) l z = f late (rw (sym e ∙ z) (omega arith)) l

  shared_of_lem : (r : Record) → Says fs r → (line_fault v fs ≡ 12 → shared_with v r ≡ 0)
  shared_of_lem (Fault n) s z = refl
  shared_of_lem (AxisLine a) s z = refl
  shared_of_lem (Area a) s z = absurd (not-overlap (line_first v fs) (area, s, inl drawn) z)
  shared_of_lem (Name a) s z = refl
  shared_of_lem (Track a min max) s z = refl
  shared_of_lem (Repeat a n) s z = refl
  shared_of_lem (End a) s z = refl
  shared_of_lem (Spare a min max) s z = refl
  shared_of_lem (Extra a n p) s z = refl
  shared_of_lem (Item a i) s z = refl
  shared_of_lem (Place a t e) s z = refl
  shared_of_lem (PictureRow n) s z = refl
  shared_of_lem (Cell cs ce rs re) s z = refl

  pub none_shared : shared_at v fs ≡ 0
  unfolding shared_at
  none_shared = go (eqb (line_fault v fs) 12) refl
    where
      go : (t : Bool) → eqb (line_fault v fs) 12 ≡ t → cond t (shared_with v (record_of fs)) 0 ≡ 0
      go true e = shared_of_lem (record_of fs) (record_says fs) (eqb-true (line_fault v fs) 12 e)
      go false e = refl

pub overlap-none : (n : ℕ) (ls : List (List ℕ)) (v : PanelView) → 2 ≤ v.stage → overlap_from n ls v ≡ no_overlap
unfolding overlap_from
overlap-none n [] v h = refl
overlap-none n (l ∷ []) v h = refl
overlap-none n (l ∷ m ∷ ls) v h = rw (none_shared v (split 9 l) h) (go (λ w. overlap-none (n + 1) (m ∷ ls) w) (eqb (line_step v (split 9 l)).fault 0) refl)
  where
    go : ((w : PanelView) → 2 ≤ w.stage → overlap_from (n + 1) (m ∷ ls) w ≡ no_overlap) → (t : Bool) → eqb (line_step v (split 9 l)).fault 0 ≡ t
        → cond t (overlap_from (n + 1) (m ∷ ls) (line_step v (split 9 l)).panel) no_overlap ≡ no_overlap
    go rest true e = rest (line_step v (split 9 l)).panel (omega (arith, h, stage_rises v (split 9 l) (eqb-true (line_step v (split 9 l)).fault 0 e)))
    go rest false e = refl
