-- The lines of a sheet from a place on: what the one that starts there says of a row that follows. Assumes nothing.
use Prim.Native.Nat.{ℕ, ◌+◌, ◌-◌, ◌≤◌, ◌<◌}
use mathlib.Core.Path.{◌≡◌, refl, sym, ap, ◌∙◌}
use mathlib.Core.List.{List, [], ◌∷◌}
use mathlib.Core.Bool.{Bool, true, false, cond, not, ◌&&◌}
use native.Mathlib.Omega.{arith}
use lib.Dec.{eqb}
use lib.ListN.{length, take, drop, length-drop}
use mathlib.Core.Logic.{⊎_elim}
use Rattle.text.specs.Split.{before, split}
use Rattle.text.proofs.Held.{le_or_lt}
use Rattle.text.proofs.Laws.{before_le, split-more, split-no-more, split-end}
use Rattle.sheet_forms.specs.Forms.{row}
use Rattle.panel_tables.specs.View.{PanelView}
use Rattle.picture_rules.specs.Steps.{taken_of}
use Rattle.sheet_rules.specs.Contents.{Line, lines_from}
use Rattle.sheet_rules.specs.Sheet.{broken_at}
use Rattle.sheet_rules.specs.Kinds.{is_kind, is_one, later_kinds, row_follows}
use Rattle.picture_end.specs.declared.class.LineClass.{LineClass}
use Rattle.picture_end.specs.declared.class.LineClass.TheVariants.{Between, Row, Later}
use Rattle.picture_end.specs.Steps.{class_number, class_of, broken_row}
use Rattle.picture_end.proofs.Classes.{parts-some}

-- ---- one line

module _ (fs : Line) (rest : List Line) (c : ℕ) (class : c ≡ class_of fs) where
  pub follows-told : (c ≡ 0 → ⊥) → eqb c 1 ≡ row_follows (fs ∷ rest)
  unfolding class_of row_follows
  follows-told h = go (is_kind row fs) (is_one later_kinds fs) class
    where
      go : (t u : Bool) → c ≡ cond t 1 (cond u 2 0) → eqb c 1 ≡ cond t true (cond u false (row_follows rest))
      go true u e = rw e
      go false true e = rw e
      go false false e = absurd (h e)

  pub follows-later : c ≡ 0 → row_follows (fs ∷ rest) ≡ row_follows rest
  unfolding class_of row_follows
  follows-later h = go (is_kind row fs) (is_one later_kinds fs) class
    where
      go : (t u : Bool) → c ≡ cond t 1 (cond u 2 0) → cond t true (cond u false (row_follows rest)) ≡ row_follows rest
      go true u e = absurd (omega (arith, e, h))
      go false true e = absurd (omega (arith, e, h))
      go false false e = refl

-- ---- the lines

lines_cons : (l : List ℕ) (ps : List (List ℕ)) → 1 ≤ length ps → lines_from (l ∷ ps) ≡ split 9 l ∷ lines_from ps
unfolding lines_from
lines_cons l [] h = absurd (omega arith)
lines_cons l (p ∷ ps) h = refl

lines-one : (l : List ℕ) → row_follows (lines_from (l ∷ [])) ≡ false
unfolding lines_from row_follows
lines-one l = refl

pub left_end : (s : List ℕ) (at : ℕ) → length s ≤ at → row_follows (lines_from (split 10 (drop at s))) ≡ false
left_end s at h = ap (λ (ps : List (List ℕ)). row_follows (lines_from ps)) (split-end 10 s at h) ∙ lines-one []

module _ (s : List ℕ) (at e : ℕ) (fits : at ≤ length s) (found : e ≡ at + before 10 (drop at s)) where
  -- no line feed follows
  pub left_open : e ≡ length s → row_follows (lines_from (split 10 (drop at s))) ≡ false
  left_open h = ap (λ (ps : List (List ℕ)). row_follows (lines_from ps)) (split-no-more 10 s at e fits found h) ∙ lines-one _

  pub left-more : (e ≡ length s → ⊥) → lines_from (split 10 (drop at s)) ≡ split 9 (take (e - at) (drop at s)) ∷ lines_from (split 10 (drop (e + 1) s))
  left-more h = ap lines_from (split-more 10 s at e fits found h) ∙ lines_cons _ _ (parts-some 10 (drop (e + 1) s))

pub left_none : (s : List ℕ) (at : ℕ) → length s ≤ at + before 10 (drop at s) → row_follows (lines_from (split 10 (drop at s))) ≡ false
left_none s at h =
    ⊎_elim
    (λ k. left_open s at (at + before 10 (drop at s)) k refl (omega (arith, h, before_le 10 (drop at s), length-drop at s)))
    (λ k. left_end s at (omega (arith, k)))
    (le_or_lt at (length s))

module _ (fs : Line) (rest : List Line) (c : LineClass) (class : class_number c ≡ class_of fs) where
  pub follows-row : c ≡ Row → true ≡ row_follows (fs ∷ rest)
  follows-row h = ap (λ (d : LineClass). eqb (class_number d) 1) (sym h) ∙ follows-told fs rest (class_number c) class (λ e. omega (arith, e, ap class_number h))

  pub follows-late : c ≡ Later → false ≡ row_follows (fs ∷ rest)
  follows-late h = ap (λ (d : LineClass). eqb (class_number d) 1) (sym h) ∙ follows-told fs rest (class_number c) class (λ e. omega (arith, e, ap class_number h))

  pub follows-between : c ≡ Between → row_follows (fs ∷ rest) ≡ row_follows rest
  follows-between h = follows-later fs rest (class_number c) class (ap class_number h)

-- whether a row follows from a place on, by the line that ends at the next line feed
module _ (s : List ℕ) (at e : ℕ) (found : e ≡ at + before 10 (drop at s)) (inside : e < length s) (c : LineClass) (class : class_number c ≡ class_of (split 9 (take (e - at) (drop at s)))) where
  fits : at ≤ length s
  fits = omega (arith, found, inside)

  h : e ≡ length s → ⊥
  h q = omega (arith, q, inside)

  pub ahead_row : c ≡ Row → true ≡ row_follows (lines_from (split 10 (drop at s)))
  ahead_row r = rw (left-more s at e fits found h) (follows-row _ (lines_from (split 10 (drop (e + 1) s))) c class r)

  pub ahead_later : c ≡ Later → false ≡ row_follows (lines_from (split 10 (drop at s)))
  ahead_later r = rw (left-more s at e fits found h) (follows-late _ (lines_from (split 10 (drop (e + 1) s))) c class r)

  pub ahead_between : c ≡ Between → row_follows (lines_from (split 10 (drop at s))) ≡ row_follows (lines_from (split 10 (drop (e + 1) s)))
  ahead_between r = rw (left-more s at e fits found h) (follows-between _ (lines_from (split 10 (drop (e + 1) s))) c class r)

-- the number of a row
pub class_row : (c : LineClass) → class_number c ≡ 1 → c ≡ Row
class_row Between e = absurd (omega arith)
class_row Row e = refl
class_row Later e = absurd (omega arith)

-- ---- the last row of a broken picture

module _ (fs : Line) (rest : List Line) (b : Bool) where
  pub broken-not : b ≡ false → false ≡ broken_row b fs rest
  broken-not e = rw e (go (is_kind row fs))
    where
      go : (t : Bool) → false ≡ (t && false)
      go true = refl
      go false = refl

  module _ (c : ℕ) (class : c ≡ class_of fs) where
    pub broken-other : (c ≡ 1 → ⊥) → false ≡ broken_row b fs rest
    unfolding class_of
    broken-other h = go (is_kind row fs) class
      where
        go : (t : Bool) → c ≡ cond t 1 (cond (is_one later_kinds fs) 2 0) → false ≡ (t && (b && not (row_follows rest)))
        go true e = absurd (h e)
        go false e = refl

    pub broken-row : b ≡ true → c ≡ 1 → (f : Bool) → f ≡ row_follows rest → not f ≡ broken_row b fs rest
    unfolding class_of
    broken-row e h f g = rw (e, ← g) (go (is_kind row fs) (is_one later_kinds fs) class)
      where
        go : (t u : Bool) → c ≡ cond t 1 (cond u 2 0) → not f ≡ (t && not f)
        go true u k = refl
        go false true k = absurd (omega (arith, h, k))
        go false false k = absurd (omega (arith, h, k))

  pub broken-either : (c : LineClass) → class_number c ≡ class_of fs → (c ≡ Row → b ≡ true → ⊥) → false ≡ broken_row b fs rest
  broken-either c class h = go b refl
    where
      go : (t : Bool) → b ≡ t → false ≡ broken_row b fs rest
      go false e = broken-not e
      go true e = broken-other (class_number c) class (λ k. h (class_row c k) e)

-- the same, of the panel after the line
pub broken-at : (v : PanelView) (fs : Line) (rest : List Line) → broken_row (taken_of v.picture).broken fs rest ≡ broken_at v fs rest
unfolding broken_at
broken-at v fs rest = refl
