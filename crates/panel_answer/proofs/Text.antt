-- The text of an answer is that of its first line and then of the line after it, to the end.
use Prim.Native.Nat.{ℕ, suc, ◌+◌, ◌-◌, ◌≤◌}
use mathlib.Core.Path.{◌≡◌, refl, sym, ap, ◌∙◌}
use mathlib.Core.List.{[], ◌∷◌, ◌++◌, append-nil}
use mathlib.Core.Bool.{Bool, true, false, cond}
use native.Mathlib.Omega.{arith}
use lib.Dec.{ltb}
use borrow.Author.Tests.{ltb-true, ltb-false}
use Rattle.coordinates.specs.Refusals.{Refusal}
use Rattle.coordinates.specs.declared.axis.Axis.{Axis}
use Rattle.coordinates.specs.declared.axis.Axis.TheVariants.{Column, Row}
use Rattle.panel_tables.specs.Axes.{grid_in}
use Rattle.panel_rules.specs.Calls.{words_in}
use Rattle.panel_rules.specs.Runs.{names_of}
use Rattle.panel_calls.specs.Carried.{carried_on}
use Rattle.track_rules.specs.declared.TrackWalk.{TrackWalk}
use Rattle.panel_text.specs.Lines.{refused_line}
use Rattle.panel_answer.specs.Listed.{AnswerLine, Refused, Size, Record, Place, Cell, End}
use Rattle.panel_answer.specs.Answer.{GridHeld, record_count, answer_lines, text_of}
use Rattle.panel_answer.specs.Walk.{line_text, line_after, following, place_from, cell_from, after_axis}
use Rattle.panel_answer.specs.Text.{lines_from, text_from}
use Rattle.panel_answer.proofs.Follows.{all_lines}

-- the first of some
first_less : (n m : ℕ) → 1 ≤ n → suc (n + m) ≡ suc (suc (n - 1 + m))
first_less n m g = omega arith

module _ (h : GridHeld) where
  -- ---- one line fewer is left after a line

  cell-left : (k : ℕ) → lines_from h (cell_from h.grid k) ≡ h.grid.cells - k
  cell-left k = go (ltb k h.grid.cells) refl
    where
      go : (t : Bool) → ltb k h.grid.cells ≡ t → lines_from h (cond t (Cell k) End) ≡ h.grid.cells - k
      go true e = omega (arith, ltb-true k h.grid.cells e)
      go false e = omega (arith, ltb-false k h.grid.cells e)

  place-left : (i : ℕ) → lines_from h (place_from h.grid i) ≡ h.grid.placements - i + h.grid.cells
  place-left i = go (ltb i h.grid.placements) refl
    where
      go : (t : Bool) → ltb i h.grid.placements ≡ t → lines_from h (cond t (Place i) (cell_from h.grid 0)) ≡ h.grid.placements - i + h.grid.cells
      go true e = omega (arith, ltb-true i h.grid.placements e)
      go false e = cell-left 0 ∙ omega (arith, ltb-false i h.grid.placements e)

  record-left : (i : ℕ) (s : TrackWalk) (a : Axis) (m : ℕ) → lines_from h (after_axis h.grid a) ≡ m → ((j : ℕ) (f : TrackWalk) → lines_from h (Record a j f) ≡ suc (record_count h a - (j + 1) + m))
      → lines_from h (line_after h (Record a i s)) ≡ record_count h a - (i + 1) + m
  record-left i s a m e k = go (ltb (i + 1) (record_count h a)) refl
    where
      go : (t : Bool) → ltb (i + 1) (record_count h a) ≡ t
          → lines_from h (cond t (Record a (i + 1) (carried_on (grid_in h.grid a) (words_in (names_of h.tables) a) s i)) (after_axis h.grid a)) ≡ record_count h a - (i + 1) + m
      go true q = k (i + 1) (carried_on (grid_in h.grid a) (words_in (names_of h.tables) a) s i) ∙ omega (arith, ltb-true (i + 1) (record_count h a) q)
      go false q = e ∙ omega (arith, ltb-false (i + 1) (record_count h a) q)

  pub one_fewer : (at : AnswerLine) → 1 ≤ lines_from h at → lines_from h at ≡ suc (lines_from h (line_after h at))
  one_fewer (Refused r) g = refl
  one_fewer (Size Column) g = first_less (record_count h Column) (suc (record_count h Row + (h.grid.placements + h.grid.cells))) (omega arith)
  one_fewer (Size Row) g = first_less (record_count h Row) (h.grid.placements + h.grid.cells) (omega arith)
  one_fewer (Record Column i s) g = ap suc (sym (record-left i s Column _ refl (λ (j : ℕ) (f : TrackWalk). refl)))
  one_fewer (Record Row i s) g = ap suc (sym (record-left i s Row (h.grid.placements + h.grid.cells) (place-left 0 ∙ omega arith) (λ (j : ℕ) (f : TrackWalk). refl)))
  one_fewer (Place i) g = ap suc (sym (place-left (i + 1)))
  one_fewer (Cell k) g = ap suc (sym (cell-left (k + 1)))
  one_fewer End g = omega (arith, g)

  step : (n : ℕ) (at : AnswerLine) → 1 ≤ lines_from h at → following h (suc n) at ≡ line_text h at ∷ following h n (line_after h at)
  step n (Refused r) g = refl
  step n (Size a) g = refl
  step n (Record a i s) g = refl
  step n (Place i) g = refl
  step n (Cell k) g = refl
  step n End g = absurd (omega (arith, g))

  pub text-next : (at : AnswerLine) → 1 ≤ lines_from h at → text_from h at ≡ line_text h at ++ text_from h (line_after h at)
  unfolding text_from
  text-next at g = ap (λ (n : ℕ). text_of (following h n at)) (one_fewer at g) ∙ ap text_of (step (lines_from h (line_after h at)) at g)

  pub text-end : text_from h End ≡ []
  unfolding text_from
  text-end = refl

  pub text-whole : text_from h (Size Column) ≡ text_of (answer_lines h)
  unfolding text_from
  text-whole = ap text_of (all_lines h (lines_from h (Size Column)) (omega arith))

  -- a refusal is printed alone
  pub text-refused : (r : Refusal) → text_from h (Refused r) ≡ refused_line r
  unfolding text_from
  text-refused r = append-nil (refused_line r)
