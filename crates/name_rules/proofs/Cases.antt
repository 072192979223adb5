-- The cases hold, by computation, and their names meet the conditions of `resolve-css`. Assumes nothing.
use mathlib.Core.Path.{◌≡◌}
use mathlib.Core.Logic.{⊎_elim}
use mathlib.Core.List.Memᴰ
use mathlib.Core.List.{List, [], ◌∷◌, ◌++◌, Memᴰ}
use Prim.Native.Nat.{ℕ, ◌≤◌}
use native.Mathlib.Omega.{arith}
use lib.Dec.{T}
use Rattle.name_rules.specs.Css.{Entry, Area, Side, start, end, edge, suffix}
use Rattle.name_rules.specs.Conditions.{OnExplicitLines}
use Rattle.name_rules.specs.Cases.{every, cases, holds, marked_cases, marks_hold, templates, gives, entry, letter_a, letter_x, two_lines, drawn_area}
use Rattle.name_rules.specs.Rule.{seek, named?}
use Rattle.name_rules.specs.Template.{repeated, passed, rule_from}
use Rattle.name_rules.proofs.Names.{all_lie}

pub cases_hold : T (every holds cases)
unfolding holds seek named?
cases_hold = tt

pub marks_hold_lem : T (every marks_hold marked_cases)
unfolding marks_hold holds seek named?
marks_hold_lem = tt

pub templates_hold : T (every gives templates)
unfolding gives repeated passed rule_from
templates_hold = tt

-- the names of M8 to M11 meet the conditions of `resolve-css`, so the lines of M8, M9 and M11 are those that CSS counts to
module _ {A : Type 0} (f : A → ℕ) (most : ℕ) where
  first-or-later : (a b : A) (l : List A) → f b ≤ most → (Memᴰ a l → f a ≤ most) → Memᴰ a (b ∷ l) → f a ≤ most
  first-or-later a b l h later m = ⊎_elim (λ (e : a ≡ b). rw e h) later (Memᴰ.cases_cons m)

  none_left : (a : A) → Memᴰ a [] → f a ≤ most
  none_left a m = absurd (Memᴰ.not-nil m)

pub two_lines_lie : OnExplicitLines two_lines
two_lines_lie =
    all_lie two_lines (omega arith)
    (λ e. first-or-later (λ (e : Entry). e.line) 4 e (entry 1 letter_x) _ (omega arith)
    (first-or-later (λ (e : Entry). e.line) 4 e (entry 3 letter_x) [] (omega arith) (none_left (λ (e : Entry). e.line) 4 e)))
    (λ a s. none_left (λ (a : Area). edge a s) 4 a)

pub drawn_area_lies : OnExplicitLines drawn_area
drawn_area_lies =
    all_lie drawn_area (omega arith)
    (λ e. first-or-later (λ (e : Entry). e.line) 4 e (entry 1 (letter_a ++ suffix start)) [] (omega arith) (none_left (λ (e : Entry). e.line) 4 e))
    (λ a s. first-or-later (λ (a : Area). edge a s) 4 a (record { name = letter_a; from = 2; to = 4 }) [] (two_edges s) (none_left (λ (a : Area). edge a s) 4 a))
  where
    two_edges : (s : Side) → edge (record { name = letter_a; from = 2; to = 4 }) s ≤ 4
    two_edges start = omega arith
    two_edges end = omega arith
