-- The order in which the faults of one line are named: no two numbers have one place, 12 stands after 6 and 7 and before 8, 13 after 8, 14 after
-- 13, and 10 is last.
-- Assumes nothing.
use Prim.Native.Nat.{ℕ, suc, ◌<◌}
use mathlib.Core.Path.{◌≡◌, refl, sym, ◌∙◌}
use mathlib.Core.List.{List, [], ◌∷◌}
use mathlib.Core.Bool.{Bool, true, false, cond}
use native.Mathlib.Omega.{arith}
use lib.Dec.{eqb}
use borrow.Author.Tests.{eqb-true}
use Rattle.sheet_forms.specs.Faults.{in_order, place_in, rank_of}

-- two numbers of one place are one
place_same : (xs : List ℕ) (a b : ℕ) → place_in xs a ≡ place_in xs b → a ≡ b
place_same [] a b e = e
place_same (x ∷ xs) a b e = go (place_same xs a b) (eqb a x) (eqb b x) refl refl e
  where
    go : (place_in xs a ≡ place_in xs b → a ≡ b) → (s t : Bool) → eqb a x ≡ s → eqb b x ≡ t → cond s 0 (suc (place_in xs a)) ≡ cond t 0 (suc (place_in xs b)) → a ≡ b
    go rest true true p q z = eqb-true a x p ∙ sym (eqb-true b x q)
    go rest true false p q z = absurd (omega arith)
    go rest false true p q z = absurd (omega arith)
    go rest false false p q z = rest (omega arith)

pub rank_same : (a b : ℕ) → rank_of a ≡ rank_of b → a ≡ b
unfolding rank_of
rank_same a b e = place_same in_order a b e

-- "after 6 and 7 and before 8"
pub overlap-order : (rank_of 6 < rank_of 12) × (rank_of 7 < rank_of 12) × (rank_of 12 < rank_of 8)
unfolding rank_of
overlap-order = (omega arith, omega arith, omega arith)

-- "lowest number first", and "14 .. after 13"
pub picture_order : (rank_of 8 < rank_of 13) × (rank_of 13 < rank_of 14)
unfolding rank_of
picture_order = (omega arith, omega arith)

-- "10 after all of these", and both "come before 10"
pub short-last : (rank_of 8 < rank_of 10) × (rank_of 12 < rank_of 10) × (rank_of 14 < rank_of 10)
unfolding rank_of
short-last = (omega arith, omega arith, omega arith)
