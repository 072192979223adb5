-- A sum in order, of two lists and of one number more. Assumes nothing.
use mathlib.Core.Path.{◌≡◌, refl}
use mathlib.Core.List.{List, [], ◌∷◌, ◌++◌}
use lib.Ieee.{Float, binary32, add}
use Rattle.sizing.specs.Sums.{sum_from}

pub sum-append : (t : Float) (xs ys : List Float) → sum_from t (xs ++ ys) ≡ sum_from (sum_from t xs) ys
unfolding sum_from
sum-append t [] ys = refl
sum-append t (x ∷ xs) ys = sum-append (add binary32 t x) xs ys

pub sum_one_more : (t : Float) (xs : List Float) (x : Float) → sum_from t (xs ++ (x ∷ [])) ≡ add binary32 (sum_from t xs) x
unfolding sum_from
sum_one_more t xs x = sum-append t xs (x ∷ [])
