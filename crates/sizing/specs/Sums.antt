-- Sums of f32 in order (document 01, layer 3).
use Rattle.std.specs.Prelude.{List, [], ◌∷◌, Float}
use Rattle.std.specs.Float.{binary32}
use Rattle.std.specs.Float.Ieee.{add}

-- what a list adds to a sum, in order, each addition rounded once
unfoldable pub sum_from : Float → List Float → Float
sum_from t [] = t
sum_from t (x ∷ xs) = sum_from (add binary32 t x) xs
