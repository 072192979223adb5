-- Percentages among the sizes of a template, by their words.
use Rattle.std.specs.Prelude.{ℕ, Bool, false, cond, true, List, [], ◌∷◌, eqb}
use Rattle.sizing.specs.Words.{sizing_of, kind_of}

-- kind 1 is `pct`
unfoldable pub has_percentage : List ℕ → Bool
has_percentage [] = false
has_percentage (w ∷ ws) = cond (eqb (kind_of (sizing_of w)) 1) true (has_percentage ws)
