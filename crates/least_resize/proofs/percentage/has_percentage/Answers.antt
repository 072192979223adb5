use Rattle.std.proofs.Common.{rules, ◌≡◌, ◌∙◌, refl, ℕ, Bool, true, false, cond, ◌||◌, List, [], ◌∷◌, eqb}
use Rattle.std.specs.List.{list_any}
use Rattle.std.proofs.lemmas.Iterator.{YieldsList-from_slice}
use Rattle.std.proofs.lemmas.Iterator.Search.{any_from_yields_List}
use Rattle.sizing.specs.Words.{sizing_of, kind_of}
use Rattle.least_resize.specs.Percentages.{has_percentage}
use Rattle.least_resize.proofs.percentage.has_percentage.Goals as goal

either : (b c d : Bool) → c ≡ d → (b || c) ≡ cond b true d
either true c d e = refl
either false c d e = e

percentage_any : (ws : List ℕ) → list_any (λ w. eqb (kind_of (sizing_of w)) 1) ws ≡ has_percentage ws
unfolding has_percentage
percentage_any [] = refl
percentage_any (w ∷ ws) = either (eqb (kind_of (sizing_of w)) 1) _ _ (percentage_any ws)

pub returns : goal.returns
returns c =
    let words = c.args.sizes.now in
    any_from_yields_List (λ w. eqb (kind_of (sizing_of w)) 1) _ _ c.any.result c.any.ensures.ran (YieldsList-from_slice words cc) (λ x b q k. search rules) ∙ percentage_any words
