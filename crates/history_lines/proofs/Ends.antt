-- Whether a text has a line feed. Assumes nothing.
use Rattle.std.proofs.Common.{◌≡◌, ℕ, List, [], ◌∷◌, Bool, true, false, cond, not, ◌||◌, eqb, length, refl, suc, sym, ◌∙◌}
use Rattle.std.proofs.Math.Dec.{eqb-suc-suc, eqb-zero-suc}
use Rattle.std.specs.List.{list_any}
use Rattle.text.specs.Split.{before}

pub no_feed : (t : List ℕ) → not (list_any (λ y. eqb y 10) t) ≡ eqb (before 10 t) (length t)
unfolding before
no_feed [] = refl
no_feed (x ∷ xs) = go (eqb x 10) (no_feed xs)
  where
    go : (t : Bool) → not (list_any (λ y. eqb y 10) xs) ≡ eqb (before 10 xs) (length xs) → not (t || list_any (λ y. eqb y 10) xs) ≡ eqb (cond t 0 (suc (before 10 xs))) (suc (length xs))
    go true h = sym (eqb-zero-suc (length xs))
    go false h = h ∙ sym (eqb-suc-suc (before 10 xs) (length xs))
