-- Dots, as a search of the bytes says them. Assumes nothing.
use Rattle.std.specs.Prelude.{◌≡◌, [], ◌∷◌, false, cond, eqb, length}
use Rattle.std.specs.List.{list_all}
use Rattle.std.proofs.Common.{refl, arith}
use borrow.Author.Tests.{ne_eqb}
use Rattle.picture_rules.specs.Picture.{Word, all_dots, is_dots}

all-dots : (w : Word) → all_dots w ≡ list_all (λ b. eqb b 46) w
unfolding all_dots
all-dots [] = refl
all-dots (b ∷ bs) = rw (all-dots bs) (grind arith)

pub dots_all : (w : Word) → is_dots w ≡ cond (eqb (length w) 0) false (list_all (λ b. eqb b 46) w)
unfolding is_dots
dots_all [] = refl
dots_all (b ∷ bs) = rw (ne_eqb (length (b ∷ bs)) 0 (λ e. omega (arith, e))) (all-dots (b ∷ bs))
