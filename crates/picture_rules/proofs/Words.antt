-- What dots are, byte by byte. Assumes nothing.
use Prim.Native.Nat.{ℕ, zero, suc, ◌<◌, zero-le, suc-le-suc}
use mathlib.Core.Path.{◌≡◌, refl}
use mathlib.Core.List.{[], ◌∷◌}
use mathlib.Core.Bool.{Bool, true, false, cond, false≢true}
use mathlib.Core.Logic.{◌↔◌}
use native.Mathlib.Nat.{le_of_suc-le-suc, not-suc-le-zero}
use lib.Dec.{eqb}
use lib.ListN.{length, get_or}
use borrow.Author.Tests.{eqb-true, eq-eqb}
use Rattle.picture_rules.specs.Picture.{Word, all_dots, is_dots, Dots}

all-dots : (w : Word) → all_dots w ≡ true → (i : ℕ) → i < length w → get_or w i 0 ≡ 46
unfolding all_dots
all-dots [] h i k = absurd (not-suc-le-zero k)
all-dots (b ∷ bs) h i k = go (eqb b 46) refl h (all-dots bs) i k
  where
    go : (t : Bool) → eqb b 46 ≡ t → cond t (all_dots bs) false ≡ true → (all_dots bs ≡ true → (j : ℕ) → j < length bs → get_or bs j 0 ≡ 46) → (i : ℕ) → i < length (b ∷ bs) → get_or (b ∷ bs) i 0 ≡ 46
    go true e g f zero l = eqb-true b 46 e
    go true e g f (suc j) l = f g j (le_of_suc-le-suc l)
    go false e g f j l = absurd (false≢true g)

dots-all : (w : Word) → ((i : ℕ) → i < length w → get_or w i 0 ≡ 46) → all_dots w ≡ true
unfolding all_dots
dots-all [] f = refl
dots-all (b ∷ bs) f = rw (eq-eqb b 46 (f 0 (suc-le-suc zero-le))) (dots-all bs (λ i h. f (suc i) (suc-le-suc h)))

pub dots_exactly : (w : Word) → (is_dots w ≡ true) ↔ Dots w
unfolding is_dots
dots_exactly [] = (λ h. absurd (false≢true h), λ h. absurd (not-suc-le-zero h.0))
dots_exactly (b ∷ bs) = (λ h. (suc-le-suc zero-le, all-dots (b ∷ bs) h), λ h. dots-all (b ∷ bs) h.1)
