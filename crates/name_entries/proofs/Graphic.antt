-- The bytes of a name, one after the other.
use mathlib.Core.Path.{◌≡◌, refl}
use mathlib.Core.Bool.{Bool, true, false, ◌&&◌}
use mathlib.Core.List.{List}
use Prim.Native.Nat.{ℕ, ◌≤◌, ◌<◌}
use mathlib.Core.Logic.{◌⊎◌, inl, inr, ⊎_elim}
use native.Mathlib.Decide.{dec_lt}
use native.Mathlib.Omega.{arith}
use borrow.Author.Tests.{le-leb, lt-leb}
use lib.Dec.{leb}
use lib.ListN.{length}
use Rattle.name_entries.specs.Names.{all_graphic, is_name}

pub sized-name : (l : List ℕ) → 1 ≤ length l → length l ≤ 32 → is_name l ≡ all_graphic l
unfolding is_name
sized-name l h g = rw (le-leb 1 (length l) h, le-leb (length l) 32 g)

pub name-length : (l : List ℕ) → is_name l ≡ true → length l ≤ 32
unfolding is_name
name-length l h = ⊎_elim (λ (g : 32 < length l). absurd (clash l g h)) (λ (g : length l ≤ 32). g) (split (length l))
  where
    split : (n : ℕ) → (32 < n) ⊎ (n ≤ 32)
    split n = elim (dec_lt 32 n) [ yes g ↦ inl g | no g ↦ inr (omega arith) ]

    and-false : (a : Bool) → (a && false) ≡ false
    and-false true = refl
    and-false false = refl

    clash : (l : List ℕ) → 32 < length l → is_name l ≡ true → ⊥
    clash l g t = let f : is_name l ≡ false = rw (lt-leb (length l) 32 g, and-false (leb 1 (length l))) in let z : ◌≡◌ {A = ℕ} 0 1 = cc in omega arith
