-- A law of `codes`, and one of a count that was read. Assumes nothing.
use Prim.Native.Nat.{ℕ, ◌≤◌, zero-le}
use mathlib.Core.Path.{◌≡◌, refl}
use mathlib.Core.List.{List, [], ◌∷◌}
use Rattle.std.specs.List.{list_all}
use mathlib.Core.Bool.{Bool, true, false, cond}
use native.Mathlib.Omega.{arith}
use lib.Dec.{ltb}
use lib.IntN.{pos, negsuc}
use borrow.Author.Tests.{ltb-false}
use Rattle.sheet_forms.specs.Fields.{codes, in_code_range, count_field, count_of}
use Rattle.text.specs.Whole.{Written, none, whole, whole_of, count_in}
use Rattle.std.specs.Prelude.{Ok, Err}
use Rattle.text.specs.declared.NumberFault.TheVariants.{Outside}

-- every byte is of the codes where each is
pub codes_all : (f : List ℕ) → codes f ≡ list_all (λ b. in_code_range b) f
unfolding codes
codes_all [] = refl
codes_all (b ∷ bs) = rw (codes_all bs) (grind arith)

-- a count that was read is at most the largest of its range
pub count_most : (least most : ℕ) (f : List ℕ) → (count_of least most f).value ≤ most
unfolding count_of count_in
count_most least most f = go (whole_of f)
  where
    in_range : (n : ℕ) (t u : Bool) → ltb most n ≡ u → (count_field (cond t (Err Outside) (cond u (Err Outside) (Ok n)))).value ≤ most
    in_range n true u e = zero-le
    in_range n false true e = zero-le
    in_range n false false e = ltb-false most n e

    go : (w : Written) → (count_field (count_in least most w)).value ≤ most
    go none = zero-le
    go (whole (pos n)) = in_range n (ltb n least) (ltb most n) refl
    go (whole (negsuc k)) = zero-le
